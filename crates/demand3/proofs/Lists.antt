-- The theorem about lists of calls, proved once, whatever is called and whatever the book. Assumes nothing.
use Prim.Native.Nat.{ℕ, zero, suc}
use native.Mathlib.Omega.{arith}
use mathlib.Core.Path.{◌≡◌}
use mathlib.Core.Bool.{Bool, false}
use mathlib.Core.List.{List, [], ◌∷◌}
use Rattle.demand3.specs.Lists.{run, AllRight, Made}

-- what is seen of a call is right, and state and book stay related, wherever they are related
module _ {State Call Seen Book : Type 0} (look : State → Call → Seen) (next : State → Call → State) (refused : Seen → Bool)
    (after : Book → Call → Bool → Book) (Right : Book → Call → Seen → Type 0) (Related : State → Book → Type 0)
    (right : (s : State) (b : Book) → Related s b → (call : Call) → refused (look s call) ≡ false → Right b call (look s call))
    (related : (s : State) (b : Book) → Related s b → (call : Call) → Related (next s call) (after b call (refused (look s call)))) where
  -- each accepted call of a list is right
  pub all_right : (calls : List Call) (s : State) (b : Book) → Related s b → AllRight refused after Right b calls (run look next s calls)
  unfolding run
  all_right [] s b rel = tt
  all_right (x ∷ calls) s b rel = (right s b rel x, all_right calls (next s x) (after b x (refused (look s x))) (related s b rel x))

  -- what holds of a call wherever state and book are related holds of each call of a list
  pub each_call : (P : Call → Seen → Type 0) → ((s : State) (b : Book) → Related s b → (call : Call) → P call (look s call))
      → (calls : List Call) (s : State) (b : Book) → Related s b → (i : ℕ) (call : Call) (a : Seen)
      → Made calls (run look next s calls) i call a → P call a
  unfolding run
  each_call P h [] s b rel i call a m = let z : ◌≡◌ {A = ℕ} 0 1 = cc in absurd (omega arith)
  each_call P h (x ∷ calls) s b rel zero call a m =
      let p : x ≡ call = cc in
      let q : look s x ≡ a = cc in
      rw (← q, ← p) (h s b rel x)
  each_call P h (x ∷ calls) s b rel (suc i) call a m = each_call P h calls (next s x) (after b x (refused (look s x))) (related s b rel x) i call a m

  -- a question that calls ask, and what the book answers once it has reached it: later calls do not alter the answer
  module _ {Result : Type 0} (Asks : Call → Type 0) (answer : Book → Result) (Gives : Result → Seen → Type 0) (Reached : Book → Type 0)
      (gives_right : (b : Book) → Reached b → (call : Call) (a : Seen) → Asks call → Right b call a → Gives (answer b) a)
      (asked : (s : State) (b : Book) → Related s b → (call : Call) → Asks call → refused (look s call) ≡ false → Reached b)
      (stays : (s : State) (b : Book) → Related s b → (call : Call) → Reached b → Reached (after b call (refused (look s call))))
      (same : (s : State) (b : Book) → Related s b → (call : Call) → Reached b → answer (after b call (refused (look s call))) ≡ answer b) where
    -- a call that asks gives what the book answered already before the list
    gives : (calls : List Call) (s : State) (b : Book) → Related s b → Reached b → (i : ℕ) (call : Call) (a : Seen)
        → Made calls (run look next s calls) i call a → Asks call → refused a ≡ false → Gives (answer b) a
    unfolding run
    gives [] s b rel l i call a m k e = let z : ◌≡◌ {A = ℕ} 0 1 = cc in absurd (omega arith)
    gives (x ∷ calls) s b rel l zero call a m k e =
        let p : x ≡ call = cc in
        let q : look s x ≡ a = cc in
        let r : Right b x (look s x) = right s b rel x (rw (← q) at e) in
        gives_right b l call a k (rw (q, p) at r)
    gives (x ∷ calls) s b rel l (suc i) call a m k e =
        let b' = after b x (refused (look s x)) in
        let g : Gives (answer b') a = gives calls (next s x) b' (related s b rel x) (stays s b rel x l) i call a m k e in
        rw (same s b rel x l) at g

    -- where the first call of a list asks, the book has reached the question
    at_head : (x : Call) (calls : List Call) (s : State) (b : Book) → Related s b → (call : Call) (a : Seen)
        → Made (x ∷ calls) (run look next s (x ∷ calls)) 0 call a → Asks call → refused a ≡ false → Reached b
    unfolding run
    at_head x calls s b rel call a m k e =
        let p : call ≡ x = cc in
        let q : a ≡ look s x = cc in
        asked s b rel x (rw p at k) (rw q at e)

    -- any two calls that ask, anywhere in the list, give one and the same
    pub pairs : (calls : List Call) (s : State) (b : Book) → Related s b → (i k : ℕ) (call call' : Call) (a a' : Seen)
        → Made calls (run look next s calls) i call a → Asks call → refused a ≡ false
        → Made calls (run look next s calls) k call' a' → Asks call' → refused a' ≡ false → (result : Result) × Gives result a × Gives result a'
    unfolding run
    pairs [] s b rel i k call call' a a' m q e m' q' e' = let z : ◌≡◌ {A = ℕ} 0 1 = cc in absurd (omega arith)
    pairs (x ∷ calls) s b rel zero k call call' a a' m q e m' q' e' =
        let l = at_head x calls s b rel call a m q e in
        (answer b, gives (x ∷ calls) s b rel l 0 call a m q e, gives (x ∷ calls) s b rel l k call' a' m' q' e')
    pairs (x ∷ calls) s b rel (suc i) zero call call' a a' m q e m' q' e' =
        let l = at_head x calls s b rel call' a' m' q' e' in
        (answer b, gives (x ∷ calls) s b rel l (suc i) call a m q e, gives (x ∷ calls) s b rel l 0 call' a' m' q' e')
    pairs (x ∷ calls) s b rel (suc i) (suc k) call call' a a' m q e m' q' e' =
        pairs calls (next s x) (after b x (refused (look s x))) (related s b rel x) i k call call' a a' m q e m' q' e'
