-- The producers' numbers and keys of an O line, as a list and by priority. Assumes nothing.
use Prim.Native.Nat.{ℕ, zero, suc, ◌+◌, ◌*◌, ◌<◌}
use mathlib.Core.Path.{◌≡◌, refl, ap}
use mathlib.Core.Bool.{true}
use mathlib.Core.List.{List, [], ◌∷◌}
use native.Mathlib.Omega.{arith}
use native.Mathlib.Nat.{add-zero}
use borrow.Author.Tests.{lt-ltb}
use lib.ListN.{length, get_or}
use Rattle.columns.specs.Fields.{total, fitting}
use Rattle.registration_text.specs.Lines.{widths_of_pairs, pairs_from}

pub total_pairs : (n : ℕ) → total (widths_of_pairs n) ≡ 10 * n
unfolding widths_of_pairs
total_pairs zero = refl
total_pairs (suc n) = rw (total_pairs n) (omega arith)

pub length_widths : (n : ℕ) → length (widths_of_pairs n) ≡ 2 * n
unfolding widths_of_pairs
length_widths zero = refl
length_widths (suc n) = rw (length_widths n) (omega arith)

module _ (f g : ℕ → ℕ) where
  -- each number and key stands at its place
  pub pairs_at : (p n k : ℕ) → k < n
      → (get_or (pairs_from f g p n) (2 * k) 0 ≡ f (p + k)) × (get_or (pairs_from f g p n) (2 * k + 1) 0 ≡ g (p + k))
  unfolding pairs_from
  pairs_at p zero k h = absurd (omega arith)
  pairs_at p (suc n) zero h = (rw (add-zero p), rw (add-zero p))
  pairs_at p (suc n) (suc k) h =
      let a : 2 * suc k ≡ suc (suc (2 * k)) = omega arith in
      let b : 2 * suc k + 1 ≡ suc (suc (2 * k + 1)) = omega arith in
      let c : p + suc k ≡ suc p + k = omega arith in
      let later = pairs_at (suc p) n k (omega arith) in
      (rw (a, c) later.0, rw (b, c) later.1)

  -- the list looks at just these
  pub pairs_from_same : (f' g' : ℕ → ℕ) (p n : ℕ) → ((k : ℕ) → k < p + n → f k ≡ f' k) → ((k : ℕ) → k < p + n → g k ≡ g' k)
      → pairs_from f g p n ≡ pairs_from f' g' p n
  unfolding pairs_from
  pairs_from_same f' g' p zero sources keys = refl
  pairs_from_same f' g' p (suc n) sources keys =
      rw (
        sources p (omega arith),
        keys p (omega arith),
        pairs_from_same f' g' (suc p) n (λ k h. sources k (omega arith)) (λ k h. keys k (omega arith)),
      )

  -- a list whose numbers and keys are these is the list of them
  pub pairs_listed : (p n : ℕ) (ns : List ℕ) → length ns ≡ 2 * n
      → ((k : ℕ) → k < n → (f (p + k) ≡ get_or ns (2 * k) 0) × (g (p + k) ≡ get_or ns (2 * k + 1) 0)) → pairs_from f g p n ≡ ns
  unfolding pairs_from
  pairs_listed p zero [] l same = refl
  pairs_listed p zero (x ∷ ns) l same = absurd (omega arith)
  pairs_listed p (suc n) [] l same = absurd (omega arith)
  pairs_listed p (suc n) (x ∷ []) l same = absurd (omega arith)
  pairs_listed p (suc n) (x ∷ y ∷ ns) l same =
      let here : (f p ≡ x) × (g p ≡ y) = rw (add-zero p) at (same 0 (omega arith)) in
      rw (here.0, here.1)
      (ap (λ (ms : List ℕ). x ∷ y ∷ ms) (pairs_listed (suc p) n ns (omega arith)
      (λ k h.
      let a : 2 * suc k ≡ suc (suc (2 * k)) = omega arith in
      let b : 2 * suc k + 1 ≡ suc (suc (2 * k + 1)) = omega arith in
      let c : p + suc k ≡ suc p + k = omega arith in
      rw (b, a, c) at (same (suc k) (omega arith)))))

  -- numbers of up to three digits and keys of up to five fit their columns
  pub pairs_fit : (p n : ℕ) → ((k : ℕ) → k < n → (f (p + k) < 1000) × (g (p + k) < 100000)) → fitting (widths_of_pairs n) (pairs_from f g p n) ≡ true
  unfolding fitting widths_of_pairs pairs_from
  pairs_fit p zero small = refl
  pairs_fit p (suc n) small =
      let here = rw (add-zero p) at (small 0 (omega arith)) in
      let later = pairs_fit (suc p) n (λ k h. let c : suc p + k ≡ p + suc k = omega arith in rw c (small (suc k) (omega arith))) in
      rw (lt-ltb (f p) 1000 here.0, lt-ltb (g p) 100000 here.1) later
