-- Consumers' turns in the working arrays: what has fallen, when each consumer has gone through so many of its producers. Assumes nothing.
use Prim.Native.Nat.{ℕ, ◌+◌, ◌-◌, ◌*◌, ◌≤◌, ◌<◌}
use mathlib.Core.Path.{◌≡◌, refl, sym, ap, subst, ◌∙◌}
use mathlib.Core.Bool.{Bool, true, false, cond}
use mathlib.Core.List.{List}
use native.Mathlib.Omega.{arith}
use native.Mathlib.Nat.{le_refl, mul-le-mul}
use native.Mathlib.Numerals.{add-one}
use native.Mathlib.Decide.{ℕ_discrete}
use lib.Dec.{eqb, ltb}
use lib.ListN.{length, get_or, set, length-set}
use lib.Seq.{get_or-set_same, get_or-set_other}
use borrow.Author.Count.{below_more}
use borrow.Author.Tests.{eq-eqb, ne_eqb, lt-ltb, le-ltb, ltb-true, ltb-false}
use Rattle.lists.specs.Below.{sum_below}
use Rattle.lists.proofs.Below.{sum_none, sum_next, sum_same, sum_bound}
use Rattle.lists.proofs.Sums.{sum_more, sum_within, sum_raised}
use Rattle.registration.specs.Rules.{place_at}
use Rattle.allocation.specs.Rounds.{offer_of, offer_at, share_of, left_at, share_at}

pub left_none : (offer : ℕ → ℕ) (withdrawal : ℕ) → left_at offer withdrawal 0 ≡ withdrawal
unfolding left_at
left_none offer withdrawal = refl

-- each share has lowered the withdrawal
left_next : (offer : ℕ → ℕ) (withdrawal priority : ℕ)
    → left_at offer withdrawal (priority + 1) ≡ left_at offer withdrawal priority - share_at offer withdrawal priority
unfolding left_at
left_next offer withdrawal priority = rw add-one

-- a consumer at a priority: its share is the definition's, and so is what it has left then
module _ (offer : ℕ → ℕ) (withdrawal priority : ℕ) {left share : ℕ} (here : left ≡ left_at offer withdrawal priority) where
  pub share_here : share ≡ share_of left (offer priority) → share ≡ share_at offer withdrawal priority
  share_here e = e ∙ rw here

  pub left_here : share ≡ share_at offer withdrawal priority → left - share ≡ left_at offer withdrawal (priority + 1)
  left_here e = rw (left_next, e, here)

-- a key gives no more than the supply
pub offer_small : (key supply most : ℕ) → key ≤ 10000 → supply ≤ most → offer_of key supply ≤ most
offer_small key supply most h k = omega (arith, mul-le-mul h (le_refl supply))

-- how many of its producers each consumer has gone through, when those before one have had their turns and it is at a priority
abbrev pub passed_at : List ℕ → (consumer priority : ℕ) → ℕ → ℕ
passed_at counts consumer priority c = cond (ltb c consumer) (get_or counts c 0) (cond (eqb c consumer) priority 0)

either_zero : (b : Bool) → ◌≡◌ {A = ℕ} (cond b 0 0) 0
either_zero true = refl
either_zero false = refl

-- before the first turn
pub passed_none : (counts : List ℕ) (c : ℕ) → ◌≡◌ {A = ℕ} 0 (passed_at counts 0 0 c)
passed_none counts c = rw (le-ltb c 0 (omega arith)) (sym (either_zero (eqb c 0)))

module _ (counts : List ℕ) (consumer : ℕ) where
  pub passed_here : (priority : ℕ) → passed_at counts consumer priority consumer ≡ priority
  passed_here priority = rw (le-ltb consumer consumer (omega arith), eq-eqb consumer consumer refl)

  pub passed_before : (priority c : ℕ) → c < consumer → passed_at counts consumer priority c ≡ get_or counts c 0
  passed_before priority c h = rw (lt-ltb c consumer h)

  pub passed_other : (k l c : ℕ) → (c ≡ consumer → ⊥) → passed_at counts consumer k c ≡ passed_at counts consumer l c
  passed_other k l c d = rw (ne_eqb c consumer d)

  pub passed_most : (priority : ℕ) → priority ≤ get_or counts consumer 0 → (c : ℕ) → passed_at counts consumer priority c ≤ get_or counts c 0
  passed_most priority h c = go (ltb c consumer) (ℕ_discrete c consumer)
    where
      go : (b : Bool) → Dec (c ≡ consumer) → cond b (get_or counts c 0) (cond (eqb c consumer) priority 0) ≤ get_or counts c 0
      go true d = omega arith
      go false (yes e) = rw (e, eq-eqb consumer consumer refl) h
      go false (no n) = rw (ne_eqb c consumer n) (omega arith)

  -- after its last priority the next consumer's turn begins
  pub passed_turn : (c : ℕ) → passed_at counts consumer (get_or counts consumer 0) c ≡ passed_at counts (consumer + 1) 0 c
  passed_turn c = go (ltb c consumer) refl (ℕ_discrete c consumer)
    where
      go : (b : Bool) → ltb c consumer ≡ b → Dec (c ≡ consumer)
          → passed_at counts consumer (get_or counts consumer 0) c ≡ passed_at counts (consumer + 1) 0 c
      go true t d = rw (t, lt-ltb c (consumer + 1) (omega (arith, ltb-true c consumer t)))
      go false t (yes e) = rw (e, le-ltb consumer consumer (omega arith), eq-eqb consumer consumer refl, lt-ltb consumer (consumer + 1) (omega arith))
      go false t (no n) =
          let later = ltb-false c consumer t in
          rw (t, ne_eqb c consumer n, le-ltb c (consumer + 1) (omega arith)) (sym (either_zero (eqb c (consumer + 1))))

module _ (counts sources keys start : List ℕ) (producers consumers : ℕ) where
  -- what a consumer is offered at a priority, from the supplies at the round's start
  abbrev pub offer_for : ℕ → ℕ → ℕ
  offer_for consumer = offer_at (place_at sources consumer) (place_at keys consumer) (λ producer. get_or start producer 0)

  -- a consumer's withdrawal at the round's start
  abbrev pub withdrawal_for : ℕ → ℕ
  withdrawal_for consumer = get_or start (producers + consumer) 0

  -- the share of a consumer at a priority
  abbrev pub share_for : ℕ → ℕ → ℕ
  share_for consumer = share_at (offer_for consumer) (withdrawal_for consumer)

  -- what a consumer takes from a producer at its first priorities
  abbrev pub taken_for : (producer consumer priorities : ℕ) → ℕ
  taken_for producer consumer =
      sum_below (λ priority. cond (eqb (place_at sources consumer priority) (producer + 1)) (share_for consumer priority) 0)

  -- what is left of each point, when so many consumers have had their turns and each has gone through so many of its producers
  pub record Fallen (turned : ℕ) (passed : ℕ → ℕ) (left : List ℕ) : Type 0 where
    pub size : length left ≡ 64
    pub withdrawals : (c : ℕ) → c < turned → get_or left (producers + c) 0 ≡ left_at (offer_for c) (withdrawal_for c) (get_or counts c 0)
    pub supplies : (p : ℕ) → p < producers → get_or left p 0 + sum_below (λ c. taken_for p c (passed c)) consumers ≡ get_or start p 0

  -- at the start nothing has fallen
  pub fallen_none : length start ≡ 64 → Fallen 0 (λ c. 0) start
  fallen_none size =
      record {
        size = size;
        withdrawals = λ c h. absurd (omega arith);
        supplies = λ p h.
            omega (
              arith,
              sum_bound (λ c. taken_for p c 0) 0 consumers
                  (λ c l. omega (arith, sum_none (λ k. cond (eqb (place_at sources c k) (p + 1)) (share_for c k) 0))),
            );
      }

  module _ {turned : ℕ} {f : ℕ → ℕ} {left : List ℕ} (s : Fallen turned f left) where
    pub fallen_same : {g : ℕ → ℕ} → ((c : ℕ) → c < consumers → f c ≡ g c) → Fallen turned g left
    fallen_same e =
        record {
          size = s.size;
          withdrawals = s.withdrawals;
          supplies = λ p h. rw (← sum_same _ _ consumers (λ c l. ap (taken_for p c) (e c l))) (s.supplies p h);
        }

    -- a consumer's turn is over
    pub fallen_turn : (withdrawal : ℕ) → producers + turned < 64 → withdrawal ≡ left_at (offer_for turned) (withdrawal_for turned) (get_or counts turned 0)
        → Fallen (turned + 1) f (set left (producers + turned) withdrawal)
    fallen_turn withdrawal h e =
        record {
          size = simp length-set s.size;
          withdrawals =
              below_more _ turned (λ c l. get_or-set_other left (producers + turned) (producers + c) withdrawal 0 (omega arith) ∙ s.withdrawals c l)
              (get_or-set_same left (producers + turned) withdrawal 0 (omega (arith, s.size)) ∙ e);
          supplies = λ p l. rw (get_or-set_other left (producers + turned) p withdrawal 0 (omega arith)) (s.supplies p l);
        }

  -- all consumers have had their turns
  pub fallen_all : {turned : ℕ} {left : List ℕ} → Fallen turned (passed_at counts turned 0) left → turned ≡ consumers → Fallen consumers (λ c. get_or counts c 0) left
  fallen_all {turned} {left} s e =
      subst (λ (n : ℕ). Fallen n (λ c. get_or counts c 0) left) e (fallen_same s (λ c h. passed_before counts turned 0 c (omega (arith, e))))

  -- one consumer's turn goes on by one priority, at which it names a producer of the group; no more can be taken from one than it supplies
  pub record Step (f g : ℕ → ℕ) (consumer priority : ℕ) : Type 0 where
    pub few : producers + consumers ≤ 64
    pub one_of : consumer < consumers
    pub here : f consumer ≡ priority
    pub there : g consumer ≡ priority + 1
    pub others : (c : ℕ) → (c ≡ consumer → ⊥) → g c ≡ f c
    pub within : (c : ℕ) → g c ≤ get_or counts c 0
    pub least : 1 ≤ place_at sources consumer priority
    pub most : place_at sources consumer priority ≤ producers
    pub total : (p : ℕ) → p < producers → sum_below (λ c. taken_for p c (get_or counts c 0)) consumers ≤ get_or start p 0

  module _ {turned : ℕ} {f g : ℕ → ℕ} {left : List ℕ} {consumer priority : ℕ} (s : Fallen turned f left) (t : Step f g consumer priority) where
    -- what has been taken from a producer
    taken_next : (p : ℕ) → sum_below (λ c. taken_for p c (g c)) consumers
        ≡ sum_below (λ c. taken_for p c (f c)) consumers + cond (eqb (place_at sources consumer priority) (p + 1)) (share_for consumer priority) 0
    taken_next p =
        sum_raised (λ c. taken_for p c (f c)) (λ c. taken_for p c (g c)) consumers consumer _ t.one_of
        (rw (t.there, t.here) (sum_next _ priority)) (λ c l d. ap (taken_for p c) (t.others c d))

    -- the producer whose number it names
    named : eqb (place_at sources consumer priority) (place_at sources consumer priority - 1 + 1) ≡ true
    named = eq-eqb (place_at sources consumer priority) (place_at sources consumer priority - 1 + 1) (omega (arith, t.least))

    -- the share is within what the producer has left
    pub share_within : share_for consumer priority ≤ get_or left (place_at sources consumer priority - 1) 0
    share_within =
        let p = place_at sources consumer priority - 1 in
        let more : sum_below (λ c. taken_for p c (g c)) consumers ≡ sum_below (λ c. taken_for p c (f c)) consumers + share_for consumer priority =
        taken_next p ∙ rw named in
        let all = sum_within (λ c. taken_for p c (g c)) (λ c. taken_for p c (get_or counts c 0)) 1 1 consumers consumers (omega arith)
        (λ c l. omega (arith, sum_more (λ k. cond (eqb (place_at sources c k) (p + 1)) (share_for c k) 0) (g c) (get_or counts c 0) (t.within c))) in
        omega (arith, more, all, t.total p (omega (arith, t.least, t.most)), s.supplies p (omega (arith, t.least, t.most)))

    -- the share lowers what is left of the supply
    module _ (share : ℕ) (e : share ≡ share_for consumer priority) where
      abbrev lowered : List ℕ
      lowered = set left (place_at sources consumer priority - 1) (get_or left (place_at sources consumer priority - 1) 0 - share)

      supply_next : (p : ℕ) → p < producers → Dec (p ≡ place_at sources consumer priority - 1)
          → get_or lowered p 0 + sum_below (λ c. taken_for p c (g c)) consumers ≡ get_or start p 0
      supply_next p l (yes i) =
          let p₀ = place_at sources consumer priority - 1 in
          let known : p₀ < producers = omega (arith, t.least, t.most) in
          let here : get_or lowered p₀ 0 ≡ get_or left p₀ 0 - share = get_or-set_same left p₀ _ 0 (omega (arith, s.size, t.few)) in
          let more : sum_below (λ c. taken_for p₀ c (g c)) consumers ≡ sum_below (λ c. taken_for p₀ c (f c)) consumers + share =
          taken_next p₀ ∙ rw (named, e) in
          rw i (omega (arith, here, more, e, share_within, s.supplies p₀ known))
      supply_next p l (no n) =
          let other : get_or lowered p 0 ≡ get_or left p 0 = get_or-set_other left (place_at sources consumer priority - 1) p _ 0 n in
          let same : sum_below (λ c. taken_for p c (g c)) consumers ≡ sum_below (λ c. taken_for p c (f c)) consumers + 0 =
          taken_next p ∙ rw (ne_eqb (place_at sources consumer priority) (p + 1) (λ i. n (omega (arith, t.least)))) in
          omega (arith, other, same, s.supplies p l)

      pub fallen_next : Fallen turned g lowered
      fallen_next =
          record {
            size = simp length-set s.size;
            withdrawals = λ c l.
                get_or-set_other left (place_at sources consumer priority - 1) (producers + c) _ 0 (omega (arith, t.least, t.most)) ∙ s.withdrawals c l;
            supplies = λ p l. supply_next p l (ℕ_discrete p (place_at sources consumer priority - 1));
          }

  -- the pairs' sums: the shares of the consumers before one stand added, and those of its own first priorities
  pub record Given (before shares : List ℕ) (consumer : ℕ) : Type 0 where
    pub size : length shares ≡ length before
    pub added : (c k : ℕ) → c < consumer → k < get_or counts c 0 → place_at shares c k ≡ place_at before c k + share_for c k
    pub waiting : (c k : ℕ) → consumer ≤ c → k < 5 → place_at shares c k ≡ place_at before c k

  pub record Own (before shares : List ℕ) (consumer priority : ℕ) : Type 0 where
    pub size : length shares ≡ length before
    pub added : (k : ℕ) → k < priority → place_at shares consumer k ≡ place_at before consumer k + share_for consumer k
    pub waiting : (k : ℕ) → priority ≤ k → k < 5 → place_at shares consumer k ≡ place_at before consumer k
    pub elsewhere : (c k : ℕ) → (c ≡ consumer → ⊥) → k < 5 → place_at shares c k ≡ place_at before c k

  pub given_none : (shares : List ℕ) → Given shares shares 0
  given_none shares = record { size = refl; added = λ c k h. absurd (omega arith); waiting = λ c k h l. refl }

  -- those of all consumers
  pub given_all : {before shares : List ℕ} {consumer : ℕ} → Given before shares consumer → consumer ≡ consumers → Given before shares consumers
  given_all {before} {shares} s e = subst (Given before shares) e s

  pub own_none : (shares : List ℕ) (consumer : ℕ) → Own shares shares consumer 0
  own_none shares consumer =
      record { size = refl; added = λ k h. absurd (omega arith); waiting = λ k h l. refl; elsewhere = λ c k d l. refl }

  pub own_next : {before shares : List ℕ} {consumer priority : ℕ} → Own before shares consumer priority → length before ≡ 320 → consumer < 64 → priority < 5
      → (share : ℕ) → share ≡ share_for consumer priority
      → Own before (set shares (5 * consumer + priority) (get_or shares (5 * consumer + priority) 0 + share)) consumer (priority + 1)
  own_next {before} {shares} {consumer} {priority} o size h l share e =
      let place = 5 * consumer + priority in
      record {
        size = simp length-set o.size;
        added =
            below_more _ priority (λ k m. get_or-set_other shares place (5 * consumer + k) _ 0 (omega arith) ∙ o.added k m)
            (get_or-set_same shares place _ 0 (omega (arith, o.size)) ∙ rw (o.waiting priority (omega arith) l, e));
        waiting = λ k m n. get_or-set_other shares place (5 * consumer + k) _ 0 (omega arith) ∙ o.waiting k (omega arith) n;
        elsewhere = λ c k d n. get_or-set_other shares place (5 * c + k) _ 0 (λ i. d (omega arith)) ∙ o.elsewhere c k d n;
      }

  -- a consumer's own shares, all of them, join those of the consumers before it
  pub given_next : {before between shares : List ℕ} {consumer priority : ℕ} → ((c : ℕ) → c ≤ consumer → get_or counts c 0 ≤ 5)
      → Given before between consumer → Own between shares consumer priority → get_or counts consumer 0 ≤ priority → Given before shares (consumer + 1)
  given_next {before} {between} {shares} {consumer} few s o last =
      record {
        size = o.size ∙ s.size;
        added = λ c k h l.
            below_more (λ (c : ℕ). (k : ℕ) → k < get_or counts c 0 → place_at shares c k ≡ place_at before c k + share_for c k) consumer
            (λ c h k l. o.elsewhere c k (omega arith) (omega (arith, few c (omega arith))) ∙ s.added c k h l)
            (λ k l. o.added k (omega arith) ∙ rw (s.waiting consumer k (omega arith) (omega (arith, few consumer (omega arith))))) c h k l;
        waiting = λ c k h l. o.elsewhere c k (omega arith) l ∙ s.waiting c k (omega arith) l;
      }
