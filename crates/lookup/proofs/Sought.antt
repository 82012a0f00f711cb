-- The places that a pass back seeks: what the newest entry gives to the sum and the number of the values shown there; each place is sought once at most.
-- Assumes nothing.
use Rattle.std.proofs.Common.{◌≡◌, ℕ, ◌+◌, ◌≤◌, Bool, true, false, ◌&&◌, ◌||◌, cond, eqb, leb, List, [], ◌∷◌, ◌++◌, map, length, sym, refl, ap, ◌∙◌, true≢false, arith, eqb-true}
use borrow.Author.Tests.{eqb-false, eq-eqb, ne_eqb}
use mathlib.Core.Bool.{false≢true}
use Rattle.std.specs.Prelude.{Option, None, Some}
use Rattle.lists.proofs.Cases.{by_test}
use Rattle.lists.proofs.Below.{and_late, or_neither}
use Rattle.journal.specs.Value.{Value, value_in}
use Rattle.journal.specs.declared.Entry.{Entry}
use Rattle.journal.specs.Entries.{readings_at}
use Rattle.journal.proofs.ShownLaws.{Rising, shown_nil}
use Rattle.journal.proofs.Back.{last_misses}
use Rattle.lookup.specs.Mean.{sum_of}
use Rattle.lookup.specs.Substitutes.{existing}
use Rattle.lookup.specs.Working.{is_this, is_sought, without}
use Rattle.lookup.proofs.Newest.{value_shown_at, value_then}

-- ---- values that need not exist
-- what one gives to the sum
abbrev amount : Option Value → ℕ
amount None = 0
amount (Some value) = value.magnitude

sum_cons : (o : Option Value) (os : List (Option Value)) → sum_of (existing (o ∷ os)) ≡ amount o + sum_of (existing os)
unfolding existing sum_of
sum_cons None os = omega arith
sum_cons (Some value) os = omega arith

-- and to the number of values
abbrev one : Option Value → ℕ
one None = 0
one (Some value) = 1

count_cons : (o : Option Value) (os : List (Option Value)) → length (existing (o ∷ os)) ≡ one o + length (existing os)
unfolding existing
count_cons None os = omega arith
count_cons (Some value) os = omega arith

one_most : (o : Option Value) → one o ≤ 1
one_most None = omega arith
one_most (Some value) = omega arith

-- no more of them exist than there are
pub count_within : (os : List (Option Value)) → length (existing os) ≤ length os
unfolding existing
count_within [] = omega arith
count_within (o ∷ os) = omega (arith, count_cons o os, one_most o, count_within os)

-- ---- places and the newest entry
-- a place is another one where that is it
swapped : (a b : ℕ) → eqb a b ≡ eqb b a
swapped a b =
    by_test (eqb a b)
    (λ t. rw (t, eq-eqb b a (omega (arith, eqb-true a b t))))
    (λ f. rw (f, ne_eqb b a (λ e. eqb-false a b f (omega arith))))

-- the value shown at a place, if one is sought
abbrev pub value_sought : (T : ℕ) → List Entry → Option ℕ → Option Value
value_sought T es None = None
value_sought T es (Some place) = value_shown_at T es place

-- the values shown at places
abbrev pub values : (T : ℕ) → List Entry → (places : List (Option ℕ)) → List (Option Value)
values T es places = map (value_sought T es) places

-- without an entry there are none
pub values_none : (T : ℕ) (places : List (Option ℕ)) → existing (values T [] places) ≡ []
unfolding existing
values_none T [] = refl
values_none T (None ∷ places) = values_none T places
values_none T (Some place ∷ places) = rw shown_nil (values_none T places)

-- a place stands among places once at most
abbrev pub Once : (place : ℕ) → List (Option ℕ) → Type 0
Once place [] = Unit {0}
Once place (sought ∷ others) = (is_this place sought ≡ true → is_sought place others ≡ false) × Once place others

-- two tests of which neither holds, alone or with a third
neither : (a b : Bool) → a || b ≡ false → (a ≡ false) × (b ≡ false)
neither true b h = let z : true ≡ false = h in (z, cc)
neither false b h = (refl, h)

neither_with : (a b c : Bool) → (a || b) && c ≡ false → (a && c ≡ false) × (b && c ≡ false)
neither_with true b c h = (h, and_late b c h)
neither_with false b c h = (refl, h)

-- where a place is not sought it is left out nowhere
same_without : (place : ℕ) (places : List (Option ℕ)) → is_sought place places ≡ false → map (without place) places ≡ places
same_without place [] f = refl
same_without place (sought ∷ others) f =
    let n = neither (is_this place sought) (is_sought place others) f in
    rw n.0 (ap (λ (l : List (Option ℕ)). sought ∷ l) (same_without place others n.1))

-- a place that is not sought is not sought once another is left out
module _ (place other : ℕ) where
  still_unsought : (places : List (Option ℕ)) → is_sought place places ≡ false → is_sought place (map (without other) places) ≡ false
  still_unsought [] f = refl
  still_unsought (sought ∷ others) f =
      let n = neither (is_this place sought) (is_sought place others) f in
      or_neither (is_this place (without other sought)) (is_sought place (map (without other) others))
      (by_test (is_this other sought) (λ t. rw t) (λ k. rw k n.0))
      (still_unsought others n.1)

  -- so one that is sought then was sought before
  pub was_sought : (places : List (Option ℕ)) → is_sought place (map (without other) places) ≡ true → is_sought place places ≡ true
  was_sought places t =
      by_test (is_sought place places) (λ s. s) (λ f. absurd (true≢false (sym t ∙ still_unsought places f)))

  -- and one that is sought once at most is still so
  pub still_once : (places : List (Option ℕ)) → Once place places → Once place (map (without other) places)
  still_once [] o = tt
  still_once (sought ∷ others) o = (
    λ t. by_test (is_this other sought)
        (λ k. let z : false ≡ true = rw k at t in absurd (false≢true z))
        (λ k. still_unsought others (o.0 (rw k at t))),
    still_once others o.1,
  )

-- ---- the newest entry
module _ (T : ℕ) (es : List Entry) (e : Entry) where
  -- one that is not sought, or is late, changes no value
  one_passed : (sought : Option ℕ) → is_this e.place sought && leb e.stamp T ≡ false → value_sought T (es ++ (e ∷ [])) sought ≡ value_sought T es sought
  one_passed None f = refl
  one_passed (Some place) f = rw (last_misses T place es e (rw (swapped place e.place) at f))

  pub values_passed : (places : List (Option ℕ)) → is_sought e.place places && leb e.stamp T ≡ false → values T (es ++ (e ∷ [])) places ≡ values T es places
  values_passed [] f = refl
  values_passed (sought ∷ others) f =
      let n = neither_with (is_this e.place sought) (is_sought e.place others) (leb e.stamp T) f in
      rw (one_passed sought n.0, values_passed others n.1)

  -- what one gives that is met: its magnitude to the sum, and one value
  pub record Gives (places : List (Option ℕ)) : Type 0 where
    pub sum : sum_of (existing (values T (es ++ (e ∷ [])) places))
        ≡ (value_in e.stored).magnitude + sum_of (existing (values T es (map (without e.place) places)))
    pub count : length (existing (values T (es ++ (e ∷ [])) places)) ≡ 1 + length (existing (values T es (map (without e.place) places)))

  module _ (rising : (place : ℕ) → Rising 0 (readings_at (es ++ (e ∷ [])) place)) (within_time : leb e.stamp T ≡ true) where
    one_then : (sought : Option ℕ)
        → value_sought T (es ++ (e ∷ [])) sought ≡ cond (is_this e.place sought && leb e.stamp T) (Some (value_in e.stored)) (value_sought T es sought)
    one_then None = refl
    one_then (Some place) = rw (swapped place e.place) (value_then T es e place (rising place))

    -- one that is sought
    pub gives : (places : List (Option ℕ)) → is_sought e.place places ≡ true → Once e.place places → Gives places
    gives [] t o = let z : false ≡ true = t in absurd (false≢true z)
    gives (sought ∷ others) t o =
        let then = one_then sought in
        let after = values T (es ++ (e ∷ [])) others in
        let before = values T es (map (without e.place) others) in
        by_test (is_this e.place sought)
        (λ here.
        let f = o.0 here in
        let rest : after ≡ before = values_passed others (rw f) ∙ rw (same_without e.place others f) in
        let new = Some (value_in e.stored) in
        record {
          sum = rw (then, here, within_time, rest) (omega (arith, sum_cons new before, sum_cons None before));
          count = rw (then, here, within_time, rest) (omega (arith, count_cons new before, count_cons None before));
        })
        (λ other.
        let later = gives others (rw other at t) o.1 in
        let same = value_sought T es sought in
        record {
          sum = rw (then, other) (omega (arith, later.sum, sum_cons same after, sum_cons same before));
          count = rw (then, other) (omega (arith, later.count, count_cons same after, count_cons same before));
        })
