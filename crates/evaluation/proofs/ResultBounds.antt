-- No number of a result is above what bounds its part: the greatest magnitude for energy, 6 for an origin. Assumes nothing.
use Prim.Native.Nat.{ℕ, zero, suc, ◌+◌, ◌≤◌, ◌<◌}
use mathlib.Core.List.{List, [], ◌∷◌, ◌++◌}
use native.Mathlib.Omega.{arith}
use lib.Dec.{ltb}
use lib.ListN.{length, get_or, get_or-eq_default}
use borrow.Author.Tests.{ltb-true, ltb-false}
use Rattle.lists.specs.Place.{placed}
use Rattle.lists.specs.Tables.{joined}
use Rattle.lists.proofs.Cases.{by_test}
use Rattle.lists.proofs.Sums.{sum_term}
use Rattle.lists.proofs.TableLaws.{table_at}
use Rattle.registration.specs.declared.Registration.{Registration}
use Rattle.registration.specs.Rules.{points, count_at}
use Rattle.values.specs.Values.{magnitude_most}
use Rattle.allocation.specs.Input.{Shareable, Magnitudes}
use Rattle.allocation.specs.Rounds.{received}
use Rattle.allocation.specs.Result.{start_of, rounds_for, allocation_of, pair_share}
use Rattle.lookup.specs.declared.PointValue.{PointValue}
use Rattle.lookup.specs.Substitutes.{number_of_origin}
use Rattle.evaluation.specs.Evaluation.{result_from}
use Rattle.allocation.proofs.Laws.{pair_received, allocation_keeps_supplies, allocation_keeps_withdrawals, allocation_lengths}
use Rattle.evaluation.specs.Layout.{Part, Shares, Withdrawals, Supplies, Origins, length_of, begin_of, part_of, result_of}
use Rattle.evaluation.proofs.Parts.{number_stands}
use Rattle.evaluation.proofs.Laws.{has_lengths}

-- each number of a list is at most the greatest magnitude; past its end there are zeros
abbrev EachWithin : List ℕ → Type 0
EachWithin numbers = (i : ℕ) → get_or numbers i 0 ≤ magnitude_most

one_within : (number : ℕ) → number ≤ magnitude_most → EachWithin (number ∷ [])
one_within number h zero = h
one_within number h (suc i) = omega arith

append_within : (xs ys : List ℕ) → EachWithin xs → EachWithin ys → EachWithin (xs ++ ys)
append_within [] ys f g i = g i
append_within (x ∷ xs) ys f g zero = f 0
append_within (x ∷ xs) ys f g (suc i) = append_within xs ys (λ k. f (suc k)) g i

joined_within : (piece : ℕ → List ℕ) (n : ℕ) → ((i : ℕ) → i < n → EachWithin (piece i)) → EachWithin (joined piece n)
unfolding joined
joined_within piece zero each i = omega arith
joined_within piece (suc n) each i =
    append_within (joined piece n) (piece n) (joined_within piece n (λ k h. each k (omega arith))) (each n (omega arith)) i

-- it is enough to look at the places before its end
within_end : (numbers : List ℕ) → ((i : ℕ) → i < length numbers → get_or numbers i 0 ≤ magnitude_most) → EachWithin numbers
within_end numbers h i =
    by_test (ltb i (length numbers)) (λ t. h i (ltb-true i (length numbers) t))
    (λ f. rw (get_or-eq_default numbers 0 (ltb-false i (length numbers) f)) (omega arith))

-- what bounds the numbers of a part: the greatest magnitude, and 6 for an origin
abbrev pub most_in : Part → ℕ
most_in Shares = magnitude_most
most_in Withdrawals = magnitude_most
most_in Supplies = magnitude_most
most_in Origins = 6

-- no number of a result that stands at the front of a list is above what bounds its part
abbrev pub ResultWithin : Registration → List ℕ → Type 0
ResultWithin r numbers = (part : Part) (i : ℕ) → i < length_of r part → get_or numbers (begin_of r part + i) 0 ≤ most_in part

module _ (r : Registration) (magnitude : ℕ → ℕ) (s : Shareable r) (m : Magnitudes r magnitude) where
  -- a share is within its consumer's withdrawal
  shares_within : EachWithin (allocation_of r magnitude).shares
  unfolding allocation_of
  shares_within =
      let share = received r (start_of r magnitude) (rounds_for r) in
      joined_within _ r.consumers
      (λ consumer h.
      joined_within _ (count_at r consumer)
      (λ priority l.
      one_within (share consumer priority)
      (omega (
        arith,
        sum_term (pair_share r (allocation_of r magnitude) consumer) (count_at r consumer) priority l,
        pair_received r magnitude consumer priority h l,
        allocation_keeps_withdrawals r magnitude consumer h,
        m (r.producers + consumer) (omega arith),
      ))))

  -- what remains is within what there was
  withdrawals_within : EachWithin (allocation_of r magnitude).withdrawals
  withdrawals_within =
      within_end (allocation_of r magnitude).withdrawals
      (λ consumer h.
      let one_of : consumer < r.consumers = omega (arith, allocation_lengths r magnitude) in
      omega (arith, allocation_keeps_withdrawals r magnitude consumer one_of, m (r.producers + consumer) (omega arith)))

  supplies_within : EachWithin (allocation_of r magnitude).supplies
  supplies_within =
      within_end (allocation_of r magnitude).supplies
      (λ producer h.
      let one_of : producer < r.producers = omega (arith, allocation_lengths r magnitude) in
      omega (arith, allocation_keeps_supplies r magnitude s producer one_of, m producer (omega arith)))

-- the numbers of a result, in the list that it is put into
pub result_within : (r : Registration) (value : ℕ → PointValue) → Shareable r → Magnitudes r (λ point. (value point).magnitude)
    → ((point : ℕ) → point < points r → number_of_origin (value point).origin ≤ 6) → (lent : List ℕ) → ResultWithin r (placed 0 (result_of (result_from r value)) lent)
unfolding result_from
result_within r value s m o lent part i h =
    rw (number_stands r (result_from r value) (has_lengths r value) lent part i h) (within part i h)
  where
    within : (part : Part) (i : ℕ) → i < length_of r part → get_or (part_of (result_from r value) part) i 0 ≤ most_in part
    within Shares i h = shares_within r (λ point. (value point).magnitude) s m i
    within Withdrawals i h = withdrawals_within r (λ point. (value point).magnitude) s m i
    within Supplies i h = supplies_within r (λ point. (value point).magnitude) s m i
    within Origins i h =
        let point : i < points r = omega arith in
        rw (table_at (λ point. number_of_origin (value point).origin) (points r) i point) (o i point)
