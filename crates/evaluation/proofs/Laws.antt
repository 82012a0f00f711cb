-- What users of a result rely on: it has its size and its parts, its numbers add up, each origin stands there, and how large it is at most. Assumes nothing.
use Prim.Native.Nat.{ℕ, ◌+◌, ◌≤◌, ◌<◌}
use mathlib.Core.Path.{◌≡◌}
use mathlib.Core.List.{List}
use native.Mathlib.Nat.{zero-add}
use native.Mathlib.Omega.{arith}
use lib.Dec.{leb}
use lib.ListN.{length}
use borrow.Author.Tests.{leb-true, leb-false}
use Rattle.lists.specs.Place.{placed}
use Rattle.lists.specs.Tables.{table}
use Rattle.lists.proofs.Below.{sum_bound}
use Rattle.lists.proofs.Cases.{by_test}
use Rattle.lists.proofs.TableLaws.{length_table, table_at}
use Rattle.registration.specs.declared.Registration.{Registration}
use Rattle.registration.specs.Rules.{points, code_at, status_at, count_at}
use Rattle.registration.proofs.Damage.{point_bounds}
use Rattle.journal.specs.Order.{Reading}
use Rattle.allocation.specs.Input.{Shareable}
use Rattle.allocation.specs.Result.{allocation_of, pair_share}
use Rattle.allocation.proofs.Laws.{undamaged_is_shareable, allocation_keeps_supplies, allocation_keeps_withdrawals, allocation_lengths}
use Rattle.allocation.proofs.Pairs.{of_consumer_same, of_producer_same}
use Rattle.allocation.proofs.Shareable.{few_points, count_most, count_within}
use Rattle.registration.specs.Pairs.{pairs_before, pairs_in}
use Rattle.lookup.specs.declared.PointValue.{PointValue}
use Rattle.lookup.specs.Substitutes.{number_of_origin, looked_up}
use Rattle.evaluation.specs.Evaluation.{result_from, evaluation_of}
use Rattle.evaluation.specs.Layout.{Shares, Withdrawals, Supplies, Origins, begin_of, result_of, HasLengths}
use Rattle.evaluation.specs.Laws.{PartLengths, ResultSize, PartsStand, pair_number, ResultKeepsSupplies, ResultKeepsWithdrawals, ResultHasOrigins, ResultWithinMost}
use Rattle.evaluation.proofs.Parts.{shares_there, size_of_parts, part_stands, number_stands}

-- the magnitudes of values
abbrev pub magnitudes_of : (ℕ → PointValue) → ℕ → ℕ
magnitudes_of value point = (value point).magnitude

module _ (r : Registration) (value : ℕ → PointValue) where
  -- how many origins there are
  origins_length : length (table (λ point. number_of_origin (value point).origin) (points r)) ≡ r.producers + r.consumers
  origins_length = length_table (λ point. number_of_origin (value point).origin) (points r)

  -- each part has the length of the layout
  pub has_lengths : HasLengths r (result_from r value)
  unfolding result_from
  has_lengths Shares = omega (arith, allocation_lengths r (magnitudes_of value), origins_length)
  has_lengths Withdrawals = omega (arith, allocation_lengths r (magnitudes_of value), origins_length)
  has_lengths Supplies = omega (arith, allocation_lengths r (magnitudes_of value), origins_length)
  has_lengths Origins = omega (arith, allocation_lengths r (magnitudes_of value), origins_length)

pub part_lengths : PartLengths
unfolding result_from
part_lengths r value =
    let lengths = allocation_lengths r (magnitudes_of value) in
    let origins = origins_length r value in
    record { shares = omega arith; withdrawals = omega arith; supplies = omega arith; origins = omega arith }

-- so it is with the result of what readings show
pub evaluation_lengths : (r : Registration) (readings : ℕ → ℕ → ℕ → List Reading) (day quarter T : ℕ) → HasLengths r (evaluation_of r readings day quarter T)
unfolding evaluation_of
evaluation_lengths r readings day quarter T =
    has_lengths r (λ point. looked_up (status_at r point) (readings (code_at r point)) day quarter T)

pub result_size : ResultSize
result_size r value = size_of_parts r (result_from r value) (has_lengths r value)

pub parts_stand : PartsStand
parts_stand = part_stands

module _ (r : Registration) (value : ℕ → PointValue) (lent : List ℕ) where
  -- the list that the result is put into
  abbrev numbers : List ℕ
  numbers = placed 0 (result_of (result_from r value)) lent

  -- a pair's number in a result list is its share
  pair_number_lem : (consumer priority : ℕ) → consumer < r.consumers → priority < count_at r consumer
      → pair_number r numbers consumer priority ≡ pair_share r (allocation_of r (magnitudes_of value)) consumer priority
  unfolding result_from
  pair_number_lem consumer priority h l =
      rw zero-add at
      (number_stands r (result_from r value) (has_lengths r value) lent Shares (pairs_before r consumer + priority)
      (omega (arith, shares_there r consumer h)))

pub result_keeps_supplies : ResultKeepsSupplies
unfolding result_from
result_keeps_supplies r value lent s producer h =
    let pairs = of_producer_same r _ _ (pair_number_lem r value lent) producer in
    let own = number_stands r (result_from r value) (has_lengths r value) lent Supplies producer (omega arith) in
    omega (arith, pairs, own, allocation_keeps_supplies r (magnitudes_of value) s producer h)

pub result_keeps_withdrawals : ResultKeepsWithdrawals
unfolding result_from
result_keeps_withdrawals r value lent consumer h =
    let pairs = of_consumer_same r _ _ (pair_number_lem r value lent) consumer h in
    let own = number_stands r (result_from r value) (has_lengths r value) lent Withdrawals consumer (omega arith) in
    omega (arith, pairs, own, allocation_keeps_withdrawals r (magnitudes_of value) consumer h)

pub result_has_origins : ResultHasOrigins
unfolding result_from
result_has_origins r value lent point h =
    let place : pairs_in r + r.consumers + r.producers + point ≡ begin_of r Origins + point = omega arith in
    let own = number_stands r (result_from r value) (has_lengths r value) lent Origins point (omega arith) in
    rw place (omega (arith, own, table_at (λ point. number_of_origin (value point).origin) (points r) point h))

-- with 5 producers or more there are at most 59 consumers, each with at most 5 pairs; with fewer a consumer has at most 4
pub pairs_most : (r : Registration) → Shareable r → pairs_in r ≤ 295
pairs_most r s =
    by_test (leb 5 r.producers)
    (λ t. omega (arith, leb-true 5 r.producers t, few_points s, sum_bound (count_at r) 5 r.consumers (count_most s)))
    (λ f.
    let few = leb-false 5 r.producers f in
    let four = sum_bound (count_at r) 4 r.consumers (λ consumer h. omega (arith, count_within s consumer h)) in
    omega (arith, few, four, point_bounds r.producers r.consumers s.point_counts))

pub result_within_most : ResultWithinMost
result_within_most r e =
    let s = undamaged_is_shareable r e in
    omega (arith, pairs_most r s, few_points s)
