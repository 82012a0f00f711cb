-- One producer in one round: what all consumers take from it is within its supply, as each takes at most its key's part. Assumes nothing.
use Prim.Native.Nat.{ℕ, ◌+◌, ◌-◌, ◌*◌, ◌≤◌, ◌<◌}
use mathlib.Core.Path.{◌≡◌, refl, ◌∙◌}
use mathlib.Core.Bool.{Bool, true, false, cond}
use native.Mathlib.Nat.{mul-le-mul_right}
use native.Mathlib.Omega.{arith}
use lib.Dec.{eqb}
use borrow.Author.Tests.{leb-true, eqb-true}
use Rattle.lists.proofs.TableLaws.{table_at}
use Rattle.registration.specs.declared.Registration.{Registration}
use Rattle.registration.specs.Rules.{count_at, source_at, key_at, keys_of}
use Rattle.lists.proofs.Below.{every_at, sum_same}
use Rattle.registration.proofs.Keys.{key_for}
use Rattle.allocation.specs.Input.{Shareable}
use Rattle.registration.specs.Pairs.{of_producer}
use Rattle.allocation.specs.Rounds.{Remaining, supply_at, share_in, round_of}
use Rattle.allocation.proofs.Shareable.{few_points, count_most}
use Rattle.lists.proofs.Sums.{sum_add, chosen_add, rows_within}

-- a producer's sum of two numbers for each pair is the sum of both sums
pub of_producer_add : (r : Registration) (f g : ℕ → ℕ → ℕ) (producer : ℕ)
    → of_producer r (λ consumer priority. f consumer priority + g consumer priority) producer ≡ of_producer r f producer + of_producer r g producer
of_producer_add r f g producer =
    sum_same _ _ r.consumers
    (λ consumer h. chosen_add (λ priority. eqb (source_at r consumer priority) (producer + 1)) (f consumer) (g consumer) (count_at r consumer))
    ∙ sum_add _ _ r.consumers

module _ (r : Registration) (start : Remaining) (producer : ℕ) where
  -- what a pair takes is at most its key's part of the supply, and nothing where the consumer does not name the producer
  pair_within : (consumer priority : ℕ) (named : Bool) → eqb (source_at r consumer priority) (producer + 1) ≡ named
      → cond named (share_in r start consumer priority) 0 * 10000 ≤ cond named (key_at r consumer priority) 0 * supply_at start producer
  pair_within consumer priority false e = omega arith
  pair_within consumer priority true e =
      let here : source_at r consumer priority - 1 ≡ producer = omega (arith, eqb-true (source_at r consumer priority) (producer + 1) e) in
      rw (← here) (omega arith)

  module _ (s : Shareable r) (h : producer < r.producers) where
    -- all pairs stand in the 320 places over which the keys are summed
    pairs_within : of_producer r (share_in r start) producer * 10000 ≤ keys_of r.sources r.keys producer * supply_at start producer
    pairs_within =
        rows_within _ (key_for r.sources r.keys (producer + 1)) (count_at r) 10000 (supply_at start producer) 5 r.consumers 64
        (omega (arith, few_points s)) (count_most s)
        (λ consumer priority l k. pair_within consumer priority _ refl)

    pub taken_within_supply : of_producer r (share_in r start) producer ≤ supply_at start producer
    taken_within_supply =
        let keys = leb-true (keys_of r.sources r.keys producer) 10000 (every_at _ r.producers producer s.keys h) in
        omega (arith, pairs_within, mul-le-mul_right (supply_at start producer) keys)

    supply_after : supply_at (round_of r start) producer ≡ supply_at start producer - of_producer r (share_in r start) producer
    unfolding round_of
    supply_after = table_at _ r.producers producer h

    -- so a producer's shares of a round and its supply after it add up to the supply before it
    pub round_keeps_supply : of_producer r (share_in r start) producer + supply_at (round_of r start) producer ≡ supply_at start producer
    round_keeps_supply = omega (arith, taken_within_supply, supply_after)
