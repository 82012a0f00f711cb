-- The pair at a priority of a consumer's turn, among as many of the consumer's pairs as it has. Assumes nothing.
use Prim.Native.Nat.{ℕ, ◌<◌}
use mathlib.Core.Path.{◌≡◌, ◌∙◌}
use mathlib.Core.List.{List}
use native.Mathlib.Omega.{arith}
use lib.ListN.{length, get_or, take}
use lib.Seq.{get_or-take}
use Rattle.std.proofs.lemmas.List.{length-take}
use Rattle.registration.specs.declared.Registration.{Registration}
use Rattle.registration.specs.declared.Pair.{Pair}
use Rattle.registration.specs.Rules.{count_at, pair_at, no_pair}
use Rattle.registration.proofs.Bounds.{PairBounds}
use Rattle.allocation.specs.Input.{Shareable}
use Rattle.allocation.proofs.Shareable.{count_most, pair_of}

-- a priority of a consumer's turn, at which one of its pairs stands
module _ {r : Registration} (p : Shareable r) (pairs : List Pair) {consumer count priority : ℕ} (h : consumer < r.consumers)
    (counted : count ≡ count_at r consumer) (all : (k : ℕ) → k < 5 → get_or pairs k no_pair ≡ pair_at r consumer k)
    (passed : priority < length (take count pairs)) where
  -- the priority is one of the consumer's
  pub one_of : priority < count_at r consumer
  one_of = omega (arith, length-take count pairs)

  -- the pair is the registration's
  pub there : get_or (take count pairs) priority no_pair ≡ pair_at r consumer priority
  there = get_or-take count pairs priority no_pair (omega (arith, one_of)) ∙ all priority (omega (arith, one_of, count_most p consumer h))

  -- so it is right
  pub right : let pair = get_or (take count pairs) priority no_pair in PairBounds r.producers pair.source pair.key
  right = rw there (pair_of p consumer priority h one_of)
