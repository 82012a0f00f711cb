-- Numbers of a group's pairs in a list: how many there are, where each stands, and that equal ones make equal lists. Assumes nothing.
use Prim.Native.Nat.{ℕ, ◌+◌, ◌<◌}
use mathlib.Core.Path.{◌≡◌, ap, ◌∙◌}
use mathlib.Core.Bool.{cond}
use native.Mathlib.Omega.{arith}
use lib.Dec.{eqb}
use lib.ListN.{length, get_or}
use Rattle.lists.proofs.Below.{sum_same}
use Rattle.lists.proofs.TableLaws.{joined_same, joined_at, length_joined, table_same, length_table, table_at}
use Rattle.registration.specs.declared.Registration.{Registration}
use Rattle.registration.specs.Rules.{count_at, source_at}
use Rattle.registration.specs.Pairs.{of_consumer, of_producer, pairs_before, pairs_in}
use Rattle.allocation.specs.Result.{pairs_of}

module _ (r : Registration) where
  -- there are as many as the consumers have pairs
  pub pairs_length : (number : ℕ → ℕ → ℕ) → length (pairs_of r number) ≡ pairs_in r
  pairs_length number = length_joined _ (count_at r) r.consumers (λ consumer. length_table _ (count_at r consumer))

  -- a pair's number stands after those of the consumers before, at its priority
  pub pair_at : (number : ℕ → ℕ → ℕ) (consumer priority : ℕ) → consumer < r.consumers → priority < count_at r consumer
      → get_or (pairs_of r number) (pairs_before r consumer + priority) 0 ≡ number consumer priority
  pair_at number consumer priority h l =
      joined_at _ (count_at r) (λ consumer. length_table _ (count_at r consumer)) r.consumers consumer priority h l
      ∙ table_at _ (count_at r consumer) priority l
      ∙ ap (number consumer) (omega arith)

  module _ (f g : ℕ → ℕ → ℕ) (same : (consumer priority : ℕ) → consumer < r.consumers → priority < count_at r consumer → f consumer priority ≡ g consumer priority) where
    -- lists of equal numbers
    pub pairs_same : pairs_of r f ≡ pairs_of r g
    pairs_same =
        joined_same _ _ r.consumers (λ consumer h. table_same _ _ (count_at r consumer) (λ priority l. same consumer _ h (omega arith)))

    -- a consumer's sums of equal numbers
    pub of_consumer_same : (consumer : ℕ) → consumer < r.consumers → of_consumer r f consumer ≡ of_consumer r g consumer
    of_consumer_same consumer h = sum_same _ _ (count_at r consumer) (λ priority l. same consumer priority h l)

    -- and a producer's
    pub of_producer_same : (producer : ℕ) → of_producer r f producer ≡ of_producer r g producer
    of_producer_same producer =
        sum_same _ _ r.consumers
        (λ consumer h. sum_same _ _ (count_at r consumer)
        (λ priority l. ap (λ (number : ℕ). cond (eqb (source_at r consumer priority) (producer + 1)) number 0) (same consumer priority h l)))
