-- The pairs of a group: each consumer with each producer that it names, given by consumer and priority. Assumes nothing.
use Rattle.std.specs.Prelude.{ℕ, ◌+◌, cond, eqb}
use Rattle.lists.specs.Below.{sum_below}
use Rattle.registration.specs.declared.Registration.{Registration}
use Rattle.registration.specs.Rules.{count_at, source_at}

-- the sum of a consumer's pairs
abbrev pub of_consumer : Registration → (ℕ → ℕ → ℕ) → ℕ → ℕ
of_consumer r number consumer = sum_below (number consumer) (count_at r consumer)

-- the sum of a producer's pairs: over all consumers and the priorities at which they name it
abbrev pub of_producer : Registration → (ℕ → ℕ → ℕ) → ℕ → ℕ
of_producer r number producer =
    sum_below
    (λ consumer. sum_below (λ priority. cond (eqb (source_at r consumer priority) (producer + 1)) (number consumer priority) 0) (count_at r consumer))
    r.consumers

-- how many pairs the consumers before one have: where pairs stand one after the other its own stand after theirs
abbrev pub pairs_before : Registration → ℕ → ℕ
pairs_before r consumer = sum_below (count_at r) consumer

-- how many pairs a group has
abbrev pub pairs_in : Registration → ℕ
pairs_in r = pairs_before r r.consumers
