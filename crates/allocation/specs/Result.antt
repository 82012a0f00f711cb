-- The result of an allocation, from the magnitudes of all points in one quarter hour. Assumes nothing.
use Rattle.std.specs.Prelude.{ℕ, ◌+◌, List, get_or}
use Rattle.lists.specs.Tables.{joined, table}
use Rattle.registration.specs.declared.Registration.{Registration}
use Rattle.registration.specs.Rules.{points, count_at}
use Rattle.registration.specs.Pairs.{pairs_before}
use Rattle.allocation.specs.Rounds.{Remaining, rounds_of, after_rounds, received}

-- pair shares, consumers in order and priorities within; remaining withdrawals; remaining supplies; the round count
pub record Allocation : Type 0 where
  pub shares : List ℕ
  pub withdrawals : List ℕ
  pub supplies : List ℕ
  pub rounds : ℕ

-- what the first round starts with: the magnitude of each point, of which the producers come first
abbrev pub start_of : Registration → (ℕ → ℕ) → Remaining
start_of r magnitude =
    record {
      withdrawals = table (λ consumer. magnitude (r.producers + consumer)) r.consumers;
      supplies = table magnitude r.producers;
    }

-- the numbers of all pairs, consumers in order and priorities within
abbrev pub pairs_of : Registration → (ℕ → ℕ → ℕ) → List ℕ
pairs_of r number = joined (λ consumer. table (number consumer) (count_at r consumer)) r.consumers

-- how many rounds a group has
abbrev pub rounds_for : Registration → ℕ
rounds_for r = rounds_of r.iteration (points r) r.consumers

-- the allocation of a quarter hour
unfoldable pub allocation_of : Registration → (ℕ → ℕ) → Allocation
allocation_of r magnitude =
    record {
      shares = pairs_of r (received r (start_of r magnitude) (rounds_for r));
      withdrawals = (after_rounds r (start_of r magnitude) (rounds_for r)).withdrawals;
      supplies = (after_rounds r (start_of r magnitude) (rounds_for r)).supplies;
      rounds = rounds_for r;
    }

-- a pair's share in an allocation: among the shares it stands after those of the consumers before its own, at its priority
abbrev pub pair_share : Registration → Allocation → (consumer priority : ℕ) → ℕ
pair_share r allocation consumer priority = get_or allocation.shares (pairs_before r consumer + priority) 0
