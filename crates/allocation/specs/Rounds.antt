-- The rounds of the published method. Consumers, producers and priorities count from 0; a producer's number, as a consumer names it, from 1.
-- A round looks at each consumer by itself, from the supplies at the round's start: no order among consumers enters it. Assumes nothing.
use Rattle.std.specs.Prelude.{ℕ, zero, suc, ◌-◌, ◌*◌, ◌/◌, min, cond, ◌&&◌, List, get_or, leb, eqb}
use Rattle.lists.specs.Tables.{table}
use Rattle.registration.specs.declared.Registration.{Registration}
use Rattle.lists.specs.Below.{sum_below}
use Rattle.registration.specs.Rules.{count_at, source_at, key_at}
use Rattle.registration.specs.Pairs.{of_producer}

-- the most rounds that there are
abbrev pub rounds_most : ℕ
rounds_most = 5

-- the most points with which there is more than one
abbrev pub iterated_most : ℕ
iterated_most = 50

-- how many rounds there are: with iteration 1 and at most 50 points the smaller of 5 and the number of consumers, otherwise 1
unfoldable pub rounds_of : (iteration points consumers : ℕ) → ℕ
rounds_of iteration points consumers = cond (eqb iteration 1 && leb points iterated_most) (min rounds_most consumers) 1

-- what is left of each consumer's withdrawal and of each producer's supply
pub record Remaining : Type 0 where
  pub withdrawals : List ℕ
  pub supplies : List ℕ

-- what a consumer has left to withdraw
abbrev pub withdrawal_at : Remaining → ℕ → ℕ
withdrawal_at remaining consumer = get_or remaining.withdrawals consumer 0

-- what a producer has left to supply
abbrev pub supply_at : Remaining → ℕ → ℕ
supply_at remaining producer = get_or remaining.supplies producer 0

-- what a key gives of a supply: key times supply / 10000, rounded down
abbrev pub offer_of : (key supply : ℕ) → ℕ
offer_of key supply = key * supply / 10000

-- what a consumer, which names these producers with these keys, is offered at a priority, from the supplies at the round's start
abbrev pub offer_at : (source key supply : ℕ → ℕ) → ℕ → ℕ
offer_at source key supply priority = offer_of (key priority) (supply (source priority - 1))

-- a share: the smaller of the remaining withdrawal and what is offered
abbrev pub share_of : (withdrawal offer : ℕ) → ℕ
share_of withdrawal offer = min withdrawal offer

-- what a consumer has left to withdraw when it comes to a priority: each share has lowered the withdrawal immediately
unfoldable pub left_at : (offer : ℕ → ℕ) → (withdrawal priority : ℕ) → ℕ
left_at offer withdrawal zero = withdrawal
left_at offer withdrawal (suc priority) =
    left_at offer withdrawal priority - share_of (left_at offer withdrawal priority) (offer priority)

-- a consumer's share at a priority
abbrev pub share_at : (offer : ℕ → ℕ) → (withdrawal priority : ℕ) → ℕ
share_at offer withdrawal priority = share_of (left_at offer withdrawal priority) (offer priority)

-- what a consumer of the group is offered in a round that starts with these remainders
abbrev pub offer_in : Registration → Remaining → ℕ → ℕ → ℕ
offer_in r start consumer = offer_at (source_at r consumer) (key_at r consumer) (supply_at start)

-- a pair's share in a round that starts with these remainders, the pair given by consumer and priority
abbrev pub share_in : Registration → Remaining → ℕ → ℕ → ℕ
share_in r start consumer priority = share_at (offer_in r start consumer) (withdrawal_at start consumer) priority

-- a round: every consumer goes through its producers by priority; when the round ends each supply falls by all shares taken from it
unfoldable pub round_of : Registration → Remaining → Remaining
round_of r start =
    record {
      withdrawals = table (λ consumer. left_at (offer_in r start consumer) (withdrawal_at start consumer) (count_at r consumer)) r.consumers;
      supplies = table (λ producer. supply_at start producer - of_producer r (share_in r start) producer) r.producers;
    }

-- what remains after so many rounds
unfoldable pub after_rounds : Registration → Remaining → ℕ → Remaining
after_rounds r start zero = start
after_rounds r start (suc rounds) = round_of r (after_rounds r start rounds)

-- what a pair has received after so many rounds: the sum of its shares over the rounds
abbrev pub received : Registration → Remaining → (rounds consumer priority : ℕ) → ℕ
received r start rounds consumer priority = sum_below (λ round. share_in r (after_rounds r start round) consumer priority) rounds
