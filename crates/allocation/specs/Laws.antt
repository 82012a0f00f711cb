-- What users of the published method rely on, stated of its definitions; the proofs stand in proofs/Laws.antt. Assumes nothing.
use Rattle.std.specs.Prelude.{ℕ, ◌+◌, ◌-◌, ◌*◌, ◌/◌, ◌≤◌, ◌<◌, ◌≡◌, false, ◌≢◌, get_or}
use Rattle.lists.specs.Below.{sum_below}
use Rattle.registration.specs.declared.Registration.{Registration}
use Rattle.registration.specs.Rules.{count_at, source_at, key_at}
use Rattle.registration.specs.Damage.{is_damaged}
use Rattle.registration.specs.Pairs.{of_consumer, of_producer}
use Rattle.allocation.specs.Rounds.{Remaining, withdrawal_at, supply_at, share_in, round_of, after_rounds, received}
use Rattle.allocation.specs.Result.{start_of, allocation_of, pair_share}
use Rattle.allocation.specs.Input.{Shareable}

-- every undamaged registration can be shared by
abbrev pub UndamagedIsShareable : Type 0
UndamagedIsShareable = (r : Registration) → is_damaged r ≡ false → Shareable r

-- a round never takes more from a producer than its supply at the round's start, whatever remains; here the keys' sum of at most 10000 is needed
abbrev pub RoundWithinSupply : Type 0
RoundWithinSupply =
    (r : Registration) (start : Remaining) → Shareable r → (producer : ℕ) → producer < r.producers
    → of_producer r (share_in r start) producer ≤ supply_at start producer

-- a producer's shares and its remaining supply add up to its supply, after any number of rounds
abbrev pub SupplyAddsUp : Type 0
SupplyAddsUp =
    (r : Registration) (start : Remaining) (rounds : ℕ) → Shareable r → (producer : ℕ) → producer < r.producers
    → of_producer r (received r start rounds) producer + supply_at (after_rounds r start rounds) producer ≡ supply_at start producer

-- a consumer's shares and its remaining withdrawal add up to its withdrawal, after any number of rounds, in any registration
abbrev pub WithdrawalAddsUp : Type 0
WithdrawalAddsUp =
    (r : Registration) (start : Remaining) (rounds consumer : ℕ) → consumer < r.consumers
    → of_consumer r (received r start rounds) consumer + withdrawal_at (after_rounds r start rounds) consumer ≡ withdrawal_at start consumer

-- no consumer receives above its withdrawal
abbrev pub WithinWithdrawal : Type 0
WithinWithdrawal =
    (r : Registration) (start : Remaining) (rounds consumer : ℕ) → consumer < r.consumers
    → of_consumer r (received r start rounds) consumer ≤ withdrawal_at start consumer

-- so it is in the numbers of an allocation: what a producer's pairs have there and what it has left there are the magnitude that it supplied
abbrev pub AllocationKeepsSupplies : Type 0
AllocationKeepsSupplies =
    (r : Registration) (magnitude : ℕ → ℕ) → Shareable r → (producer : ℕ) → producer < r.producers
    → of_producer r (pair_share r (allocation_of r magnitude)) producer + get_or (allocation_of r magnitude).supplies producer 0 ≡ magnitude producer

-- and what a consumer's pairs have there and what it has left there are the magnitude that it withdrew
abbrev pub AllocationKeepsWithdrawals : Type 0
AllocationKeepsWithdrawals =
    (r : Registration) (magnitude : ℕ → ℕ) (consumer : ℕ) → consumer < r.consumers
    → of_consumer r (pair_share r (allocation_of r magnitude)) consumer + get_or (allocation_of r magnitude).withdrawals consumer 0
    ≡ magnitude (r.producers + consumer)

-- with iteration 1 and at most 50 points an allocation has as many rounds as there are consumers, but no more than 5; with more points, or another
-- iteration, it has one
pub record RoundsAre (r : Registration) (rounds : ℕ) : Type 0 where
  pub few : r.iteration ≡ 1 → r.producers + r.consumers ≤ 50 → r.consumers ≤ 5 → rounds ≡ r.consumers
  pub many : r.iteration ≡ 1 → r.producers + r.consumers ≤ 50 → 5 ≤ r.consumers → rounds ≡ 5
  pub large : 51 ≤ r.producers + r.consumers → rounds ≡ 1
  pub once : r.iteration ≢ 1 → rounds ≡ 1

-- so it is with every allocation
abbrev pub AllocationRounds : Type 0
AllocationRounds = (r : Registration) (magnitude : ℕ → ℕ) → RoundsAre r (allocation_of r magnitude).rounds

-- by priority: a consumer that takes less than it is offered at a priority has nothing left, and takes nothing at a later one
abbrev pub ByPriority : Type 0
ByPriority =
    (r : Registration) (start : Remaining) (consumer priority later : ℕ) → priority < later
    → share_in r start consumer priority < key_at r consumer priority * supply_at start (source_at r consumer priority - 1) / 10000
    → share_in r start consumer later ≡ 0

-- a consumer that has something left after a round has taken all that it was offered in it: key × supply / 10000 of each producer that it names
abbrev pub TurnSharesAll : Type 0
TurnSharesAll =
    (r : Registration) (start : Remaining) (consumer priority : ℕ) → consumer < r.consumers → priority < count_at r consumer
    → 1 ≤ withdrawal_at (round_of r start) consumer
    → share_in r start consumer priority ≡ key_at r consumer priority * supply_at start (source_at r consumer priority - 1) / 10000

-- so it is in the numbers of an allocation, over all its rounds: where a consumer has something left, each of its pairs has key × supply / 10000 of each
-- round, rounded down in each, the supply being that at the round's start
abbrev pub EachRoundSharesAll : Type 0
EachRoundSharesAll =
    (r : Registration) (magnitude : ℕ → ℕ) (consumer priority : ℕ) → consumer < r.consumers → priority < count_at r consumer
    → 1 ≤ get_or (allocation_of r magnitude).withdrawals consumer 0
    → pair_share r (allocation_of r magnitude) consumer priority
    ≡ sum_below
    (λ round. key_at r consumer priority * supply_at (after_rounds r (start_of r magnitude) round) (source_at r consumer priority - 1) / 10000)
    (allocation_of r magnitude).rounds

-- with one round that is key × magnitude / 10000
abbrev pub OneRoundSharesAll : Type 0
OneRoundSharesAll =
    (r : Registration) (magnitude : ℕ → ℕ) → Shareable r → (allocation_of r magnitude).rounds ≡ 1
    → (consumer priority : ℕ) → consumer < r.consumers → priority < count_at r consumer
    → 1 ≤ get_or (allocation_of r magnitude).withdrawals consumer 0
    → pair_share r (allocation_of r magnitude) consumer priority ≡ key_at r consumer priority * magnitude (source_at r consumer priority - 1) / 10000

-- with one round no share exceeds key × supply / 10000
abbrev pub OneRoundWithinKey : Type 0
OneRoundWithinKey =
    (r : Registration) (start : Remaining) (consumer priority : ℕ)
    → received r start 1 consumer priority ≤ key_at r consumer priority * supply_at start (source_at r consumer priority - 1) / 10000
