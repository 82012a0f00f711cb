-- What users of the published method rely on: nothing is lost, no share is too great, no offer is left by a consumer that has something left to
-- withdraw, priorities count, how many rounds there are, each list of an allocation has its length, and equal magnitudes have equal results. Assumes nothing.
use Prim.Native.Nat.{ℕ, zero, suc, ◌+◌, ◌-◌, ◌*◌, ◌/◌, ◌≤◌, ◌<◌, min}
use mathlib.Core.Path.{◌≡◌, ap, ◌∙◌}
use mathlib.Core.Bool.{◌&&◌}
use native.Mathlib.Omega.{arith}
use lib.Dec.{leb, eqb}
use lib.ListN.{length}
use borrow.Author.Tests.{eq-eqb, ne_eqb, le-leb, lt-leb}
use Rattle.lists.proofs.Cases.{by_test}
use Rattle.lists.proofs.TableLaws.{length_table, table_at, table_same}
use Rattle.registration.specs.declared.Registration.{Registration}
use Rattle.lists.specs.Below.{sum_below}
use Rattle.registration.specs.Rules.{points, count_at, source_at, key_at}
use Rattle.registration.specs.Pairs.{pairs_in}
use Rattle.registration.proofs.Damage.{undamaged_parts}
use Rattle.allocation.specs.Rounds.{Remaining, withdrawal_at, supply_at, iterated_most, rounds_of, offer_in, share_in, round_of, after_rounds, received}
use Rattle.allocation.specs.Result.{start_of, pairs_of, rounds_for, allocation_of, pair_share}
use Rattle.allocation.specs.Laws.{UndamagedIsShareable, RoundWithinSupply, SupplyAddsUp, WithdrawalAddsUp, WithinWithdrawal}
use Rattle.allocation.specs.Laws.{AllocationKeepsSupplies, AllocationKeepsWithdrawals, ByPriority, TurnSharesAll, EachRoundSharesAll, OneRoundSharesAll, AllocationRounds, OneRoundWithinKey}
use Rattle.lists.proofs.Sums.{sum_add}
use Rattle.allocation.proofs.Shareable.{pair_of}
use Rattle.allocation.proofs.Pairs.{pairs_length, pair_at, of_consumer_same, of_producer_same}
use Rattle.allocation.proofs.Consumers.{nothing_left, round_keeps_withdrawal, round_takes_all}
use Rattle.allocation.proofs.Producers.{of_producer_add, taken_within_supply, round_keeps_supply}

-- there are at most five rounds
pub rounds_most_lem : (iteration points consumers : ℕ) → rounds_of iteration points consumers ≤ 5
unfolding rounds_of
rounds_most_lem iteration points consumers =
    by_test (eqb iteration 1 && leb points iterated_most) (λ t. rw t (omega arith)) (λ t. rw t (omega arith))

module _ (r : Registration) where
  -- with iteration 1 and at most 50 points there are the smaller of 5 and the number of consumers
  iterated : r.iteration ≡ 1 → r.producers + r.consumers ≤ 50 → rounds_for r ≡ min 5 r.consumers
  unfolding rounds_of
  iterated i l = rw (eq-eqb r.iteration 1 i, le-leb (points r) iterated_most (omega arith)) (omega arith)

pub allocation_rounds : AllocationRounds
unfolding allocation_of rounds_of
allocation_rounds r magnitude =
    record {
      few = λ i l c. omega (arith, iterated r i l);
      many = λ i l c. omega (arith, iterated r i l);
      large = λ l. by_test (eqb r.iteration 1) (λ t. rw (t, lt-leb (points r) iterated_most (omega arith))) (λ t. rw t);
      once = λ n. rw (ne_eqb r.iteration 1 n);
    }

pub undamaged_is_shareable : UndamagedIsShareable
undamaged_is_shareable r e =
    let parts = undamaged_parts r e in
    record { point_counts = parts.point_counts; consumers = parts.consumers; keys = parts.keys }

pub round_within_supply : RoundWithinSupply
round_within_supply r start s producer h = taken_within_supply r start producer s h

-- before the first round the sum of nothing is its own double, so 0; a round adds its shares and takes them from what remains
pub supply_adds_up : SupplyAddsUp
unfolding sum_below after_rounds
supply_adds_up r start zero s producer h = omega (arith, of_producer_add r (λ consumer priority. 0) (λ consumer priority. 0) producer)
supply_adds_up r start (suc rounds) s producer h =
    let before = after_rounds r start rounds in
    let more = of_producer_add r (received r start rounds) (share_in r before) producer in
    omega (arith, more, round_keeps_supply r before producer s h, supply_adds_up r start rounds s producer h)

pub withdrawal_adds_up : WithdrawalAddsUp
unfolding sum_below after_rounds
withdrawal_adds_up r start zero consumer h = omega (arith, sum_add (λ priority. 0) (λ priority. 0) (count_at r consumer))
withdrawal_adds_up r start (suc rounds) consumer h =
    let before = after_rounds r start rounds in
    let more = sum_add (received r start rounds consumer) (share_in r before consumer) (count_at r consumer) in
    omega (arith, more, round_keeps_withdrawal r before consumer h, withdrawal_adds_up r start rounds consumer h)

pub within_withdrawal : WithinWithdrawal
within_withdrawal r start rounds consumer h = omega (arith, withdrawal_adds_up r start rounds consumer h)

module _ (r : Registration) (magnitude : ℕ → ℕ) where
  -- what each pair has in an allocation is what it received in all rounds
  pub pair_received : (consumer priority : ℕ) → consumer < r.consumers → priority < count_at r consumer
      → pair_share r (allocation_of r magnitude) consumer priority ≡ received r (start_of r magnitude) (rounds_for r) consumer priority
  unfolding allocation_of
  pair_received = pair_at r (received r (start_of r magnitude) (rounds_for r))

pub allocation_keeps_supplies : AllocationKeepsSupplies
unfolding allocation_of
allocation_keeps_supplies r magnitude s producer h =
    let shares = of_producer_same r _ _ (pair_received r magnitude) producer in
    let kept = supply_adds_up r (start_of r magnitude) (rounds_for r) s producer h in
    omega (arith, shares, kept, table_at magnitude r.producers producer h)

pub allocation_keeps_withdrawals : AllocationKeepsWithdrawals
unfolding allocation_of
allocation_keeps_withdrawals r magnitude consumer h =
    let shares = of_consumer_same r _ _ (pair_received r magnitude) consumer h in
    let kept = withdrawal_adds_up r (start_of r magnitude) (rounds_for r) consumer h in
    omega (arith, shares, kept, table_at (λ consumer. magnitude (r.producers + consumer)) r.consumers consumer h)

pub by_priority_lem : ByPriority
by_priority_lem r start consumer priority later h less =
    omega (arith, nothing_left (offer_in r start consumer) (withdrawal_at start consumer) priority later h (omega arith))

pub turn_shares_all : TurnSharesAll
turn_shares_all r start consumer priority h l rest = omega (arith, round_takes_all r start consumer h priority l rest)

module _ (r : Registration) (start : Remaining) (consumer priority : ℕ) where
  -- what the key of a pair gives of the supply at a round's start
  abbrev given : ℕ → ℕ
  given round = key_at r consumer priority * supply_at (after_rounds r start round) (source_at r consumer priority - 1) / 10000

  -- a consumer that has something left after so many rounds had something left after each of them
  each_round_shares : consumer < r.consumers → priority < count_at r consumer → (rounds : ℕ) → 1 ≤ withdrawal_at (after_rounds r start rounds) consumer
      → received r start rounds consumer priority ≡ sum_below given rounds
  unfolding sum_below after_rounds
  each_round_shares h l zero rest = omega arith
  each_round_shares h l (suc rounds) rest =
      let before = after_rounds r start rounds in
      omega (arith, turn_shares_all r before consumer priority h l rest, each_round_shares h l rounds (omega (arith, round_keeps_withdrawal r before consumer h)))

pub each_round_shares_all : EachRoundSharesAll
unfolding allocation_of
each_round_shares_all r magnitude consumer priority h l rest =
    pair_received r magnitude consumer priority h l ∙ each_round_shares r (start_of r magnitude) consumer priority h l (rounds_for r) rest

pub one_round_within_key : OneRoundWithinKey
unfolding sum_below after_rounds
one_round_within_key r start consumer priority = omega arith

-- the one round starts with the magnitudes
pub one_round_shares_all : OneRoundSharesAll
unfolding sum_below after_rounds
one_round_shares_all r magnitude s one consumer priority h l rest =
    let source = pair_of s consumer priority h l in
    let supply = table_at magnitude r.producers (source_at r consumer priority - 1) (omega (arith, source.source_least, source.source_most)) in
    each_round_shares_all r magnitude consumer priority h l rest ∙ rw (one, supply) (omega arith)

-- what remains has a number for each consumer and each producer, at the start and after each round
pub remaining_lengths : (r : Registration) (magnitude : ℕ → ℕ) (rounds : ℕ)
    → (length (after_rounds r (start_of r magnitude) rounds).withdrawals ≡ r.consumers)
    × (length (after_rounds r (start_of r magnitude) rounds).supplies ≡ r.producers)
unfolding round_of after_rounds
remaining_lengths r magnitude zero = (length_table _ r.consumers, length_table _ r.producers)
remaining_lengths r magnitude (suc rounds) = (length_table _ r.consumers, length_table _ r.producers)

-- so many numbers does an allocation have of each sort
pub allocation_lengths : (r : Registration) (magnitude : ℕ → ℕ)
    → (length (allocation_of r magnitude).shares ≡ pairs_in r) × (length (allocation_of r magnitude).withdrawals ≡ r.consumers)
    × (length (allocation_of r magnitude).supplies ≡ r.producers)
unfolding allocation_of
allocation_lengths r magnitude =
    let remaining = remaining_lengths r magnitude (rounds_for r) in
    (pairs_length r (received r (start_of r magnitude) (rounds_for r)), remaining.0, remaining.1)

-- the allocation rests on the magnitudes of the group's points alone
pub allocation_same : (r : Registration) (f g : ℕ → ℕ) → ((point : ℕ) → point < points r → f point ≡ g point) → allocation_of r f ≡ allocation_of r g
unfolding allocation_of
allocation_same r f g same =
    let withdrawals = table_same (λ c. f (r.producers + c)) (λ c. g (r.producers + c)) r.consumers (λ c h. same (r.producers + c) (omega arith)) in
    let supplies = table_same f g r.producers (λ p h. same p (omega arith)) in
    let start : start_of r f ≡ start_of r g = rw (withdrawals, supplies) in
    ap (λ (start : Remaining). record {
      shares = pairs_of r (received r start (rounds_for r));
      withdrawals = (after_rounds r start (rounds_for r)).withdrawals;
      supplies = (after_rounds r start (rounds_for r)).supplies;
      rounds = rounds_for r;
    })
    start
