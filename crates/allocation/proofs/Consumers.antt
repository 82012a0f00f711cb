-- One consumer in one round: its shares, what they leave it, and that it leaves no offer while it has something left. Assumes nothing.
use Prim.Native.Nat.{ℕ, zero, suc, ◌+◌, ◌≤◌, ◌<◌}
use mathlib.Core.Path.{◌≡◌}
use native.Mathlib.Nat.{not-suc-le-zero}
use native.Mathlib.Omega.{arith}
use Rattle.lists.proofs.Below.{below}
use Rattle.lists.proofs.TableLaws.{table_at}
use Rattle.registration.specs.declared.Registration.{Registration}
use Rattle.lists.specs.Below.{sum_below}
use Rattle.registration.specs.Rules.{count_at}
use Rattle.registration.specs.Pairs.{of_consumer}
use Rattle.allocation.specs.Rounds.{Remaining, withdrawal_at, left_at, share_at, offer_in, share_in, round_of}

-- the shares of one consumer's turn and what they leave add up to what it had
pub turn_adds_up : (offer : ℕ → ℕ) (withdrawal count : ℕ) → sum_below (share_at offer withdrawal) count + left_at offer withdrawal count ≡ withdrawal
unfolding sum_below left_at
turn_adds_up offer withdrawal zero = omega arith
turn_adds_up offer withdrawal (suc count) = omega (arith, turn_adds_up offer withdrawal count)

-- a turn that leaves something has taken every offer whole
pub turn_takes_all : (offer : ℕ → ℕ) (withdrawal count priority : ℕ) → priority < count → 1 ≤ left_at offer withdrawal count
    → share_at offer withdrawal priority ≡ offer priority
unfolding left_at
turn_takes_all offer withdrawal zero priority h rest = absurd (not-suc-le-zero h)
turn_takes_all offer withdrawal (suc count) priority h rest =
    below (λ (k : ℕ). share_at offer withdrawal k ≡ offer k) count priority h
    (λ l. turn_takes_all offer withdrawal count priority l (omega arith)) (omega arith)

-- after a priority at which less is taken than is offered nothing is left
pub nothing_left : (offer : ℕ → ℕ) (withdrawal priority later : ℕ) → priority < later → share_at offer withdrawal priority < offer priority
    → left_at offer withdrawal later ≡ 0
unfolding left_at
nothing_left offer withdrawal priority zero h less = absurd (not-suc-le-zero h)
nothing_left offer withdrawal priority (suc later) h less =
    below (λ (k : ℕ). share_at offer withdrawal k < offer k → left_at offer withdrawal (suc later) ≡ 0) later priority h
    (λ l less. omega (arith, nothing_left offer withdrawal priority later l less)) (λ less. omega arith) less

module _ (r : Registration) (start : Remaining) (consumer : ℕ) (h : consumer < r.consumers) where
  withdrawal_after : withdrawal_at (round_of r start) consumer ≡ left_at (offer_in r start consumer) (withdrawal_at start consumer) (count_at r consumer)
  unfolding round_of
  withdrawal_after = table_at _ r.consumers consumer h

  -- so it is with a consumer's shares of a round and its withdrawal after it
  pub round_keeps_withdrawal : of_consumer r (share_in r start) consumer + withdrawal_at (round_of r start) consumer ≡ withdrawal_at start consumer
  round_keeps_withdrawal = rw withdrawal_after (turn_adds_up (offer_in r start consumer) (withdrawal_at start consumer) (count_at r consumer))

  -- and where it has something left after it, it has taken every offer of the round whole
  pub round_takes_all : (priority : ℕ) → priority < count_at r consumer → 1 ≤ withdrawal_at (round_of r start) consumer
      → share_in r start consumer priority ≡ offer_in r start consumer priority
  round_takes_all priority l rest =
      turn_takes_all (offer_in r start consumer) (withdrawal_at start consumer) (count_at r consumer) priority l (rw withdrawal_after at rest)
