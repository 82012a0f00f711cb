-- What the loops of `allocation::Allocated::make_round` keep. Assumes nothing.
use Prim.Native.Nat.{◌≤◌}
use mathlib.Core.Path.{◌≡◌}
use lib.ListN.{get_or}
use Rattle.registration.specs.Rules.{points}
use Rattle.allocation.specs.Rounds.{left_at}
use Rattle.allocation.proofs.Turns.{passed_at, Fallen, offer_for, Given, Own}
use Rattle.allocation.proofs.Allocated.make_round.Given as goal

abbrev pub invariant-loop-priority : goal.invariant-loop-priority
invariant-loop-priority l =
    let r = l.registration in
    record {
      few : points r ≤ 64;
      withdrawal : l.withdrawal ≡ left_at (offer_for r.counts r.sources r.keys l.start r.producers r.consumers l.consumer) (get_or l.start l.point 0) l.priority;
      fallen : Fallen r.counts r.sources r.keys l.start r.producers r.consumers l.consumer (passed_at r.counts l.consumer l.priority) l.self.left;
      own : Own r.counts r.sources r.keys l.start r.producers r.consumers l.initial.self.shares l.self.shares l.consumer l.priority;
      rounds : l.self.rounds ≡ l.fn.self.rounds;
    }

abbrev pub invariant-loop-consumer : goal.invariant-loop-consumer
invariant-loop-consumer l =
    let r = l.registration in
    record {
      few : points r ≤ 64;
      fallen : Fallen r.counts r.sources r.keys l.start r.producers r.consumers l.consumer (passed_at r.counts l.consumer 0) l.self.left;
      given : Given r.counts r.sources r.keys l.start r.producers r.consumers l.initial.self.shares l.self.shares l.consumer;
      rounds : l.self.rounds ≡ l.fn.self.rounds;
    }
