-- `lookup::Lookup::own_readings` meets its contract: the entries passed have been taken in. Assumes nothing.
use Rattle.std.proofs.Common.{arith}
use Rattle.lookup.proofs.Passed.{next_bounds}
use Rattle.lookup.proofs.Own.{slot_bound, own_none, own_next}
use Rattle.lookup.proofs.Opened.{readable_in, asked_within}
use Rattle.lookup.proofs.Lookup.own_readings.Goals as goal

pub place-slot-requires : goal.place-slot-requires
place-slot-requires c = omega (arith, asked_within c.args.self.now)

pub loop-numbers-init : goal.loop-numbers-init
loop-numbers-init c =
    let a = c.args.self.now in
    let known = readable_in a in
    own_none a.asked known.exists

pub take_in-requires : goal.take_in-requires
take_in-requires c =
    let a = c.args.self.now in
    let known = readable_in a in
    let l = c.loop-numbers in
    let bounds = next_bounds a.entries.now l.numbers-index (omega arith) known.right in
    (l.invariant.size, rw c.from.ensures bounds.0, rw c.place-slot.ensures (slot_bound a.asked known.exists))

pub loop-numbers-preserved : goal.loop-numbers-preserved
loop-numbers-preserved c =
    let a = c.args.self.now in
    let known = readable_in a in
    let l = c.loop-numbers in
    let taken = rw (c.from.ensures, c.place-slot.ensures) at c.take_in.ensures in
    own_next a.asked known.exists a.entries.now known.right l.numbers-index (omega arith) l.own c.take_in.new.own c.take_in.auto.own l.invariant taken
