-- `event_writer::put_consumer` meets its contract: line by line.
use native.Mathlib.Omega.{arith}
use native.Mathlib.Nat.{zero-add}
use lib.ListN.{length}
use Rattle.lists.proofs.Adding.{no_piece, piece_fits, piece_more, all_pieces}
use Rattle.registration.specs.Rules.{source_at}
use Rattle.event_writer.proofs.Lengths.{shares_joined, length_of_share, length_of_consumer}
use Rattle.event_writer.proofs.put_consumer.Goals as goal

pub loop-priority-init : goal.loop-priority-init
loop-priority-init c = no_piece _ (omega arith)

pub put-requires : goal.put-requires
put-requires c =
    let a = c.args in
    let source = source_at a.registration.now a.consumer in
    let whole = rw shares_joined at (length_of_consumer source a.consumer (length a.shares.now) 0 a.shares.now) in
    let fits = piece_fits _ c.loop-priority.invariant (length a.shares.now) (omega arith) (omega (arith, whole)) in
    (omega arith, (omega arith, rw length_of_share at fits))

pub loop-priority-preserved : goal.loop-priority-preserved
loop-priority-preserved c = piece_more _ c.loop-priority.invariant (rw zero-add (rw c.pair-source.ensures at c.put.ensures))

pub returns : goal.returns
returns c = rw shares_joined (all_pieces _ c.loop-priority.invariant (omega arith) (omega arith))
