-- `event_writer::put_points` meets its contract: line by line.
use native.Mathlib.Omega.{arith}
use native.Mathlib.Nat.{zero-add}
use lib.ListN.{length}
use Rattle.lists.proofs.Adding.{no_piece, piece_fits, piece_more, all_pieces}
use Rattle.event_writer.proofs.Lengths.{points_joined, length_of_point, length_of_points}
use Rattle.event_writer.proofs.put_points.Goals as goal

pub loop-point-init : goal.loop-point-init
loop-point-init c = no_piece _ (omega arith)

pub put-requires : goal.put-requires
put-requires c =
    let a = c.args in
    let whole = rw points_joined at (length_of_points a.format.now.letter a.format.now.widths 0 (length a.numbers.now) a.numbers.now c.requires.0) in
    let fits = piece_fits _ c.loop-point.invariant (length a.numbers.now) (omega arith) (omega (arith, whole)) in
    (omega arith, (omega arith, rw (length_of_point _ _ _ _ c.requires.0) at fits))

pub loop-point-preserved : goal.loop-point-preserved
loop-point-preserved c = piece_more _ c.loop-point.invariant (rw zero-add c.put.ensures)

pub returns : goal.returns
returns c = rw points_joined (all_pieces _ c.loop-point.invariant (omega arith) (omega arith))
