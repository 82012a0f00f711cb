-- `registration_writer::letters::put_consumers` meets its contract: the O lines are put one after the other. Assumes nothing.
use native.Mathlib.Omega.{arith}
use Rattle.lists.proofs.Adding.{no_piece, piece_fits, piece_more, all_pieces}
use Rattle.registration_writer.proofs.Sizes.{lines__o, length__o}
use Rattle.registration_writer.proofs.letters.put_consumers.Goals as goal

pub loop-consumer-init : goal.loop-consumer-init
loop-consumer-init c = no_piece _ (omega arith)

pub put_consumer-requires : goal.put_consumer-requires
put_consumer-requires c =
    let r = c.args.registration.now in
    let at = c.loop-consumer in
    record {
      among = omega arith;
      count_bound = c.requires.by_index at.consumer (omega arith);
      room = rw (length__o r) at (piece_fits _ at.invariant r.consumers (omega arith) (rw lines__o at c.requires.room));
    }

pub loop-consumer-preserved : goal.loop-consumer-preserved
loop-consumer-preserved c = piece_more _ c.loop-consumer.invariant c.put_consumer.ensures

pub returns : goal.returns
returns c = rw lines__o (all_pieces _ c.loop-consumer.invariant (omega arith) (omega arith))
