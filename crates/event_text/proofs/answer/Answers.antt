-- `event_text::answer` meets its contract, by `Answering.antt`. Assumes nothing.
use Rattle.std.proofs.Common.{arith}
use Rattle.event_text.proofs.Answering.{no_room, by_event, within_buffer}
use Rattle.event_text.proofs.answer.Goals as goal

pub returns-then-out-lt-ANSWER_MOST : goal.returns-then-out-lt-ANSWER_MOST
returns-then-out-lt-ANSWER_MOST c = record { answers = no_room _ _ _ _ (omega (arith, c.if-out-lt-ANSWER_MOST.true)); bytes_in_bounds = tt }

pub returns : goal.returns
returns c =
    let room = c.if-out-lt-ANSWER_MOST.false in
    record {
      answers = by_event _ _ _ _ (omega (arith, room)) _ _ _ _ _ c.read-event.ensures c.reply.ensures;
      bytes_in_bounds = within_buffer _ _ _ _ (omega (arith, room)) _ _ _ _ _ c.read-event.ensures c.reply.ensures;
    }
