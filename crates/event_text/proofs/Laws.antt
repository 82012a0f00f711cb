-- The laws of the program: its loop over the lines, where it begins, the room that an answer needs, its calls, and that its numbers
-- fit their columns. Assumes nothing.
use mathlib.Core.Path.{refl}
use Rattle.event_reader.specs.Events.{event_in}
use Rattle.event_calls.specs.Replies.{call_of, reply_to}
use Rattle.event_text.specs.Share.{answers_to, share}
use Rattle.event_text.specs.Laws.{AnsweredByLines, SharedFromEvents, AnswersFit, PrintsItsCalls, NumbersFit}
use Rattle.event_text.proofs.Cutting.{lines_first, events_left}
use Rattle.event_text.proofs.Fitting.{reply_fits}
use Rattle.event_text.proofs.Printing.{printed_from}
use Rattle.event_text.proofs.InColumns.{call_fits}

pub answered_by_lines : AnsweredByLines
unfolding answers_to
answered_by_lines s j byte bytes = rw (lines_first byte bytes)

pub shared_from_events : SharedFromEvents
unfolding share
shared_from_events input r e = rw (e, events_left input)

pub answers_fit : AnswersFit
unfolding reply_to
answers_fit s j line = reply_fits s j (event_in line) (call_of (event_in line))

pub prints_its_calls : PrintsItsCalls
unfolding share
prints_its_calls input r e = rw e (printed_from _ _ _ _ refl)

pub numbers_fit : NumbersFit
numbers_fit = call_fits
