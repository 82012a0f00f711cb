-- What the loop of `event_text::events` keeps: the text from the first event on is that of what is left. Assumes nothing.
use Rattle.std.proofs.Common.{◌≡◌, length}
use Rattle.event_text.specs.Share.{events_text}
use Rattle.event_text.proofs.events.Given as goal

abbrev pub invariant-loop-first : goal.invariant-loop-first
invariant-loop-first l = events_text l.rest ≡ events_text l.input

abbrev pub decreases-loop-first : goal.decreases-loop-first
decreases-loop-first l = length l.rest
