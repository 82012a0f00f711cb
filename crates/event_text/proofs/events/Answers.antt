-- `event_text::events` meets its contract: what is left begins with an event, or has its first line taken off, or is empty. Assumes nothing.
use Rattle.std.proofs.Common.{sym, ◌∙◌}
use Rattle.event_text.proofs.Cutting.{events_ended, events_after, event_by_byte, shorter}
use Rattle.event_text.proofs.events.Goals as goal

pub returns-then-begins_event : goal.returns-then-begins_event
returns-then-begins_event c =
    let first = c.in-Some.ensures.item.3 in
    events_ended _ (event_by_byte _ _ first.0 (first.1 0) ∙ sym c.begins_event.ensures ∙ c.if-begins_event.true) ∙ c.loop-first.invariant

pub loop-first-smaller : goal.loop-first-smaller
loop-first-smaller c = rw c.split_line.ensures.rest (shorter _ c.in-Some.ensures.item.3.0)

pub loop-first-preserved : goal.loop-first-preserved
loop-first-preserved c =
    let first = c.in-Some.ensures.item.3 in
    rw c.split_line.ensures.rest (events_after _ (event_by_byte _ _ first.0 (first.1 0) ∙ sym c.begins_event.ensures ∙ c.if-begins_event.false) ∙ c.loop-first.invariant)
