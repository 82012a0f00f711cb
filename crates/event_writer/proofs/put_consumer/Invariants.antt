-- What the loop of `event_writer::put_consumer` keeps: the lines of the priorities passed have been put.
use Rattle.lists.specs.Pages.{Added}
use Rattle.lists.specs.Tables.{joined}
use Rattle.registration.specs.Rules.{source_at}
use Rattle.event_writer.proofs.Lengths.{share_line}
use Rattle.event_writer.proofs.put_consumer.Given as goal

abbrev pub invariant-loop-priority : goal.invariant-loop-priority
invariant-loop-priority l = Added (joined (share_line (source_at l.registration l.consumer) l.consumer 0 l.shares) l.priority) l.initial.page l.page
