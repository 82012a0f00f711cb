-- What the loop of `registration_writer::letters::put_consumers` keeps: the O lines passed have been put. Assumes nothing.
use Rattle.lists.specs.Pages.{Added}
use Rattle.lists.specs.Tables.{joined}
use Rattle.registration_text.specs.Lines.{line_o}
use Rattle.registration_writer.proofs.letters.put_consumers.Given as goal

abbrev pub invariant-loop-consumer : goal.invariant-loop-consumer
invariant-loop-consumer l = Added (joined (line_o l.registration) l.consumer) l.initial.page l.page
