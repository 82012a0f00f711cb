-- What the loop of `registration_writer::letters::put_consumer` keeps: the pairs passed have been put. Assumes nothing.
use Rattle.lists.specs.Pages.{Added}
use Rattle.lists.specs.Tables.{joined}
use Rattle.registration.specs.Rules.{source_at, key_at}
use Rattle.registration_writer.proofs.Sizes.{pair_columns}
use Rattle.registration_writer.proofs.letters.put_consumer.Given as goal

abbrev pub invariant-loop-pair : goal.invariant-loop-pair
invariant-loop-pair l = Added (joined (pair_columns (source_at l.registration l.consumer) (key_at l.registration l.consumer)) l.pair-index) l.initial.page l.page
