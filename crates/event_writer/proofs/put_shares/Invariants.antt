-- What the loop of `event_writer::put_shares` keeps: the lines of the consumers passed have been put, and the shares of the others are left.
use mathlib.Core.Path.{◌≡◌}
use lib.ListN.{drop}
use Rattle.lists.specs.Pages.{Added}
use Rattle.lists.specs.Tables.{joined}
use Rattle.registration.specs.Pairs.{pairs_before}
use Rattle.event_writer.proofs.Lengths.{consumer_lines}
use Rattle.event_writer.proofs.put_shares.Given as goal

abbrev pub invariant-loop-consumer : goal.invariant-loop-consumer
invariant-loop-consumer l =
    (l.rest ≡ drop (pairs_before l.registration l.consumer) l.numbers) × Added (joined (consumer_lines l.registration l.numbers) l.consumer) l.initial.page l.page
