-- What the loop of `event_writer::put_points` keeps: the lines of the points passed have been put.
use Rattle.lists.specs.Pages.{Added}
use Rattle.lists.specs.Tables.{joined}
use Rattle.event_writer.proofs.Lengths.{point_line}
use Rattle.event_writer.proofs.put_points.Given as goal

abbrev pub invariant-loop-point : goal.invariant-loop-point
invariant-loop-point l = Added (joined (point_line l.format.letter l.format.widths 0 l.numbers) l.point) l.initial.page l.page
