-- What the loop of `changeovers::put_lines` keeps. Assumes nothing.
use Rattle.lists.specs.Pages.{Added}
use Rattle.lists.specs.Tables.{joined}
use Rattle.changeovers.specs.Text.{changeover_line}
use Rattle.changeovers.proofs.put_lines.Given as goal

abbrev pub invariant-loop-day : goal.invariant-loop-day
invariant-loop-day l = Added (joined changeover_line l.day-index) l.initial.page l.page
