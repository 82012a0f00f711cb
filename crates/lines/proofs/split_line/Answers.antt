-- `lines::split_line` meets its contract: the text is split where its first line ends.
use mathlib.Core.Path.{◌≡◌, ◌∙◌}
use Rattle.std.proofs.Common.{rules}
use lib.ListN.{length}
use Rattle.lines.specs.Line.{first_line}
use Rattle.lines.proofs.Line.{end_of, line_ends, first_part, after_part}
use Rattle.lines.proofs.split_line.Goals as goal
use Rattle.lines.proofs.split_line.Goals.{After-split_at}

ends : (c : After-split_at) → c.map_or-end.result ≡ length (first_line c.args.text.now)
ends c =
    let m : c.map_or-end.result ≡ end_of c.line_feed.result (length c.args.text.now) = search rules in
    rw c.line_feed.ensures at m ∙ line_ends c.args.text.now

pub returns-clause-line : goal.returns-clause-line
returns-clause-line c = rw (ends (goal.at.returns-clause-line c).After-split_at) at c.split_at.ensures.front ∙ first_part c.args.text.now

pub returns-clause-rest : goal.returns-clause-rest
returns-clause-rest c = rw (ends (goal.at.returns-clause-rest c).After-split_at) at c.split_at.ensures.back ∙ after_part c.args.text.now
