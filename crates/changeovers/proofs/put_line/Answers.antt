-- `changeovers::put_line` meets its contract: the column and LF are put one after the other. Assumes nothing.
use Rattle.lists.proofs.Adding.{added_then}
use Rattle.changeovers.specs.Text.{day_line}
use Rattle.changeovers.proofs.put_line.Goals as goal

pub returns : goal.returns
unfolding day_line
returns c = added_then c.put_number.ensures c.put.ensures
