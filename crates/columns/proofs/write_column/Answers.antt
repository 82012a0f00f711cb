-- `columns::write_column` meets its contract: what is to be written before i and what stands from i on make the bytes before the last one.
use mathlib.Core.Path.{◌∙◌}
use native.Mathlib.Omega.{arith}
use lib.ListN.{length-set}
use Rattle.columns.proofs.Fill.{fill_step, fill_end, fill_empty}
use Rattle.columns.proofs.write_column.Goals as goal

pub returns-in_default : goal.returns-in_default
returns-in_default c = fill_empty _ _ _ c.in_default.ensures.cases

pub loop-i-preserved : goal.loop-i-preserved
loop-i-preserved c =
    let at = c.loop-i in
    rw length-set (at.invariant ∙ fill_step at.before at.due at.i at.n (omega arith) (omega arith) ∙ rw c.byte_before.ensures)

pub returns : goal.returns
returns c =
    let at = c.loop-i in
    rw c.last_digit.ensures (fill_end at.before _ at.due _ _ at.i at.n (omega (arith, c.in-Some.ensures.cases.1)) (omega arith) at.invariant)
