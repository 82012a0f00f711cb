-- `lookup::Lookup::near_end` meets its contract: the entries passed are of no near place. Assumes nothing.
use Rattle.std.proofs.Common.{sym, ◌∙◌, arith}
use Rattle.lookup.proofs.NearEnd.{near_none, near_here, near_before}
use Rattle.lookup.proofs.Lookup.near_end.Goals as goal

pub returns-then-is_near : goal.returns-then-is_near
returns-then-is_near c =
    let a = c.args in
    let l = c.loop-i in
    omega (arith, l.invariant ∙ near_here a.first a.self.now.entries.now l.i (omega arith) (sym c.is_near.ensures ∙ c.if-is_near.true))

pub loop-i-preserved : goal.loop-i-preserved
loop-i-preserved c =
    let a = c.args in
    let l = c.loop-i in
    l.invariant ∙ near_before a.first a.self.now.entries.now l.i (omega arith) (sym c.is_near.ensures ∙ c.if-is_near.false)

pub returns : goal.returns
returns c =
    let a = c.args in
    let l = c.loop-i in
    sym (l.invariant ∙ near_none a.first a.self.now.entries.now l.i (omega (arith, c.loop-i-test.false)))
