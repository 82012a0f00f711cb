-- `journal_clear::mark` meets its contract. The invariant: the superseded entries whose keys are below the next one are marked. Assumes nothing.
use native.Mathlib.Omega.{arith}
use mathlib.Core.Path.{refl, sym, ◌∙◌}
use Rattle.journal_clear.proofs.Windows.{bounded, none_below, all_below, pass_on}
use Rattle.journal_clear.proofs.mark.Goals as goal

pub loop-next-init : goal.loop-next-init
loop-next-init c = (omega arith, refl, sym (none_below _ _ _))

pub loop-next-smaller : goal.loop-next-smaller
loop-next-smaller c =
    let at = rw c.in-Some.is at c.loop-next.invariant in
    let p = rw c.loop-next.auto.numbers at c.pass-next.ensures in
    let f = pass_on _ _ _ c.requires.few (bounded _ _ c.requires) _ _ _ _ at.0 at.2 (p.marks _ c.requires at.2) p.least in
    rw c.in-Some.is (omega (arith, f.1, at.0))

pub loop-next-preserved : goal.loop-next-preserved
loop-next-preserved c =
    let at = rw c.in-Some.is at c.loop-next.invariant in
    let p = rw c.loop-next.auto.numbers at c.pass-next.ensures in
    let f = pass_on _ _ _ c.requires.few (bounded _ _ c.requires) _ _ _ _ at.0 at.2 (p.marks _ c.requires at.2) p.least in
    (f.0, c.pass-next.auto.numbers ∙ at.1, f.2)

pub returns : goal.returns
returns c = (rw c.in_default.is at c.loop-next.invariant.2) ∙ all_below _ _ _ c.requires.few (bounded _ _ c.requires)
