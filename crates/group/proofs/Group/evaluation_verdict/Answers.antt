-- `group::Group::evaluation_verdict` meets its contract. Assumes nothing.
use Rattle.std.proofs.Common.{arith}
use Rattle.std.proofs.lemmas.Grind.{common_steps}
use Rattle.group.specs.Refusals.{evaluation_verdict}
use Rattle.group.proofs.Tests.{tests}
use Rattle.group.proofs.Group.evaluation_verdict.Goals as goal

pub returns-then-asked-earliest : goal.returns-then-asked-earliest
unfolding evaluation_verdict
returns-then-asked-earliest c = grind (arith, common_steps, tests, c.earliest.ensures)

pub returns-then-not-keeps : goal.returns-then-not-keeps
unfolding evaluation_verdict
returns-then-not-keeps c = rw (← c.earliest.ensures) (grind (arith, common_steps, tests))

pub returns-then-lent-layout_of : goal.returns-then-lent-layout_of
unfolding evaluation_verdict
returns-then-lent-layout_of c =
    rw (← c.earliest.ensures, ← c.layout_of.ensures.size) (grind (arith, common_steps, tests))

pub returns : goal.returns
unfolding evaluation_verdict
returns c =
    rw (← c.earliest.ensures, ← c.layout_of.ensures.size) (grind (arith, common_steps, tests))
