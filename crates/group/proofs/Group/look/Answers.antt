-- `group::Group::look` meets its contract: each of its ends by the tests before it. Assumes nothing.
use Rattle.std.proofs.Common.{arith}
use Rattle.std.proofs.lemmas.Grind.{common_steps}
use Rattle.group.specs.Refusals.{submission_verdict}
use Rattle.group.proofs.Tests.{tests_of_submission}
use Rattle.group.proofs.Group.look.Goals as goal

pub returns-then-day-self : goal.returns-then-day-self
unfolding submission_verdict
returns-then-day-self c = grind (arith, common_steps, tests_of_submission)

pub returns-then-not-suits : goal.returns-then-not-suits
unfolding submission_verdict
returns-then-not-suits c = grind (arith, common_steps, tests_of_submission)

pub returns-then-not-clock_right : goal.returns-then-not-clock_right
unfolding submission_verdict
returns-then-not-clock_right c = grind (arith, common_steps, tests_of_submission)

pub returns-in-Some : goal.returns-in-Some
unfolding submission_verdict
returns-in-Some c = grind (arith, common_steps, tests_of_submission)

pub returns-in-None : goal.returns-in-None
unfolding submission_verdict
returns-in-None c = grind (arith, common_steps, tests_of_submission)

pub returns-in-None-2 : goal.returns-in-None-2
unfolding submission_verdict
returns-in-None-2 c = grind (arith, common_steps, tests_of_submission)
