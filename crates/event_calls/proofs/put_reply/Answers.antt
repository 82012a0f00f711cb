-- `event_calls::put_reply` meets its contract. Assumes nothing.
use Rattle.std.proofs.Common.{rules, ◌≡◌}
use Rattle.event_reader.specs.declared.Event.TheVariants.{Submission, Clear}
use Rattle.event_calls.proofs.Replying.{replied_submission, replied_clear}
use Rattle.event_calls.proofs.put_reply.Goals as goal

pub returns-in-Some-Submission : goal.returns-in-Some-Submission
returns-in-Some-Submission c =
    let arm = c.in-Some-Submission in
    let which : arm.field-0 ≡ Submission arm.asked = search rules in
    rw (arm.is, which) (replied_submission _ _ _ _ _ _ c.submission.ensures c.put_answer-in-Some-Submission.ensures)

pub returns-in-Some-Clear : goal.returns-in-Some-Clear
returns-in-Some-Clear c =
    let arm = c.in-Some-Clear in
    let which : arm.field-0 ≡ Clear arm.asked = search rules in
    rw (arm.is, which) (replied_clear _ _ _ _ _ _ c.clear.ensures c.put_answer-in-Some-Clear.ensures)
