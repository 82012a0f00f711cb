-- What a line does to record and journal, and the bytes that answer it: 1, then 9 for the date, then the call's own order. Assumes nothing.
use Rattle.std.specs.Prelude.{ℕ, List, [], ◌++◌, replicate, Option, None, Some, Ok, Err}
use Rattle.answers.specs.declared.Refusal.TheVariants.{NotInColumns, NoSuchDay}
use Rattle.answers.specs.Numbers.{Verdict, number_of, answer_of}
use Rattle.calendar.specs.Dates.{day_of}
use Rattle.registration.specs.declared.Registration.{Registration}
use Rattle.evaluation.specs.Layout.{result_most}
use Rattle.values.specs.declared.Measurement.{Measurement}
use Rattle.service.specs.declared.Service.{Service}
use Rattle.service.specs.Call.{Call, Seen}
use Rattle.service.specs.Call.{Submission as Submit, Clear as ClearUp, Evaluation as Evaluate}
use Rattle.service.specs.Record.{call_on}
use Rattle.event_reader.specs.declared.Submission.{Submission as SubmissionLine}
use Rattle.event_reader.specs.declared.Event.{Event}
use Rattle.event_reader.specs.declared.Event.TheVariants.{Submission, Clear, Evaluation}
use Rattle.event_reader.specs.Events.{event_in}
use Rattle.event_writer.specs.Answers.{line_a, line_r, lines_of_result}

-- the list that an evaluation is lent for its result: as many zeros as the largest result has numbers
abbrev pub result_list : List ℕ
result_list = replicate result_most 0

-- ---- the call that a line asks for

-- a call on the day of a date, which may not exist
abbrev pub on_day : Option ℕ → (ℕ → Call) → Option Call
on_day None call = None
on_day (Some day) call = Some (call day)

-- what an M line measures, on the day of its date
abbrev pub measured : SubmissionLine → (day : ℕ) → Measurement
measured asked day = record { code = asked.code; day = day; quarter = asked.quarter; value = asked.value }

-- the call that a line asks for; a malformed line asks for none, and neither does one whose date does not exist
abbrev pub call_of : Option Event → Option Call
call_of None = None
call_of (Some (Submission asked)) = on_day (day_of asked.date) (λ day. Submit asked.clock (measured asked day))
call_of (Some (Clear asked)) = on_day (day_of asked.date) (λ day. ClearUp day asked.stamp)
call_of (Some (Evaluation asked)) = on_day (day_of asked.date) (λ day. Evaluate day asked.quarter asked.until result_list)

-- ---- the text that answers it

-- the answer to a line that asks for no call: 1 for a malformed line, 9 for its date; an E line in its columns is answered by an R line
abbrev pub refusal_text : Option Event → List ℕ
refusal_text None = line_a (number_of NotInColumns) 0
refusal_text (Some (Submission asked)) = line_a (number_of NoSuchDay) 0
refusal_text (Some (Clear asked)) = line_a (number_of NoSuchDay) 0
refusal_text (Some (Evaluation asked)) = line_r (number_of NoSuchDay) 0

-- the A line of a submission or a clear: its answer, and the stamp or the dropped count
abbrev pub answer_text : Seen → List ℕ
answer_text seen = line_a (answer_of seen.verdict) seen.number

-- the lines of a result, none where the evaluation is refused
abbrev pub result_text : Verdict → Registration → (numbers : List ℕ) → List ℕ
result_text (Ok _) r numbers = lines_of_result r numbers
result_text (Err refusal) r numbers = []

-- the R line of an evaluation, and the lines of its result
abbrev pub evaluation_text : Registration → Seen → List ℕ
evaluation_text r seen = line_r (answer_of seen.verdict) seen.number ++ result_text seen.verdict r seen.result

-- the answer to a call
abbrev pub call_text : Registration → Call → Seen → List ℕ
call_text r (Submit clock m) seen = answer_text seen
call_text r (ClearUp day stamp) seen = answer_text seen
call_text r (Evaluate day quarter T lent) seen = evaluation_text r seen

-- ---- both

-- record and journal after a line, and the bytes that answer it
pub record Reply : Type 0 where
  pub service : Service
  pub journal : List ℕ
  pub bytes : List ℕ

-- a line that makes no call alters nothing
abbrev pub no_call : Service → (journal bytes : List ℕ) → Reply
no_call s j bytes = record { service = s; journal = j; bytes = bytes }

-- a call leaves record and journal as its own definition says
abbrev pub one_call : Service → (journal : List ℕ) → Call → Reply
one_call s j call =
    let left = call_on s j call in
    record { service = left.service; journal = left.journal; bytes = call_text s.registration call left.seen }

-- the reply to what a line asks for
abbrev pub reply_with : Service → (journal : List ℕ) → Option Event → Option Call → Reply
reply_with s j event None = no_call s j (refusal_text event)
reply_with s j event (Some call) = one_call s j call

-- the reply to an event, or to a malformed line
abbrev pub reply_of : Service → (journal : List ℕ) → Option Event → Reply
reply_of s j event = reply_with s j event (call_of event)

-- the reply to a line
unfoldable pub reply_to : Service → (journal line : List ℕ) → Reply
reply_to s j line = reply_of s j (event_in line)
