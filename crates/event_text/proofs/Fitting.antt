-- No answer to a line is longer than the buffer asked for. Assumes nothing.
use Prim.Native.Nat.{ℕ, ◌+◌, ◌≤◌}
use mathlib.Core.Path.{◌≡◌, refl, ap}
use mathlib.Core.List.{List}
use Rattle.std.specs.Prelude.{Option, None, Some, Ok, Err}
use native.Mathlib.Omega.{arith}
use lib.ListN.{length, length-append}
use Rattle.answers.specs.Numbers.{Verdict, answer_of}
use Rattle.lists.proofs.PlaceLaws.{length_placed}
use Rattle.columns.specs.Column.{column_of, lead_of}
use Rattle.columns.specs.Fields.{columns_of}
use Rattle.registration.specs.declared.Registration.{Registration}
use Rattle.service.specs.declared.Service.{Service}
use Rattle.service.specs.Call.{Call, Seen}
use Rattle.service.specs.Call.{Submission as Submit, Clear as ClearUp, Evaluation as Evaluate}
use Rattle.service.specs.Record.{call_on}
use Rattle.event_reader.specs.declared.Event.{Event}
use Rattle.event_reader.specs.declared.Event.TheVariants.{Submission, Clear, Evaluation}
use Rattle.event_reader.specs.Events.{event_in}
use Rattle.event_writer.specs.Answers.{line_a, line_r, bytes_of_rounds}
use Rattle.event_calls.specs.Replies.{call_of, refusal_text, result_text, evaluation_text, reply_with, reply_to}
use Rattle.event_calls.specs.Promises.{answer_most, Replies}
use Rattle.event_writer.proofs.Lengths.{length_of_answer, length_of_rounds, length_of_result}
use Rattle.event_calls.proofs.Sizes.{Small, evaluation_small}

-- an A line
answer_fits : (answer number : ℕ) → length (line_a answer number) ≤ answer_most
answer_fits answer number = omega (arith, length_of_answer answer number)

-- the answer to a line that asks for no call, by computing it
refusal_fits : (event : Option Event) → length (refusal_text event) ≤ answer_most
unfolding columns_of column_of lead_of
refusal_fits (Some (Submission asked)) = omega arith
refusal_fits (Some (Clear asked)) = omega arith
refusal_fits (Some (Evaluation asked)) = omega arith
refusal_fits None = omega arith

-- the lines of a result, which only an accepted evaluation has
result_fits : (verdict : Verdict) (r : Registration) (numbers : List ℕ) → (verdict ≡ Ok tt → Small r) → bytes_of_rounds + length (result_text verdict r numbers) ≤ answer_most
result_fits (Ok _) r numbers small = omega (arith, length_of_result r numbers, (small refl).bytes)
result_fits (Err refusal) r numbers small = omega arith

-- an R line, and the lines of the result after it
evaluation_fits : (r : Registration) (seen : Seen) → (seen.verdict ≡ Ok tt → Small r) → length (evaluation_text r seen) ≤ answer_most
evaluation_fits r seen small =
    let line = line_r (answer_of seen.verdict) seen.number in
    let lines = result_text seen.verdict r seen.result in
    omega (arith, length-append line lines, length_of_rounds (answer_of seen.verdict) seen.number, result_fits seen.verdict r seen.result small)

-- the reply to an event, by the call that it asks for
pub reply_fits : (s : Service) (j : List ℕ) (event : Option Event) (o : Option Call) → length (reply_with s j event o).bytes ≤ answer_most
reply_fits s j event None = refusal_fits event
reply_fits s j event (Some (Submit clock m)) =
    let seen = (call_on s j (Submit clock m)).seen in
    answer_fits (answer_of seen.verdict) seen.number
reply_fits s j event (Some (ClearUp day stamp)) =
    let seen = (call_on s j (ClearUp day stamp)).seen in
    answer_fits (answer_of seen.verdict) seen.number
reply_fits s j event (Some (Evaluate day quarter T lent)) =
    evaluation_fits s.registration (call_on s j (Evaluate day quarter T lent)).seen (evaluation_small s j day quarter T lent)

-- what was written to a buffer that is not refused lies within it
pub answer_within : (s : Service) (j line buffer : List ℕ) → answer_most ≤ length buffer → (s' : Service) (j' : List ℕ) (bytes : ℕ) (buffer' : List ℕ)
    → Replies (reply_to s j line) buffer s' j' bytes buffer' → bytes ≤ length buffer'
unfolding reply_to
answer_within s j line buffer h s' j' bytes buffer' p =
    let text = (reply_with s j (event_in line) (call_of (event_in line))).bytes in
    let fits = reply_fits s j (event_in line) (call_of (event_in line)) in
    omega (arith, p.bytes, ap length p.out, length_placed 0 text buffer (omega (arith, fits, h)), fits, h)
