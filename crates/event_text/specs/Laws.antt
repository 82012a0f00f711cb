-- What joins the code's functions to the definition of `share`, `share` to demand 3, and its numbers to their columns, as statements; `proofs/Laws.antt`
-- proves each. Assumes nothing.
use Rattle.std.specs.Prelude.{ℕ, ◌+◌, ◌≤◌, ◌<◌, ◌≡◌, true, List, [], ◌∷◌, ◌++◌, length, get_or, replicate, Option, None, Some, Ok}
use Rattle.answers.specs.Numbers.{answer_of}
use Rattle.columns.specs.Fields.{fitting}
use Rattle.lines.specs.Line.{first_line, after_line}
use Rattle.registration.specs.declared.Registration.{Registration}
use Rattle.registration.specs.Rules.{count_at, source_at}
use Rattle.registration.specs.Pairs.{pairs_before}
use Rattle.evaluation.specs.Layout.{Withdrawals, Supplies, Origins, length_of, begin_of}
use Rattle.service.specs.declared.Service.{Service}
use Rattle.service.specs.Call.{Call, Submission, Clear, Evaluation, Seen}
use Rattle.service.specs.Record.{fresh_service, call_on}
use Rattle.demand3.specs.Demand3.{seen_of}
use Rattle.event_reader.specs.declared.Event.{Event}
use Rattle.event_reader.specs.Events.{event_in}
use Rattle.event_writer.specs.Answers.{widths_a, widths_r, widths_s, widths_of_remaining, widths_w}
use Rattle.event_calls.specs.Replies.{call_of, call_text, refusal_text, reply_to}
use Rattle.event_text.specs.Share.{lines_of, events_in, events_text, answers_to, journal_numbers, opening_of, share}
use Rattle.event_calls.specs.Promises.{answer_most}

-- ---- the program's loop

-- the answers to a text are those of its first line, and then those of the text after it
abbrev pub AnsweredByLines : Type 0
AnsweredByLines =
    (s : Service) (j : List ℕ) (byte : ℕ) (bytes : List ℕ)
    → let text = byte ∷ bytes in
    let reply = reply_to s j (first_line text) in
    answers_to s j (lines_of text) ≡ reply.bytes ++ answers_to reply.service reply.journal (lines_of (after_line text))

-- what is written for an accepted registration are the answers to the text from where its events begin
abbrev pub SharedFromEvents : Type 0
SharedFromEvents =
    (input : List ℕ) (r : Registration) → opening_of input ≡ Ok r
    → share input ≡ answers_to (fresh_service r) (replicate journal_numbers 0) (lines_of (events_text input))

-- no answer is longer than a buffer that is not refused
abbrev pub AnswersFit : Type 0
AnswersFit = (s : Service) (j line : List ℕ) → length (reply_to s j line).bytes ≤ answer_most

-- ---- the calls of an input

-- a call, if there is one, before others
abbrev pub with_call : Option Call → List Call → List Call
with_call None calls = calls
with_call (Some call) calls = call ∷ calls

-- the calls that lines ask for, in turn
unfoldable pub calls_in : List (List ℕ) → List Call
calls_in [] = []
calls_in (line ∷ lines) = with_call (call_of (event_in line)) (calls_in lines)

-- the answer to a line: from what is seen of the first of these calls, if it asks for one
abbrev pub line_text : Registration → Option Event → Option Call → List Seen → List ℕ
line_text r event None seen = refusal_text event
line_text r event (Some call) [] = []
line_text r event (Some call) (a ∷ seen) = call_text r call a

-- what is seen of the calls after a line
abbrev pub seen_later : Option Call → List Seen → List Seen
seen_later None seen = seen
seen_later (Some call) [] = []
seen_later (Some call) (a ∷ seen) = seen

-- the answers to lines, from what is seen of their calls
unfoldable pub printed : Registration → List (List ℕ) → List Seen → List ℕ
printed r [] seen = []
printed r (line ∷ lines) seen =
    line_text r (event_in line) (call_of (event_in line)) seen ++ printed r lines (seen_later (call_of (event_in line)) seen)

-- what `share` gives is what demand 3 speaks of: the answers of its calls, made on a fresh service in turn
abbrev pub PrintsItsCalls : Type 0
PrintsItsCalls =
    (input : List ℕ) (r : Registration) → opening_of input ≡ Ok r
    → let lines = events_in (lines_of input) in
    share input ≡ printed r lines (seen_of r (replicate journal_numbers 0) (calls_in lines))

-- ---- the columns of the answers

-- each number of a result fits its column
pub record ResultFits (r : Registration) (numbers : List ℕ) : Type 0 where
  pub shares : (consumer priority : ℕ) → consumer < r.consumers → priority < count_at r consumer
      → fitting widths_s ((consumer + 1) ∷ source_at r consumer priority ∷ get_or numbers (pairs_before r consumer + priority) 0 ∷ []) ≡ true
  pub withdrawals : (consumer : ℕ) → consumer < length_of r Withdrawals
      → fitting widths_of_remaining ((consumer + 1) ∷ get_or numbers (begin_of r Withdrawals + consumer) 0 ∷ []) ≡ true
  pub supplies : (producer : ℕ) → producer < length_of r Supplies
      → fitting widths_of_remaining ((producer + 1) ∷ get_or numbers (begin_of r Supplies + producer) 0 ∷ []) ≡ true
  pub origins : (point : ℕ) → point < length_of r Origins
      → fitting widths_w ((point + 1) ∷ get_or numbers (begin_of r Origins + point) 0 ∷ []) ≡ true

-- each number of the answer to a call fits its column
abbrev pub CallFits : Registration → Call → Seen → Type 0
CallFits r (Submission clock m) seen = fitting widths_a (answer_of seen.verdict ∷ seen.number ∷ []) ≡ true
CallFits r (Clear day stamp) seen = fitting widths_a (answer_of seen.verdict ∷ seen.number ∷ []) ≡ true
CallFits r (Evaluation day quarter T lent) seen =
    (fitting widths_r (answer_of seen.verdict ∷ seen.number ∷ []) ≡ true) × (seen.verdict ≡ Ok tt → ResultFits r seen.result)

-- no number of an answer is too large for its column, whatever the record, the journal of the program's size and the call
abbrev pub NumbersFit : Type 0
NumbersFit = (s : Service) (j : List ℕ) (call : Call) → length j ≡ journal_numbers → CallFits s.registration call (call_on s j call).seen
