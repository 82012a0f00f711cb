-- The reply to an event: the refusal where it asks for no call, otherwise what its call leaves and answers. Assumes nothing.
use Rattle.std.proofs.Common.{ℕ, ◌≡◌, refl, sym, ◌∙◌, List, ◌++◌, append-nil, true, false, Option, None, Some, Result, Ok, Err}
use Rattle.std.specs.Result.{result_and, result_unwrap_or, is_ok}
use Rattle.answers.specs.declared.Refusal.{Refusal}
use Rattle.answers.specs.declared.Refusal.TheVariants.{NoSuchDay}
use Rattle.answers.specs.Numbers.{Verdict, number_of, answer_of}
use Rattle.lists.specs.declared.Page.{Page}
use Rattle.lists.specs.Pages.{Added}
use Rattle.lists.proofs.Adding.{added_then}
use Rattle.registration.specs.declared.Registration.{Registration}
use Rattle.service.specs.declared.Service.{Service}
use Rattle.service.specs.Call.{Call, Seen}
use Rattle.service.specs.Call.{Submission as Submit, Clear as ClearUp, Evaluation as Evaluate}
use Rattle.service.specs.Record.{call_on}
use Rattle.service.proofs.Evaluating.{evaluation_alters_nothing}
use Rattle.service.proofs.Answered.{number_answered, verdict_answered}
use Rattle.calendar.specs.Dates.{day_of}
use Rattle.event_reader.specs.declared.Submission.{Submission as SubmissionLine}
use Rattle.event_reader.specs.declared.Clear.{Clear as ClearLine}
use Rattle.event_reader.specs.declared.Evaluation.{Evaluation as EvaluationLine}
use Rattle.event_reader.specs.declared.Event.{Event}
use Rattle.event_reader.specs.declared.Event.TheVariants.{Submission, Clear, Evaluation}
use Rattle.event_writer.specs.Answers.{line_a, line_r, lines_of_result}
use Rattle.event_calls.specs.Replies.{on_day, measured, call_of, refusal_text, answer_text, result_text, evaluation_text, call_text, result_list, reply_with, reply_of}
use Rattle.event_calls.specs.Promises.{Calls, Evaluated, Replied}

-- a date that does not exist, and the day of one that does
pub no_call_lem : {d : Option ℕ} (date : ℕ) (call : ℕ → Call) → d ≡ day_of date → d ≡ None → on_day (day_of date) call ≡ None
no_call_lem date call e f = rw (sym e ∙ f)

pub call_on_lem : {d : Option ℕ} (date : ℕ) {day : ℕ} (call : ℕ → Call) → d ≡ day_of date → d ≡ Some day → on_day (day_of date) call ≡ Some (call day)
call_on_lem date call e f = rw (sym e ∙ f)

-- the call of an E line on a day, and what is seen of it
abbrev asked_on : EvaluationLine → (day : ℕ) → Call
asked_on asked day = Evaluate day asked.quarter asked.until result_list

abbrev seen_on : Service → (journal : List ℕ) → EvaluationLine → (day : ℕ) → Seen
seen_on s j asked day = (call_on s j (asked_on asked day)).seen

-- the reply to an E line, by the day of its date
abbrev RepliedOn : Service → (journal : List ℕ) → EvaluationLine → Option ℕ → (before after : Page ℕ) → Type 0
RepliedOn s j asked day before after = Replied (reply_with s j (Some (Evaluation asked)) (on_day day (asked_on asked))) s j before after

-- the text of an evaluation by its verdict, which its answer tells: the R line alone, or with the lines of the result after it
module _ {before after : Page ℕ} where
  refused_text : (verdict : Verdict) (number : ℕ) (r : Registration) (line numbers : List ℕ) → is_ok (result_and verdict (Ok number)) ≡ false
      → Added line before after → Added (line ++ result_text verdict r numbers) before after
  refused_text (Ok _) number r line numbers e p = cc
  refused_text (Err refusal) number r line numbers e p = rw append-nil p

  accepted_text : (verdict : Verdict) (number : ℕ) (r : Registration) (line numbers : List ℕ) {between : Page ℕ} → is_ok (result_and verdict (Ok number)) ≡ true
      → Added line before between → Added (lines_of_result r numbers) between after → Added (line ++ result_text verdict r numbers) before after
  accepted_text (Ok _) number r line numbers e p q = added_then p q
  accepted_text (Err refusal) number r line numbers e p q = cc

module _ (s : Service) (j : List ℕ) {before after : Page ℕ} where
  -- an event whose call is answered by an A line
  replied_by_a : (event : Option Event) (call : ℕ → Call) (day : Option ℕ) (s' : Service) (answer : Result ℕ Refusal) (j' : List ℕ)
      → refusal_text event ≡ line_a (number_of NoSuchDay) 0 → ((day : ℕ) (seen : Seen) → call_text s.registration (call day) seen ≡ answer_text seen)
      → Calls s j (on_day day call) s' answer j' → Added (line_a (answer_of answer) (result_unwrap_or answer 0)) before after
      → Replied (reply_with s j event (on_day day call)) s' j' before after
  replied_by_a event call None s' answer j' r t made p =
      record { service = made.service; journal = made.journal; bytes = rw r (rw made.answers at p) }
  replied_by_a event call (Some day) s' answer j' r t made p =
      record {
        service = made.service;
        journal = made.journal;
        bytes = rw t (rw (made.answers, verdict_answered s j (call day), number_answered s j (call day)) at p);
      }

  pub replied_submission : (asked : SubmissionLine) (s' : Service) (answer : Result ℕ Refusal) (j' : List ℕ)
      → Calls s j (call_of (Some (Submission asked))) s' answer j' → Added (line_a (answer_of answer) (result_unwrap_or answer 0)) before after
      → Replied (reply_of s j (Some (Submission asked))) s' j' before after
  replied_submission asked s' answer j' made p =
      replied_by_a (Some (Submission asked)) (λ day. Submit asked.clock (measured asked day)) (day_of asked.date) s' answer j' refl (λ day seen. refl) made p

  pub replied_clear : (asked : ClearLine) (s' : Service) (answer : Result ℕ Refusal) (j' : List ℕ) → Calls s j (call_of (Some (Clear asked))) s' answer j'
      → Added (line_a (answer_of answer) (result_unwrap_or answer 0)) before after → Replied (reply_of s j (Some (Clear asked))) s' j' before after
  replied_clear asked s' answer j' made p =
      replied_by_a (Some (Clear asked)) (λ day. ClearUp day asked.stamp) (day_of asked.date) s' answer j' refl (λ day seen. refl) made p

  -- an evaluation leaves record and journal as they are
  module _ (asked : EvaluationLine) (answer : Result ℕ Refusal) (numbers : List ℕ) where
    replied_on : (day : ℕ) → Added (evaluation_text s.registration (seen_on s j asked day)) before after → RepliedOn s j asked (Some day) before after
    replied_on day p =
        let same = evaluation_alters_nothing s j day asked.quarter asked.until result_list in
        record { service = sym same.0; journal = sym same.1; bytes = p }

    refused_on : (day : Option ℕ) → Evaluated s j (on_day day (asked_on asked)) answer numbers → is_ok answer ≡ false
        → Added (line_r (answer_of answer) (result_unwrap_or answer 0)) before after → RepliedOn s j asked day before after
    refused_on None made k p = record { service = refl; journal = refl; bytes = rw made.answers at p }
    refused_on (Some day) made k p =
        let seen = seen_on s j asked day in
        replied_on day (refused_text seen.verdict seen.number s.registration _ seen.result (rw made.answers at k)
        (rw (made.answers, verdict_answered s j (asked_on asked day), number_answered s j (asked_on asked day)) at p))

    accepted_on : (day : Option ℕ) {between : Page ℕ} → Evaluated s j (on_day day (asked_on asked)) answer numbers → is_ok answer ≡ true
        → Added (line_r (answer_of answer) (result_unwrap_or answer 0)) before between → Added (lines_of_result s.registration numbers) between after → RepliedOn s j asked day before after
    accepted_on None made k p q = let z = rw made.answers at k in cc
    accepted_on (Some day) made k p q =
        let seen = seen_on s j asked day in
        replied_on day (accepted_text seen.verdict seen.number s.registration _ seen.result (rw made.answers at k)
        (rw (made.answers, verdict_answered s j (asked_on asked day), number_answered s j (asked_on asked day)) at p) (rw (made.result k) at q))

    module _ (made : Evaluated s j (call_of (Some (Evaluation asked))) answer numbers) where
      pub replied_refused : is_ok answer ≡ false → Added (line_r (answer_of answer) (result_unwrap_or answer 0)) before after
          → Replied (reply_of s j (Some (Evaluation asked))) s j before after
      replied_refused = refused_on (day_of asked.date) made

      pub replied_accepted : {between : Page ℕ} → is_ok answer ≡ true → Added (line_r (answer_of answer) (result_unwrap_or answer 0)) before between
          → Added (lines_of_result s.registration numbers) between after → Replied (reply_of s j (Some (Evaluation asked))) s j before after
      replied_accepted k p q = accepted_on (day_of asked.date) made k p q
