-- What the library's calls promise, for any arguments: the definitions of the service and of a registration's text, with the answer as a number. Assumes nothing.
use Rattle.std.specs.Prelude.{ℕ, ◌≡◌, List, Option, None, Some, Result}
use Rattle.std.specs.Result.{result_unwrap_or}
use Rattle.answers.specs.Numbers.{answer_of, number_of}
use Rattle.answers.specs.declared.Refusal.{Refusal}
use Rattle.answers.specs.declared.Refusal.TheVariants.{NoSuchDay}
use Rattle.registration.specs.declared.Registration.{Registration}
use Rattle.registration.specs.Damage.{empty}
use Rattle.registration_text.specs.Reader.{read_text}
use Rattle.registration_text.specs.Writer.{text_of, verdict_of_writing, bytes_written, buffer_after}
use Rattle.values.specs.declared.Measurement.{Measurement}
use Rattle.service.specs.declared.Service.{Service}
use Rattle.service.specs.Call.{Submission, Clear, Evaluation, Seen}
use Rattle.service.specs.Record.{zero_service, call_on}
use Rattle.service.specs.Promises.{fresh_of}
use Rattle.share_c.specs.declared.Read.{Read}
use Rattle.share_c.specs.declared.Written.{Written}
use Rattle.share_c.specs.declared.Fresh.{Fresh}
use Rattle.share_c.specs.declared.Submitted.{Submitted}
use Rattle.share_c.specs.declared.Cleared.{Cleared}
use Rattle.share_c.specs.declared.Evaluated.{Evaluated}
use Rattle.share_c.specs.declared.Dated.{Dated}

-- the answer to a text: the number of its verdict, and the registration read, zeros where it is refused
abbrev pub read_answer : List ℕ → Read
read_answer text = record { answer = answer_of (read_text text); registration = result_unwrap_or (read_text text) empty }

-- the answer to a registration that is to be written: the number of its verdict, and how many bytes were written, 0 where it is refused
abbrev pub write_answer : Result ℕ Refusal → Written
write_answer written = record { answer = answer_of written; bytes = result_unwrap_or written 0 }

-- a registration was written, or refused with nothing altered
pub record WriteLeaves (r : Registration) (before after : List ℕ) (written : Written) : Type 0 where
  pub answers : written ≡ write_answer (bytes_written r before)
  pub buffer : after ≡ buffer_after (verdict_of_writing r before) (text_of r) before

-- the answer of a fresh service: the number of its verdict, and the record, zeros where it is refused
abbrev pub fresh_answer : Registration → Fresh
fresh_answer r = record { answer = answer_of (fresh_of r); service = result_unwrap_or (fresh_of r) zero_service }

-- the answer of a submission: the number of its verdict, and the stamp
abbrev pub submit_answer : Seen → Submitted
submit_answer seen = record { answer = answer_of seen.verdict; stamp = seen.number }

-- the answer of a clear: the number of its verdict, and the dropped count
abbrev pub clear_answer : Seen → Cleared
clear_answer seen = record { answer = answer_of seen.verdict; dropped = seen.number }

-- the answer of an evaluation: the number of its verdict, and the round count
abbrev pub evaluate_answer : Seen → Evaluated
evaluate_answer seen = record { answer = answer_of seen.verdict; rounds = seen.number }

-- a submission leaves record and journal as the definition says, and answers so
pub record SubmitLeaves (s : Service) (j : List ℕ) (clock : ℕ) (m : Measurement) (s' : Service) (answer : Submitted) (j' : List ℕ) : Type 0 where
  pub service : s' ≡ (call_on s j (Submission clock m)).service
  pub answers : answer ≡ submit_answer (call_on s j (Submission clock m)).seen
  pub journal : j' ≡ (call_on s j (Submission clock m)).journal

-- a clear leaves record and journal as the definition says, and answers so
pub record ClearLeaves (s : Service) (j : List ℕ) (day stamp : ℕ) (s' : Service) (answer : Cleared) (j' : List ℕ) : Type 0 where
  pub service : s' ≡ (call_on s j (Clear day stamp)).service
  pub answers : answer ≡ clear_answer (call_on s j (Clear day stamp)).seen
  pub journal : j' ≡ (call_on s j (Clear day stamp)).journal

-- an evaluation alters neither record nor journal; it leaves the result list as the definition says, and answers so
pub record EvaluateLeaves (s : Service) (j : List ℕ) (day quarter T : ℕ) (lent : List ℕ) (answer : Evaluated) (lent' : List ℕ) : Type 0 where
  pub answers : answer ≡ evaluate_answer (call_on s j (Evaluation day quarter T lent)).seen
  pub result : lent' ≡ (call_on s j (Evaluation day quarter T lent)).seen.result

-- the answer of a day that was asked for: its number, or 9 and 0 where there is none
abbrev pub day_answer : Option ℕ → Dated
day_answer (Some day) = record { answer = 0; day = day }
day_answer None = record { answer = number_of NoSuchDay; day = 0 }
