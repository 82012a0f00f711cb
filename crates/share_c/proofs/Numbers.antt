-- An answer of a call, told as numbers, is the one that the library promises. Assumes nothing.
use Rattle.std.proofs.Common.{◌≡◌, ℕ, List, Result}
use Rattle.std.specs.Result.{result_unwrap_or}
use Rattle.answers.specs.declared.Refusal.{Refusal}
use Rattle.answers.specs.Numbers.{answer_of}
use Rattle.registration.specs.declared.Registration.{Registration}
use Rattle.registration.specs.Damage.{empty}
use Rattle.registration_text.specs.Reader.{read_text}
use Rattle.registration_text.specs.Writer.{Wrote}
use Rattle.values.specs.declared.Measurement.{Measurement}
use Rattle.service.specs.declared.Service.{Service}
use Rattle.service.specs.Call.{Submission, Clear, Evaluation}
use Rattle.service.specs.Record.{zero_service}
use Rattle.service.specs.Promises.{fresh_of, Submits, Clears, Evaluates}
use Rattle.service.proofs.Answered.{number_answered, verdict_answered}
use Rattle.share_c.specs.declared.Read.{Read}
use Rattle.share_c.specs.declared.Fresh.{Fresh}
use Rattle.share_c.specs.Promises.{read_answer, fresh_answer, WriteLeaves, SubmitLeaves, ClearLeaves, EvaluateLeaves}

pub read_numbers : (text : List ℕ) (read : Result Registration Refusal) (number : ℕ) (registration : Registration) → read ≡ read_text text
    → number ≡ answer_of read → registration ≡ result_unwrap_or read empty
    → ◌≡◌ {A = Read} (record { answer = number; registration = registration }) (read_answer text)
read_numbers text read number registration e n u = rw (n, u, e)

pub fresh_numbers_lem : (r : Registration) (fresh : Result Service Refusal) (number : ℕ) (service : Service) → fresh ≡ fresh_of r
    → number ≡ answer_of fresh → service ≡ result_unwrap_or fresh zero_service
    → ◌≡◌ {A = Fresh} (record { answer = number; service = service }) (fresh_answer r)
fresh_numbers_lem r fresh number service e n u = rw (n, u, e)

pub write_numbers : (r : Registration) (before after : List ℕ) (written : Result ℕ Refusal) (number bytes : ℕ) → Wrote r before after written
    → number ≡ answer_of written → bytes ≡ result_unwrap_or written 0 → WriteLeaves r before after (record { answer = number; bytes = bytes })
write_numbers r before after written number bytes m n u = record { answers = rw (n, u, m.answer); buffer = m.buffer }

module _ (s : Service) (j : List ℕ) (given : Result ℕ Refusal) (answer number : ℕ) (n : answer ≡ answer_of given) (u : number ≡ result_unwrap_or given 0) where
  pub submit_numbers : (clock : ℕ) (m : Measurement) (s' : Service) (j' : List ℕ) → Submits s j clock m s' given j'
      → SubmitLeaves s j clock m s' (record { answer = answer; stamp = number }) j'
  submit_numbers clock m s' j' made =
      let call = Submission clock m in
      record { service = made.service; answers = rw (n, u, made.answers, verdict_answered s j call, number_answered s j call); journal = made.journal }

  pub clear_numbers : (day stamp : ℕ) (s' : Service) (j' : List ℕ) → Clears s j day stamp s' given j'
      → ClearLeaves s j day stamp s' (record { answer = answer; dropped = number }) j'
  clear_numbers day stamp s' j' made =
      let call = Clear day stamp in
      record { service = made.service; answers = rw (n, u, made.answers, verdict_answered s j call, number_answered s j call); journal = made.journal }

  pub evaluate_numbers : (day quarter T : ℕ) (lent lent' : List ℕ) → Evaluates s j (record { day = day; quarter = quarter; until = T }) lent given lent'
      → EvaluateLeaves s j day quarter T lent (record { answer = answer; rounds = number }) lent'
  evaluate_numbers day quarter T lent lent' made =
      let call = Evaluation day quarter T lent in
      record { answers = rw (n, u, made.answers, verdict_answered s j call, number_answered s j call); result = made.result }
