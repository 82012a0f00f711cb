-- What the code's calls promise, for any record and any journal: answer, record, journal and result list are those of the definitions. Assumes nothing.
use Rattle.std.specs.Prelude.{ℕ, ◌≡◌, List, Result, Ok}
use Rattle.answers.specs.declared.Refusal.{Refusal}
use Rattle.std.specs.Result.{result_and}
use Rattle.registration.specs.declared.Registration.{Registration}
use Rattle.registration.specs.Damage.{soundness}
use Rattle.values.specs.declared.Measurement.{Measurement}
use Rattle.lookup.specs.declared.Asked.{Asked}
use Rattle.service.specs.declared.Service.{Service}
use Rattle.service.specs.Call.{Submission, Clear, Evaluation, Seen}
use Rattle.service.specs.Record.{fresh_service, call_on}

-- the answer of `fresh`: refused by 15 where the registration is damaged, otherwise the record made from it
abbrev pub fresh_of : Registration → Result Service Refusal
fresh_of r = result_and (soundness r) (Ok (fresh_service r))

-- the answer of a call: its refusal, or the number that it returns: a stamp, a dropped count or a round count
abbrev pub answered : Seen → Result ℕ Refusal
answered seen = result_and seen.verdict (Ok seen.number)

-- a submission leaves record and journal as the definition says, and answers so
pub record Submits (s : Service) (j : List ℕ) (clock : ℕ) (m : Measurement) (s' : Service) (answer : Result ℕ Refusal) (j' : List ℕ) : Type 0 where
  pub service : s' ≡ (call_on s j (Submission clock m)).service
  pub answers : answer ≡ answered (call_on s j (Submission clock m)).seen
  pub journal : j' ≡ (call_on s j (Submission clock m)).journal

-- a clear leaves record and journal as the definition says, and answers so
pub record Clears (s : Service) (j : List ℕ) (day stamp : ℕ) (s' : Service) (answer : Result ℕ Refusal) (j' : List ℕ) : Type 0 where
  pub service : s' ≡ (call_on s j (Clear day stamp)).service
  pub answers : answer ≡ answered (call_on s j (Clear day stamp)).seen
  pub journal : j' ≡ (call_on s j (Clear day stamp)).journal

-- an evaluation alters neither record nor journal; it leaves the result list as the definition says, and answers so
pub record Evaluates (s : Service) (j : List ℕ) (asked : Asked) (lent : List ℕ) (answer : Result ℕ Refusal) (lent' : List ℕ) : Type 0 where
  pub answers : answer ≡ answered (call_on s j (Evaluation asked.day asked.quarter asked.until lent)).seen
  pub result : lent' ≡ (call_on s j (Evaluation asked.day asked.quarter asked.until lent)).seen.result
