-- What answering an event promises, for any record, journal and buffer that has room. Assumes nothing.
use Rattle.std.specs.Prelude.{ℕ, ◌≡◌, List, [], length, Option, None, Some, Result, Err}
use Rattle.std.specs.Result.{IsOk}
use Rattle.answers.specs.declared.Refusal.{Refusal}
use Rattle.answers.specs.declared.Refusal.TheVariants.{NoSuchDay}
use Rattle.lists.specs.declared.Page.{Page}
use Rattle.lists.specs.Place.{placed}
use Rattle.lists.specs.Pages.{Added}
use Rattle.service.specs.declared.Service.{Service}
use Rattle.service.specs.Call.{Call}
use Rattle.service.specs.Record.{Left, call_on}
use Rattle.service.specs.Promises.{answered}
use Rattle.event_calls.specs.Replies.{Reply}

-- the room that an answer is given: an R line, 5 S lines for each of 63 consumers, a U or V line and a W line for each of 64 points
abbrev pub answer_most : ℕ
answer_most = 7844

-- what a call on the day of a date leaves: refused by 9, with nothing altered, where there is no such day
abbrev pub left_by : Service → (journal : List ℕ) → Option Call → Left
left_by s j None = record { seen = record { verdict = Err NoSuchDay; number = 0; result = [] }; service = s; journal = j }
left_by s j (Some call) = call_on s j call

-- a call on the day of a date was made: its answer, and record and journal
pub record Calls (s : Service) (j : List ℕ) (call : Option Call) (s' : Service) (answer : Result ℕ Refusal) (j' : List ℕ) : Type 0 where
  pub service : s' ≡ (left_by s j call).service
  pub answers : answer ≡ answered (left_by s j call).seen
  pub journal : j' ≡ (left_by s j call).journal

-- an evaluation on the day of a date was made, which alters neither record nor journal: its answer, and, where it is accepted, the result list
pub record Evaluated (s : Service) (j : List ℕ) (call : Option Call) (answer : Result ℕ Refusal) (numbers : List ℕ) : Type 0 where
  pub answers : answer ≡ answered (left_by s j call).seen
  pub result : IsOk answer → numbers ≡ (left_by s j call).seen.result

-- an event was answered on a page: record and journal, and the bytes put
pub record Replied (reply : Reply) (service' : Service) (journal' : List ℕ) (before after : Page ℕ) : Type 0 where
  pub service : service' ≡ reply.service
  pub journal : journal' ≡ reply.journal
  pub bytes : Added reply.bytes before after

-- an event was answered: record and journal, the number of bytes written, and the buffer, whose later bytes stay
pub record Replies (reply : Reply) (buffer : List ℕ) (service' : Service) (journal' : List ℕ) (written : ℕ) (buffer' : List ℕ) : Type 0 where
  pub service : service' ≡ reply.service
  pub journal : journal' ≡ reply.journal
  pub bytes : written ≡ length reply.bytes
  pub out : buffer' ≡ placed 0 reply.bytes buffer
