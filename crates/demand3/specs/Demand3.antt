-- Demand 3: one claim about every list of calls on a fresh service. Its proof stands in proofs/Demand3.antt. Assumes nothing.
use Rattle.std.specs.Prelude.{ℕ, ◌≡◌, false, List, ◌≢◌}
use Rattle.std.specs.Prelude.{Err}
use Rattle.answers.specs.declared.Refusal.TheVariants.{Damaged}
use Rattle.registration.specs.declared.Registration.{Registration}
use Rattle.registration.specs.Damage.{is_damaged}
use Rattle.evaluation.specs.Evaluation.{Result}
use Rattle.evaluation.specs.Layout.{Part, part_in, part_of}
use Rattle.service.specs.declared.Service.{Service}
use Rattle.service.specs.Call.{Call, Submission, Clear, Evaluation, Seen, refused}
use Rattle.service.specs.Record.{fresh_service, call_on}
use Rattle.demand3.specs.Book.{Book, new_book, book_stamp, book_after, book_result}
use Rattle.demand3.specs.Lists.{run, AllRight, Made}

-- record and journal: each call gets them as the one before left them, and nothing else writes them meanwhile
pub record RecordAndJournal : Type 0 where
  pub service : Service
  pub journal : List ℕ

-- what is seen of a call
abbrev pub look : RecordAndJournal → Call → Seen
look both call = (call_on both.service both.journal call).seen

-- record and journal after it
abbrev pub next : RecordAndJournal → Call → RecordAndJournal
next both call =
    let left = call_on both.service both.journal call in
    record { service = left.service; journal = left.journal }

-- what is seen of the calls of a list, from a fresh service and a journal of any length and content
abbrev pub seen_of : Registration → (journal : List ℕ) → List Call → List Seen
seen_of r journal calls = run look next (record { service = fresh_service r; journal = journal }) calls

-- an evaluation gives a result of a registration: each part at its place, pair shares, remaining withdrawals, remaining supplies and origins, and the
-- round count
pub record Gives (r : Registration) (result : Result) (seen : Seen) : Type 0 where
  pub parts : (part : Part) → part_in r part seen.result ≡ part_of result part
  pub rounds : seen.number ≡ result.allocation.rounds

-- what is right of an accepted call, by the book as the earlier calls made it
abbrev pub RightByBook : Book → Call → Seen → Type 0
RightByBook book (Submission clock m) seen = seen.number ≡ book_stamp book clock m
RightByBook book (Clear day stamp) seen = Unit {0}
RightByBook book (Evaluation day quarter T lent) seen = Gives book.page.registration (book_result book day quarter T) seen

-- two evaluations are equal in five: the four parts of the result, which are pair shares, remaining withdrawals, remaining supplies and origins, and the
-- round count
pub record SameResult (r : Registration) (a b : Seen) : Type 0 where
  pub parts : (part : Part) → part_in r part a.result ≡ part_in r part b.result
  pub rounds : a.number ≡ b.number

-- every accepted submission returns the book's stamp, every accepted evaluation gives the book's result; any two accepted evaluations of one day and
-- quarter as of one T, anywhere in the list, are equal; no call is refused by 15
pub record Demand3 (r : Registration) (journal : List ℕ) (calls : List Call) : Type 0 where
  pub each : AllRight refused book_after RightByBook (new_book r) calls (seen_of r journal calls)
  pub pairs : (i k day quarter T : ℕ) (lent lent' : List ℕ) (a b : Seen)
      → Made calls (seen_of r journal calls) i (Evaluation day quarter T lent) a → refused a ≡ false
      → Made calls (seen_of r journal calls) k (Evaluation day quarter T lent') b → refused b ≡ false
      → SameResult r a b
  pub undamaged : (i : ℕ) (call : Call) (a : Seen) → Made calls (seen_of r journal calls) i call a → a.verdict ≢ Err Damaged

-- the claim
abbrev pub Demand3Holds : Type 0
Demand3Holds = (r : Registration) → is_damaged r ≡ false → (journal : List ℕ) (calls : List Call) → Demand3 r journal calls
