-- What users of the service rely on beside demand 3, stated of its definitions; the proofs stand in proofs/Laws.antt, Evaluating.antt, Others.antt and Staying.antt. Assumes nothing.
use Rattle.std.specs.Prelude.{ℕ, ◌+◌, ◌*◌, ◌≤◌, ◌<◌, ◌≡◌, true, false, List, [], length, get_or}
use Rattle.values.specs.declared.Measurement.{Measurement}
use Rattle.service.specs.declared.Service.{Service}
use Rattle.group.specs.Group.{Group}
use Rattle.service.specs.Call.{Call, Submission, Clear, Evaluation, refused}
use Rattle.group.specs.Refusals.{damaged}
use Rattle.service.specs.Calls.{step}
use Rattle.service.specs.Record.{call_on}

-- the list that a call is lent for its result
abbrev pub lent_by : Call → List ℕ
lent_by (Submission clock m) = []
lent_by (Clear day stamp) = []
lent_by (Evaluation day quarter T lent) = lent

-- a call leaves record, journal and the list lent as they were, and returns 0
pub record Unaltered (s : Service) (j : List ℕ) (call : Call) : Type 0 where
  pub service : (call_on s j call).service ≡ s
  pub journal : (call_on s j call).journal ≡ j
  pub result : (call_on s j call).seen.result ≡ lent_by call
  pub number : (call_on s j call).seen.number ≡ 0

-- so does every refused call, whatever record and journal hold
abbrev pub RefusedAltersNothing : Type 0
RefusedAltersNothing = (s : Service) (j : List ℕ) (call : Call) → refused (call_on s j call).seen ≡ true → Unaltered s j call

-- no call alters the journal's length, and none the registration
abbrev pub LengthStays : Type 0
LengthStays =
    (s : Service) (j : List ℕ) (call : Call)
    → (length (call_on s j call).journal ≡ length j) × ((call_on s j call).service.registration ≡ s.registration)

-- an evaluation alters neither record nor journal, accepted or refused
abbrev pub EvaluationAltersNothing : Type 0
EvaluationAltersNothing =
    (s : Service) (j : List ℕ) (day quarter T : ℕ) (lent : List ℕ)
    → ((call_on s j (Evaluation day quarter T lent)).service ≡ s) × ((call_on s j (Evaluation day quarter T lent)).journal ≡ j)

-- an accepted submission leaves every number of the journal as it was but the three behind the entries that there were; where the entry count stays, as
-- after a repeat, it leaves all
abbrev pub SubmissionLeavesOthers : Type 0
SubmissionLeavesOthers =
    (s : Service) (j : List ℕ) (clock : ℕ) (m : Measurement)
    → let left = call_on s j (Submission clock m) in
    let count = s.state.numbers.entries in
    refused left.seen ≡ false
    → ((place : ℕ) → place < 3 * count → get_or left.journal place 0 ≡ get_or j place 0)
    × ((place : ℕ) → 3 * count + 3 ≤ place → get_or left.journal place 0 ≡ get_or j place 0)
    × (left.service.state.numbers.entries ≡ count → left.journal ≡ j)

-- an accepted clear leaves every number behind the entries that there were as it was, and 0 from the entries that it kept up to there
abbrev pub ClearLeavesLater : Type 0
ClearLeavesLater =
    (s : Service) (j : List ℕ) (day stamp : ℕ)
    → let left = call_on s j (Clear day stamp) in
    let count = s.state.numbers.entries in
    refused left.seen ≡ false
    → ((place : ℕ) → 3 * count ≤ place → get_or left.journal place 0 ≡ get_or j place 0)
    × ((place : ℕ) → 3 * left.service.state.numbers.entries ≤ place → place < 3 * count → get_or left.journal place 0 ≡ 0)

-- where nothing is damaged no call leaves anything damaged: the stamps go on to rise up to the last one, and every entry is right
abbrev pub StaysUndamaged : Type 0
StaysUndamaged =
    (last : ℕ) (G : Group) (call : Call) → damaged last G ≡ false
    → let after = step last G call in
    damaged after.last after.group ≡ false

-- an accepted clear sets neither K nor P back, and P not above the last stamp: what an earlier clear dropped is never asked for again
abbrev pub ClearGoesOn : Type 0
ClearGoesOn =
    (last : ℕ) (G : Group) (day stamp : ℕ)
    → let after = step last G (Clear day stamp) in
    refused after.seen ≡ false
    → (G.keptday ≤ after.group.keptday) × (G.keptstamp ≤ after.group.keptstamp) × (after.group.keptstamp ≤ after.last)
