-- The calls on a group, and what a caller sees of one. The last stamp is handed in and handed back. Assumes nothing.
use Rattle.std.specs.Prelude.{ℕ, Bool, true, false, List}
use Rattle.answers.specs.Numbers.{Verdict}
use Rattle.std.specs.Prelude.{Ok, Err}
use Rattle.values.specs.declared.Measurement.{Measurement}
use Rattle.group.specs.Group.{Group}

-- the calls: a submission brings a measurement, an evaluation is lent a list for its result
pub data Call : Type 0 where
  Submission : (clock : ℕ) → Measurement → Call
  Clear : (day stamp : ℕ) → Call
  Evaluation : (day quarter T : ℕ) → (lent : List ℕ) → Call

-- what a caller sees of a call: the verdict; the number that it returns, which is a stamp, a dropped count or a round count, and 0 if it is refused;
-- and the list lent for a result, as the call leaves it
pub record Seen : Type 0 where
  pub verdict : Verdict
  pub number : ℕ
  pub result : List ℕ

-- whether a verdict is a refusal; an accepted call is one not refused
abbrev pub is_refused : Verdict → Bool
is_refused (Ok _) = false
is_refused (Err refusal) = true

-- whether a call was refused, from what is seen of it
abbrev pub refused : Seen → Bool
refused seen = is_refused seen.verdict

-- what a call leaves: what is seen of it, the last stamp and the group
pub record After : Type 0 where
  pub seen : Seen
  pub last : ℕ
  pub group : Group
