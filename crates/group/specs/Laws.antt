-- What users of a group rely on, stated of its definitions; the proofs stand in proofs/Laws.antt. Assumes nothing.
use Rattle.std.specs.Prelude.{ℕ, ◌+◌, ◌≤◌, ◌<◌, ◌≡◌, List}
use Rattle.std.specs.Prelude.{Ok}
use Rattle.group.specs.Group.{Group}
use Rattle.group.specs.Refusals.{evaluation_verdict}
use Rattle.group.specs.Stamps.{next_stamp}

-- a new stamp is above the last one, and not below the clock
abbrev pub NextStampRises : Type 0
NextStampRises = (clock last : ℕ) → (last < next_stamp clock last) × (clock ≤ next_stamp clock last)

-- where the clock is above the last stamp the new stamp is the clock, otherwise it is the last stamp + 1
abbrev pub NextStampIs : Type 0
NextStampIs = (clock last : ℕ) → (last < clock → next_stamp clock last ≡ clock) × (clock ≤ last → next_stamp clock last ≡ last + 1)

-- no day of the four weeks before one that is evaluated is cleared; 28 stands here as a number, so that the law does not follow the definition
abbrev pub FourWeeksKept : Type 0
FourWeeksKept =
    (last : ℕ) (G : Group) (day quarter T : ℕ) (lent : List ℕ) → evaluation_verdict last G day quarter T lent ≡ Ok tt
    → (before : ℕ) → day ≤ before + 28 → G.keptday ≤ before
