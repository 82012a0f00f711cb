-- What a reader of the book relies on, stated of its definitions; the proofs stand in proofs/Laws.antt. Assumes nothing.
use Rattle.std.specs.Prelude.{◌≤◌, ◌≡◌, Option, None, Some}
use mathlib.Core.List.{Memᴰ}
use Rattle.values.specs.declared.Measurement.{Measurement}
use Rattle.journal.specs.Order.{Reading}
use Rattle.demand3.specs.Book.{Note, Page, newest_noted}

-- a note is of the code, day and quarter of a measurement
pub record IsOf (m : Measurement) (note : Note) : Type 0 where
  pub code : note.code ≡ m.code
  pub day : note.day ≡ m.day
  pub quarter : note.quarter ≡ m.quarter

-- a reading is the newest that a page has for a measurement: a note of that code, day and quarter has it, and none of them has a greater stamp
pub record IsNewestNoted (page : Page) (m : Measurement) (newest : Reading) : Type 0 where
  pub note : Note
  pub among : Memᴰ note page.notes
  pub of : IsOf m note
  pub is : note.reading ≡ newest
  pub greatest : (other : Note) → Memᴰ other page.notes → IsOf m other → other.reading.stamp ≤ newest.stamp

-- what is found is the newest; nothing is found only where no note is of that code, day and quarter
abbrev pub FindsNewest : Page → Measurement → Option Reading → Type 0
FindsNewest page m None = (note : Note) → Memᴰ note page.notes → IsOf m note → ⊥
FindsNewest page m (Some newest) = IsNewestNoted page m newest

-- of every page and measurement, in whatever order the notes stand
abbrev pub NewestNotedIsNewest : Type 0
NewestNotedIsNewest = (page : Page) (m : Measurement) → FindsNewest page m (newest_noted page m)
