-- The book of demand 3: it is fed the arguments of each call and whether the call was refused, and takes nothing from record or journal. Its last
-- stamp stands beside the page that holds registration and readings. Assumes nothing.
use Rattle.std.specs.Prelude.{ℕ, Bool, true, false, cond, ◌&&◌, List, [], ◌∷◌, ◌++◌, map, eqb, Option}
use Rattle.registration.specs.declared.Registration.{Registration}
use Rattle.values.specs.declared.Measurement.{Measurement}
use Rattle.journal.specs.Value.{value_of}
use Rattle.journal.specs.Order.{Reading}
use Rattle.lists.specs.Those.{those}
use Rattle.journal.specs.Readings.{strongest, same_as, stamp_of}
use Rattle.evaluation.specs.Evaluation.{Result, evaluation_of}
use Rattle.service.specs.Call.{Call, Submission, Clear, Evaluation}
use Rattle.group.specs.Stamps.{next_stamp}

-- what is noted of an accepted submission: code, day, quarter, and the reading with its magnitude and stamp
pub record Note : Type 0 where
  pub code : ℕ
  pub day : ℕ
  pub quarter : ℕ
  pub reading : Reading

-- registration and readings
pub record Page : Type 0 where
  pub registration : Registration
  pub notes : List Note

-- the book: its last stamp and its page
pub record Book : Type 0 where
  pub last : ℕ
  pub page : Page

-- the book starts with the registration, no readings and last stamp 0
abbrev pub new_book : Registration → Book
new_book r = record { last = 0; page = record { registration = r; notes = [] } }

-- whether a note is for a code, day and quarter
abbrev pub is_for : (code day quarter : ℕ) → Note → Bool
is_for code day quarter note = eqb note.code code && eqb note.day day && eqb note.quarter quarter

-- the readings that the book has for a code, day and quarter
abbrev pub noted : Page → (code day quarter : ℕ) → List Reading
noted page code day quarter = map (λ note. note.reading) (those (is_for code day quarter) page.notes)

-- the newest reading, the one with the greatest stamp, that the book has for a measurement's code, day and quarter
abbrev pub newest_noted : Page → Measurement → Option Reading
newest_noted page m = strongest (noted page m.code m.day m.quarter)

-- what is noted of a measurement under a stamp
abbrev pub note_of : (stamp : ℕ) → Measurement → Note
note_of stamp m = record { code = m.code; day = m.day; quarter = m.quarter; reading = record { stamp = stamp; value = value_of m } }

-- a page with one note more
abbrev pub with_note : Page → Note → Page
with_note page note = record { registration = page.registration; notes = page.notes ++ (note ∷ []) }

-- the stamp of an accepted submission: that of the newest reading if it has the same magnitude, otherwise a new one
unfoldable pub book_stamp : Book → (clock : ℕ) → Measurement → ℕ
book_stamp b clock m =
    let newest = newest_noted b.page m in
    cond (same_as newest (value_of m)) (stamp_of newest) (next_stamp clock b.last)

-- the book after an accepted submission: nothing is noted of the same magnitude; otherwise the reading is, and its stamp becomes the last stamp
unfoldable pub book_submitted : Book → (clock : ℕ) → Measurement → Book
book_submitted b clock m =
    let new = next_stamp clock b.last in
    cond (same_as (newest_noted b.page m) (value_of m))
    b
    (record { last = new; page = with_note b.page (note_of new m) })

-- the book after a call, of which it is told the arguments and whether it was refused
unfoldable pub book_after : Book → Call → (refused : Bool) → Book
book_after b call true = b
book_after b (Submission clock m) false = book_submitted b clock m
book_after b (Clear day stamp) false = b
book_after b (Evaluation day quarter T lent) false = b

-- the book's result for a day, quarter and T, by the rules for evaluation
unfoldable pub book_result : Book → (day quarter T : ℕ) → Result
book_result b day quarter T = evaluation_of b.page.registration (noted b.page) day quarter T
