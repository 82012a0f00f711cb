-- What a note is for, and a page with one note more: its readings, and that none is later than a stamp. Assumes nothing.
use Prim.Native.Nat.{ℕ, ◌≤◌}
use mathlib.Core.Path.{◌≡◌}
use mathlib.Core.Bool.{◌&&◌}
use mathlib.Core.List.{List, [], ◌∷◌, ◌++◌, map, append-nil}
use lib.Dec.{eqb}
use Rattle.lists.proofs.Cases.{by_test}
use Rattle.journal.specs.Order.{Reading}
use Rattle.lists.specs.Those.{those}
use Rattle.lists.proofs.Those.{those_append, map_append}
use Rattle.journal.proofs.ShownLaws.{Under}
use Rattle.demand3.specs.Book.{Page, Note, is_for, noted, with_note}

-- a note is for a code, day and quarter where each of the three is its own
pub is_for_lem : (code day quarter : ℕ) (note : Note)
    → is_for code day quarter note ≡ eqb note.code code && eqb note.day day && eqb note.quarter quarter
is_for_lem code day quarter note =
    by_test (eqb note.code code)
    (λ c. by_test (eqb note.day day)
    (λ d. by_test (eqb note.quarter quarter) (λ q. cc) (λ q. cc))
    (λ d. by_test (eqb note.quarter quarter) (λ q. cc) (λ q. cc)))
    (λ c. by_test (eqb note.day day)
    (λ d. by_test (eqb note.quarter quarter) (λ q. cc) (λ q. cc))
    (λ d. by_test (eqb note.quarter quarter) (λ q. cc) (λ q. cc)))

-- the readings that a new note adds for a code, day and quarter: its own, or none
pub noted_more : (page : Page) (note : Note) (code day quarter : ℕ)
    → noted (with_note page note) code day quarter
    ≡ noted page code day quarter ++ map (λ (n : Note). n.reading) (those (is_for code day quarter) (note ∷ []))
noted_more page note code day quarter =
    cc (
      those_append (is_for code day quarter) page.notes (note ∷ []),
      map_append (λ (n : Note). n.reading) (those (is_for code day quarter) page.notes) (those (is_for code day quarter) (note ∷ [])),
    )

-- one reading more
under_one_more : (T : ℕ) (rs : List Reading) (r : Reading) → Under T rs → r.stamp ≤ T → Under T (rs ++ (r ∷ []))
under_one_more T [] r u h = (h, tt)
under_one_more T (x ∷ rs) r u h = (u.0, under_one_more T rs r u.1 h)

-- one note more
pub under_noted : (T : ℕ) (page : Page) (note : Note) (code day quarter : ℕ)
    → Under T (noted page code day quarter) → note.reading.stamp ≤ T → Under T (noted (with_note page note) code day quarter)
under_noted T page note code day quarter u h =
    rw (noted_more page note code day quarter)
    (by_test (is_for code day quarter note)
    (λ t. rw t (under_one_more T (noted page code day quarter) note.reading u h))
    (λ t. rw (t, append-nil) u))
