-- A book only grows, by what is stamped above its last stamp: what it shows as of a stamp up to that one stays. Assumes nothing.
use Prim.Native.Nat.{ℕ, ◌≤◌, ◌<◌}
use native.Mathlib.Omega.{arith}
use mathlib.Core.Path.{◌≡◌, refl}
use mathlib.Core.Bool.{Bool, true, false}
use mathlib.Core.List.{append-nil}
use Rattle.lists.proofs.Cases.{by_test}
use Rattle.calendar.specs.Quarters.{quarter_exists}
use Rattle.journal.specs.Value.{value_of}
use Rattle.journal.specs.Readings.{shown, same_as}
use Rattle.journal.proofs.ShownLaws.{shown_late}
use Rattle.evaluation.proofs.Alike.{evaluation_alike}
use Rattle.service.specs.Call.{Call, Submission, Clear, Evaluation}
use Rattle.group.specs.Stamps.{next_stamp}
use Rattle.demand3.specs.Book.{Book, Note, is_for, noted, newest_noted, with_note, book_submitted, book_after, book_result}
use Rattle.demand3.proofs.Noted.{noted_more}

-- a book as later calls made it
pub record Later (b later : Book) : Type 0 where
  pub rises : b.last ≤ later.last
  pub shows : (code day quarter T : ℕ) → T ≤ b.last → shown T (noted later.page code day quarter) ≡ shown T (noted b.page code day quarter)
  pub registration : later.page.registration ≡ b.page.registration

-- the book itself
later_same : (b : Book) → Later b b
later_same b = record { rises = omega arith; shows = λ code day quarter T l. refl; registration = refl }

-- the book with a note whose stamp is above the last
later_note : (b : Book) (note : Note) (new : ℕ) → b.last < note.reading.stamp → b.last ≤ new
    → Later b (record { last = new; page = with_note b.page note })
later_note b note new h l =
    record {
      rises = l;
      shows = λ code day quarter T k.
          rw (noted_more b.page note code day quarter)
          (by_test (is_for code day quarter note)
          (λ t. rw t (shown_late T (noted b.page code day quarter) note.reading (omega arith)))
          (λ t. rw (t, append-nil)));
      registration = refl;
    }

-- the book after a call
pub later_after : (b : Book) (call : Call) (refused : Bool) → Later b (book_after b call refused)
unfolding book_after book_submitted
later_after b call true = later_same b
later_after b (Submission clock m) false =
    by_test (same_as (newest_noted b.page m) (value_of m))
    (λ t. rw t (later_same b))
    (λ t. rw t (later_note b _ (next_stamp clock b.last) (omega arith) (omega arith)))
later_after b (Clear day stamp) false = later_same b
later_after b (Evaluation day quarter T lent) false = later_same b

-- so the book's result as of a stamp up to the last stays
pub later_result : (b later : Book) → Later b later → (day quarter T : ℕ) → quarter_exists day quarter ≡ true → T ≤ b.last
    → book_result later day quarter T ≡ book_result b day quarter T
unfolding book_result
later_result b later l day quarter T e h =
    rw l.registration
    (evaluation_alike day quarter T e b.page.registration (noted later.page) (noted b.page)
    (λ code slot w. l.shows code slot.day slot.quarter T h))
