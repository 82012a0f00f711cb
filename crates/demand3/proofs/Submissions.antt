-- An accepted submission: its stamp is the book's, and journal and book go on to show the same. Assumes nothing.
use Prim.Native.Nat.{ℕ, ◌+◌, ◌*◌, ◌≤◌}
use native.Mathlib.Omega.{arith}
use mathlib.Core.Path.{◌≡◌, refl, ◌∙◌}
use mathlib.Core.Bool.{true, false}
use mathlib.Core.List.{[], ◌∷◌, append-nil}
use lib.Dec.{eqb}
use lib.ListN.{length}
use Rattle.lists.proofs.Cases.{by_test}
use Rattle.values.specs.declared.Measurement.{Measurement}
use Rattle.calendar.proofs.Laws.{exists_day, exists_quarter}
use Rattle.journal.specs.Value.{value_of}
use Rattle.journal.specs.Readings.{shown, same_as}
use Rattle.journal.specs.declared.Entry.{Entry}
use Rattle.journal.specs.Entries.{readings_at}
use Rattle.journal.proofs.ShownLaws.{shown_snoc}
use Rattle.journal.proofs.Kept.{readings_append}
use Rattle.group.specs.Group.{Group, roll_of, place_for, readings_of, readings_for, entry_of}
use Rattle.group.specs.Stamps.{next_stamp}
use Rattle.service.specs.Calls.{with_entry, submitted}
use Rattle.demand3.specs.Book.{Book, Page, Note, is_for, noted, newest_noted, note_of, with_note, book_stamp, book_submitted}
use Rattle.group.proofs.Admitted.{Admitted}
use Rattle.service.proofs.Staying.{sound_more}
use Rattle.demand3.proofs.SamePlace.{same_place}
use Rattle.demand3.proofs.Related.{Related, Open, newest_shown}
use Rattle.demand3.proofs.Noted.{is_for_lem, noted_more, under_noted}

module _ (last : ℕ) (G : Group) (clock : ℕ) (m : Measurement) (page : Page) (rel : Related last G page) (a : Admitted last G clock m) where
  -- the reading that a repeat is judged by is the book's newest
  same_newest : shown last (readings_for G m) ≡ newest_noted page m
  same_newest =
      let q = exists_quarter m.day m.quarter a.exists in
      rel.shows m.code m.day m.quarter last (record {
        kept = a.not_cleared;
        day_most = exists_day m.day m.quarter a.exists;
        from = q.0;
        to = q.1;
        stamp = rel.sound.kept_stamp;
      })
      ∙ newest_shown last G page rel m

  -- the stamp of a new entry
  abbrev new : ℕ
  new = next_stamp clock last

  -- the new entry
  abbrev entry : Entry
  entry = entry_of G new m

  -- the new note
  abbrev note : Note
  note = note_of new m

  -- entry and note are for the same code, day and quarter, and show the same
  shows_more : (c d q T : ℕ) → Open (with_entry G entry) d q T
      → shown T (readings_of (with_entry G entry) c d q) ≡ shown T (noted (with_note page note) c d q)
  shows_more c d q T o =
      let k = exists_quarter m.day m.quarter a.exists in
      let place = place_for G c d q in
      let old = rel.shows c d q T (record { kept = o.kept; day_most = o.day_most; from = o.from; to = o.to; stamp = o.stamp }) in
      let w = same_place (roll_of G) m.code c m.day m.quarter d q a.known
      (exists_day m.day m.quarter a.exists) o.day_most k.0 k.1 o.from o.to in
      rw (readings_append G.entries (entry ∷ []) place, noted_more page note c d q)
      (by_test (is_for c d q note)
      (λ t.
      let u : eqb (place_for G m.code m.day m.quarter) place ≡ true = cc (is_for_lem c d q note) in
      rw (u, t) (shown_snoc T (readings_at G.entries place) (noted page c d q) note.reading old))
      (λ t.
      let u : eqb (place_for G m.code m.day m.quarter) place ≡ false = cc (is_for_lem c d q note) in
      rw (u, t) (simp append-nil old)))

  -- the group with the entry is related to the page with the note
  related_more : 3 * (length G.entries + 1) ≤ G.room → Related new (with_entry G entry) (with_note page note)
  related_more room =
      record {
        sound = sound_more last G clock m a room;
        shows = shows_more;
        within_time = λ c d q T l. under_noted T page note c d q (rel.within_time c d q T (omega arith)) (omega arith);
        registration = rel.registration;
      }

  -- the book before the submission
  abbrev book : Book
  book = record { last = last; page = page }

  -- the stamp is the book's, and what is left is related to the book after it
  pub submission_right : ((submitted last G clock m).seen.number ≡ book_stamp book clock m)
      × ((submitted last G clock m).last ≡ (book_submitted book clock m).last)
      × Related (submitted last G clock m).last (submitted last G clock m).group
      (book_submitted book clock m).page
  unfolding submitted book_stamp book_submitted
  submission_right =
      by_test (same_as (newest_noted page m) (value_of m))
      (λ t. rw (same_newest, t) (refl, refl, rel))
      (λ t. rw (same_newest, t) (refl, refl, related_more (a.room (cc (same_newest)))))
