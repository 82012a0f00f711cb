-- The newest reading that the book has for a measurement, told by its notes. Assumes nothing.
use mathlib.Core.Path.{◌≡◌, refl}
use mathlib.Core.Bool.{true, false, true≢false}
use mathlib.Core.Logic.{⊎_elim}
use mathlib.Core.List.Memᴰ
use mathlib.Core.List.{List, [], ◌∷◌, map, Memᴰ}
use Rattle.std.specs.Prelude.{Option, None, Some}
use lib.Dec.{eqb}
use borrow.Author.Tests.{eqb-true, eq-eqb}
use Rattle.lists.specs.Those.{those}
use Rattle.lists.proofs.Cases.{by_test}
use Rattle.lists.proofs.Those.{those_pass, those_among, among_those}
use Rattle.values.specs.declared.Measurement.{Measurement}
use Rattle.journal.specs.Order.{Reading}
use Rattle.journal.specs.Readings.{strongest}
use Rattle.journal.specs.Laws.{FindsGreatest}
use Rattle.journal.proofs.Laws.{strongest_is_newest}
use Rattle.demand3.specs.Book.{Note, Page, is_for, noted}
use Rattle.demand3.specs.Laws.{IsOf, FindsNewest, NewestNotedIsNewest}

-- the reading of a note
abbrev reading_of : Note → Reading
reading_of note = note.reading

-- a note among notes that has a reading
record Has (notes : List Note) (r : Reading) : Type 0 where
  note : Note
  among : Memᴰ note notes
  is : note.reading ≡ r

-- each of the notes' readings is that of a note among them
has : (notes : List Note) (r : Reading) → Memᴰ r (map reading_of notes) → Has notes r
has [] r m = absurd (Memᴰ.not-nil m)
has (x ∷ notes) r m =
    ⊎_elim
    (λ (e : r ≡ x.reading). record { note = x; among = Memᴰ.head refl; is = cc })
    (λ n. let k = has notes r n in record { note = k.note; among = Memᴰ.tail k.among; is = k.is })
    (Memᴰ.cases_cons m)

-- and the reading of each of them is among these
reading_among : (notes : List Note) (x : Note) → Memᴰ x notes → Memᴰ x.reading (map reading_of notes)
reading_among [] x m = absurd (Memᴰ.not-nil m)
reading_among (y ∷ notes) x m =
    ⊎_elim
    (λ (e : x ≡ y). let f : x.reading ≡ y.reading = cc in Memᴰ.head f)
    (λ n. Memᴰ.tail (reading_among notes x n))
    (Memᴰ.cases_cons m)

module _ (page : Page) (m : Measurement) where
  -- the notes for the measurement
  abbrev notes : List Note
  notes = those (is_for m.code m.day m.quarter) page.notes

  -- a note that is for it is of its code, day and quarter
  of_told : (note : Note) → is_for m.code m.day m.quarter note ≡ true → IsOf m note
  of_told note t =
      let never : true ≡ false → IsOf m note = λ z. absurd (true≢false z) in
      by_test (eqb note.code m.code)
      (λ c. by_test (eqb note.day m.day)
      (λ d. by_test (eqb note.quarter m.quarter)
      (λ q. record { code = eqb-true _ _ c; day = eqb-true _ _ d; quarter = eqb-true _ _ q })
      (λ q. never (cc)))
      (λ d. by_test (eqb note.quarter m.quarter) (λ q. never (cc)) (λ q. never (cc))))
      (λ c. by_test (eqb note.day m.day)
      (λ d. by_test (eqb note.quarter m.quarter) (λ q. never (cc)) (λ q. never (cc)))
      (λ d. by_test (eqb note.quarter m.quarter) (λ q. never (cc)) (λ q. never (cc))))

  -- and one that is of them is for it
  for : (note : Note) → IsOf m note → is_for m.code m.day m.quarter note ≡ true
  for note k = cc (eq-eqb _ _ k.code, eq-eqb _ _ k.day, eq-eqb _ _ k.quarter)

  finds : (o : Option Reading) → FindsGreatest (map reading_of notes) o → FindsNewest page m o
  finds None h =
      λ note a k. absurd (Memᴰ.not-nil (rw h at (reading_among notes note (among_those _ note page.notes a (for note k)))))
  finds (Some newest) h =
      let k = has notes newest h.among in
      record {
        note = k.note;
        among = those_among _ k.note page.notes k.among;
        of = of_told k.note (those_pass _ k.note page.notes k.among);
        is = k.is;
        greatest = λ other a l. h.greatest other.reading (reading_among notes other (among_those _ other page.notes a (for other l)));
      }

pub newest_noted_is_newest : NewestNotedIsNewest
newest_noted_is_newest page m =
    finds page m (strongest (noted page m.code m.day m.quarter)) (strongest_is_newest (noted page m.code m.day m.quarter))
