-- Whether entries are right, told test by test: of one entry, and of the entries from the first on. Assumes nothing.
use Prim.Native.Nat.{ℕ, ◌+◌, ◌*◌, ◌/◌, ◌%◌, ◌≤◌, ◌<◌}
use native.Mathlib.Omega.{arith}
use mathlib.Core.Path.{◌≡◌, refl}
use mathlib.Core.Bool.{Bool, true, false, ◌&&◌}
use mathlib.Core.List.{List, [], ◌∷◌}
use lib.Dec.{leb, ltb}
use borrow.Author.Tests.{ltb-true, ltb-false, leb-true, leb-false, lt-ltb, le-ltb, le-leb, lt-leb}
use Rattle.lists.proofs.Cases.{by_test}
use Rattle.std.proofs.Common.{length, get_or, drop, drop-cons, add-one}
use Rattle.std.proofs.lemmas.List.{drop_all}
use Rattle.calendar.specs.Quarters.{quarter_exists}
use Rattle.journal.specs.Value.{stored_right}
use Rattle.journal.specs.declared.Entry.{Entry}
use Rattle.journal.specs.Entries.{point_in, day_in, quarter_in, point_places}
use Rattle.journal.specs.Stored.{entry_in, entries_in}
use Rattle.journal.specs.Damage.{entry_right, entries_right}

-- ---- one entry
-- a place is below the first place beyond the group's points where its point is one of them
below_end : (points place : ℕ) → ltb place (points * point_places) ≡ ltb (point_in place) points
below_end points place =
    by_test (ltb place (points * point_places))
    (λ t. rw (t, lt-ltb (point_in place) points (omega (arith, ltb-true place (points * point_places) t))))
    (λ f. rw (f, le-ltb (point_in place) points (omega (arith, ltb-false place (points * point_places) f))))

-- within its point's places it is not below the first of day K where its day is not below K
from_first : (K place : ℕ) → leb (K * 100) (place % point_places) ≡ leb K (day_in place)
from_first K place =
    by_test (leb (K * 100) (place % point_places))
    (λ t. rw (t, le-leb K (day_in place) (omega (arith, leb-true (K * 100) (place % point_places) t))))
    (λ f. rw (f, lt-leb K (day_in place) (omega (arith, leb-false (K * 100) (place % point_places) f))))

-- day and quarter as one number are those of the place
slot_quarters : (place : ℕ) → quarter_exists (place % point_places / 100) (place % point_places % 100 + 1) ≡ quarter_exists (day_in place) (quarter_in place)
slot_quarters place =
    let day : place % point_places / 100 ≡ day_in place = omega arith in
    let quarter : place % point_places % 100 + 1 ≡ quarter_in place = omega arith in
    rw (day, quarter)

-- the last of four tests may come third
third_last : (a b c d : Bool) → a && b && c && d ≡ a && b && d && c
third_last true true true true = refl
third_last true true true false = refl
third_last true true false true = refl
third_last true true false false = refl
third_last true false c d = refl
third_last false b c d = refl

-- the tests of an entry, by its place as one number, and of its quarter last; its stamp is none of them
entry_tests : (points K : ℕ) (e : Entry)
    → entry_right points K e
    ≡ ltb e.place (points * point_places) && leb (K * 100) (e.place % point_places) && stored_right e.stored
    && quarter_exists (e.place % point_places / 100) (e.place % point_places % 100 + 1)
unfolding entry_right
entry_tests points K e =
    rw (below_end points e.place, from_first K e.place, slot_quarters e.place)
    (third_last (ltb (point_in e.place) points) (leb K (day_in e.place)) (quarter_exists (day_in e.place) (quarter_in e.place)) (stored_right e.stored))

-- ---- the entries from number i on
module _ (points K last before : ℕ) (xs : List (List ℕ)) where
  pub none_left : (i : ℕ) → length xs ≤ i → entries_right points K last before (entries_in (drop i xs)) ≡ true
  unfolding entries_right
  none_left i h = rw (drop_all i xs h)

  pub next_left : (i stamp place stored : ℕ) → i < length xs
      → stamp ≡ get_or (get_or xs i []) 0 0 → place ≡ get_or (get_or xs i []) 1 0 → stored ≡ get_or (get_or xs i []) 2 0
      → entries_right points K last before (entries_in (drop i xs))
      ≡ ltb before stamp && leb stamp last
      && (ltb place (points * point_places) && leb (K * 100) (place % point_places) && stored_right stored
      && quarter_exists (place % point_places / 100) (place % point_places % 100 + 1))
      && entries_right points K last stamp (entries_in (drop (i + 1) xs))
  unfolding entries_right
  next_left i stamp place stored h s p m =
      let e : drop i xs ≡ get_or xs i [] ∷ drop (i + 1) xs = rw add-one (drop-cons xs i [] h) in
      rw (e, s, p, m, entry_tests points K (entry_in (get_or xs i [])))
