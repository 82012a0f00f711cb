-- From the last entry back: the first entry met that shows is what is shown, since the stamps rise; one that does not show does not matter. Assumes nothing.
use Prim.Native.Nat.{ℕ, ◌≤◌, ◌<◌}
use native.Mathlib.Omega.{arith}
use mathlib.Core.Path.{◌≡◌, ◌∙◌}
use mathlib.Core.Bool.{true, false, ◌&&◌}
use mathlib.Core.List.{List, [], ◌∷◌, ◌++◌, append-nil}
use Rattle.std.specs.Prelude.{Option, Some}
use Rattle.std.specs.List.{find}
use Rattle.std.specs.Option.{option_map}
use Rattle.std.proofs.Common.{reverse, get_or, Bool, sym}
use Rattle.std.proofs.lemmas.List.{reverse-reverse, reverse-append}
use Rattle.lists.proofs.Those.{map_append}
use Rattle.journal.specs.Found.{found}
use Rattle.journal.specs.Stored.{entry_in, entries_in}
use lib.Dec.{leb, eqb}
use borrow.Author.Tests.{leb-true, leb-false, le-leb}
use Rattle.lists.proofs.Cases.{by_test}
use Rattle.lists.proofs.Below.{and_left, and_right}
use Rattle.journal.specs.Order.{Reading, weaker}
use Rattle.journal.specs.Readings.{shown}
use Rattle.journal.specs.declared.Entry.{Entry}
use Rattle.journal.specs.Entries.{reading_of, readings_at}
use Rattle.journal.specs.Damage.{Right}
use Rattle.journal.proofs.InTime.{within_time}
use Rattle.journal.proofs.ShownLaws.{Rising, shown_nil, shown_late}
use Rattle.journal.proofs.Kept.{readings_append}
use Rattle.journal.proofs.RightEntries.{right_rising}

-- ---- the last of rising readings
rising_front : (lo : ℕ) (rs ss : List Reading) → Rising lo (rs ++ ss) → Rising lo rs
rising_front lo [] ss h = tt
rising_front lo (r ∷ rs) ss h = (h.0, rising_front r.stamp rs ss h.1)

rising_last : (lo : ℕ) (rs : List Reading) (r : Reading) → Rising lo (rs ++ (r ∷ [])) → lo < r.stamp
rising_last lo [] r h = h.0
rising_last lo (x ∷ rs) r h = omega (arith, rising_last x.stamp rs r h.1)

pub shown_last : (T lo : ℕ) (rs : List Reading) (r : Reading) → Rising lo (rs ++ (r ∷ [])) → r.stamp ≤ T → shown T (rs ++ (r ∷ [])) ≡ Some r
unfolding shown weaker
shown_last T lo [] r h l = cc (within_time T r l)
shown_last T lo (x ∷ rs) r h l =
    let under : x.stamp < r.stamp = rising_last x.stamp rs r h.1 in
    cc (within_time T x (omega arith), le-leb x.stamp r.stamp (omega arith), shown_last T x.stamp rs r h.1 l)

-- ---- an entry more, of a place or not, up to T or not
module _ (T p : ℕ) (es : List Entry) (e : Entry) where
  last_here : eqb e.place p ≡ true → readings_at (es ++ (e ∷ [])) p ≡ readings_at es p ++ (reading_of e ∷ [])
  last_here t = rw (readings_append es (e ∷ []) p, t)

  last_elsewhere : eqb e.place p ≡ false → readings_at (es ++ (e ∷ [])) p ≡ readings_at es p
  last_elsewhere t = rw (readings_append es (e ∷ []) p, t) (append-nil (readings_at es p))

  pub last_misses : eqb e.place p && leb e.stamp T ≡ false → shown T (readings_at (es ++ (e ∷ [])) p) ≡ shown T (readings_at es p)
  last_misses h =
      by_test (eqb e.place p)
      (λ t.
      let late : leb e.stamp T ≡ false = rw t at h in
      rw (last_here t) (shown_late T (readings_at es p) (reading_of e) (leb-false e.stamp T late)))
      (λ t. rw (last_elsewhere t))

  pub last_shows : Rising 0 (readings_at (es ++ (e ∷ [])) p) → eqb e.place p && leb e.stamp T ≡ true
      → shown T (readings_at (es ++ (e ∷ [])) p) ≡ Some (reading_of e)
  last_shows r h =
      let here = last_here (and_left (eqb e.place p) (leb e.stamp T) h) in
      rw here (shown_last T 0 (readings_at es p) (reading_of e) (rw here at r) (leb-true e.stamp T (and_right (eqb e.place p) (leb e.stamp T) h)))

-- ---- a search from the last entry back, among entries that stand as arrays of their numbers
module _ (p T : ℕ) where
  -- whether the entry of these numbers is for the place, with a stamp up to T
  abbrev pub shows : List ℕ → Bool
  shows numbers = eqb (get_or numbers 1 0) p && leb (get_or numbers 0 0) T

  -- the same search along the reversed list
  found_ahead : (xs : List (List ℕ)) → Rising 0 (readings_at (entries_in (reverse xs)) p)
      → found (option_map entry_in (find shows xs)) ≡ shown T (readings_at (entries_in (reverse xs)) p)
  found_ahead [] h = sym (shown_nil T)
  found_ahead (x ∷ xs) h =
      let es = entries_in (reverse xs) in
      let s : entries_in (reverse (x ∷ xs)) ≡ es ++ (entry_in x ∷ []) = rw (reverse-append (x ∷ []) xs) (map_append entry_in (reverse xs) (x ∷ [])) in
      by_test (shows x)
      (λ t. rw (s, t) (sym (last_shows T p es (entry_in x) (rw s at h) t)))
      (λ f.
      let front : Rising 0 (readings_at es p) = rising_front 0 (readings_at es p) (readings_at (entry_in x ∷ []) p) (rw (s, readings_append es (entry_in x ∷ []) p) at h) in
      rw (s, f) (found_ahead xs front ∙ sym (last_misses T p es (entry_in x) f)))

  -- what the search finds is what is shown
  pub found_back : (xs : List (List ℕ)) (o : Option Entry) → Right (entries_in xs) → o ≡ option_map entry_in (find shows (reverse xs))
      → found o ≡ shown T (readings_at (entries_in xs) p)
  found_back xs o r f =
      let rising : Rising 0 (readings_at (entries_in xs) p) = right_rising r.points r.all.keptday r.all.last p 0 0 (omega arith) (entries_in xs) r.all.right in
      let e : reverse (reverse xs) ≡ xs = reverse-reverse xs in
      rw f (rw e at (found_ahead (reverse xs) (rw e rising)))
