-- Entries that are right: each part, one more entry, fewer entries, and the readings of a place among them. Assumes nothing.
use Prim.Native.Nat.{ℕ, ◌≤◌, ◌<◌}
use native.Mathlib.Omega.{arith}
use mathlib.Core.Path.{◌≡◌, refl}
use mathlib.Core.Bool.{Bool, true, ◌&&◌}
use mathlib.Core.List.{List, [], ◌∷◌, ◌++◌}
use lib.Dec.{leb, ltb, eqb}
use borrow.Author.Tests.{ltb-true, leb-true, lt-ltb, le-leb}
use Rattle.lists.proofs.Cases.{by_test}
use Rattle.lists.proofs.Below.{and_left, and_right}
use Rattle.calendar.specs.Quarters.{quarter_exists}
use Rattle.journal.specs.Value.{stored_right}
use Rattle.lists.specs.Those.{those}
use Rattle.journal.specs.declared.Entry.{Entry}
use Rattle.journal.specs.Entries.{point_in, day_in, quarter_in, readings_at}
use Rattle.journal.specs.Damage.{entry_right, entries_right}
use Rattle.journal.proofs.ShownLaws.{Rising}

-- four tests in a row
pub all4 : (a b c d : Bool) → a && b && c && d ≡ true → (a ≡ true) × (b ≡ true) × (c ≡ true) × (d ≡ true)
all4 a b c d h =
    let three = and_left (a && b && c) d h in
    let two = and_left (a && b) c three in
    (and_left a b two, and_right a b two, and_right (a && b) c three, and_right (a && b && c) d h)

module _ (points K last : ℕ) where
  pub parts : (lo : ℕ) (e : Entry) (es : List Entry) → entries_right points K last lo (e ∷ es) ≡ true
      → (lo < e.stamp) × (e.stamp ≤ last) × (entry_right points K e ≡ true) × (entries_right points K last e.stamp es ≡ true)
  unfolding entries_right
  parts lo e es h =
      let k = all4 (ltb lo e.stamp) (leb e.stamp last) (entry_right points K e) (entries_right points K last e.stamp es) h in
      (ltb-true lo e.stamp k.0, leb-true e.stamp last k.1, k.2, k.3)

  pub right_rising : (p lo lo' : ℕ) → lo' ≤ lo → (es : List Entry) → entries_right points K last lo es ≡ true → Rising lo' (readings_at es p)
  right_rising p lo lo' l [] h = tt
  right_rising p lo lo' l (e ∷ es) h =
      let k = parts lo e es h in
      by_test (eqb e.place p)
      (λ t. rw t (omega arith, right_rising p e.stamp e.stamp (omega arith) es k.3))
      (λ t. rw t (right_rising p e.stamp lo' (omega arith) es k.3))

  -- one more entry, under a new last stamp
  pub right_snoc : (e : Entry) → last < e.stamp → entry_right points K e ≡ true → (lo : ℕ) → lo ≤ last → (es : List Entry)
      → entries_right points K last lo es ≡ true → entries_right points K e.stamp lo (es ++ (e ∷ [])) ≡ true
  unfolding entries_right
  right_snoc e l h lo m [] r = cc (lt-ltb lo e.stamp (omega arith), le-leb e.stamp e.stamp (omega arith), h)
  right_snoc e l h lo m (x ∷ es) r =
      let k = parts lo x es r in
      cc (lt-ltb lo x.stamp k.0, le-leb x.stamp e.stamp (omega arith), k.2, right_snoc e l h x.stamp k.1 es k.3)

  -- fewer entries, of later days
  pub right_those : (day : ℕ) (f : Entry → Bool) → ((e : Entry) → f e ≡ true → day ≤ day_in e.place)
      → (lo lo' : ℕ) → lo' ≤ lo → (es : List Entry)
      → entries_right points K last lo es ≡ true → entries_right points day last lo' (those f es) ≡ true
  unfolding entries_right entry_right
  right_those day f g lo lo' l [] r = refl
  right_those day f g lo lo' l (e ∷ es) r =
      let k = parts lo e es r in
      by_test (f e)
      (λ t.
      let a = all4 (ltb (point_in e.place) points) (leb K (day_in e.place)) (quarter_exists (day_in e.place) (quarter_in e.place)) (stored_right e.stored) k.2 in
      cc (
        t,
        lt-ltb lo' e.stamp (omega arith),
        le-leb e.stamp last k.1,
        a.0,
        le-leb day (day_in e.place) (g e t),
        a.2,
        a.3,
        right_those day f g e.stamp e.stamp (omega arith) es k.3,
      ))
      (λ t. rw t (right_those day f g e.stamp lo' (omega arith) es k.3))
