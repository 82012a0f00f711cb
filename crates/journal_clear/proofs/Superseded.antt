-- What is left once every superseded entry is marked is what a clear keeps. Which of two readings gives way does not matter here. Assumes nothing.
use Prim.Native.Nat.{ℕ, ◌<◌}
use native.Mathlib.Omega.{arith}
use mathlib.Core.Path.{◌≡◌, refl}
use mathlib.Core.Bool.{not, ◌&&◌}
use mathlib.Core.List.{List, [], ◌∷◌, Memᴰ}
use lib.Dec.{leb}
use borrow.Author.Tests.{leb-true, leb-false, lt-ltb, le-ltb, ne_eqb}
use Rattle.lists.proofs.Cases.{by_test}
use Rattle.lists.specs.Those.{those}
use Rattle.journal.specs.Readings.{shown, has_stamp}
use Rattle.journal.specs.declared.Entry.{Entry}
use Rattle.journal.specs.Entries.{day_in, readings_at, kept, keep}
use Rattle.journal_clear.specs.Marks.{superseded, marked, is_left}

module _ (K P : ℕ) (all : List Entry) where
  -- an entry is kept where its day is not below K and it is not superseded
  kept_told : (e : Entry) → kept K P all e ≡ leb K (day_in e.place) && not (superseded P all e)
  kept_told e =
      by_test (leb e.stamp P)
      (λ t.
      let u = le-ltb P e.stamp (leb-true e.stamp P t) in
      by_test (has_stamp (shown P (readings_at all e.place)) e.stamp) (λ s. rw (t, u, s)) (λ s. rw (t, u, s)))
      (λ t. rw (t, lt-ltb P e.stamp (leb-false e.stamp P t)))

  left_from : (es : List Entry) → ((e : Entry) → Memᴰ e es → 0 < e.stamp) → those (is_left K) (marked (superseded P all) es) ≡ those (kept K P all) es
  unfolding marked
  left_from [] h = refl
  left_from (e ∷ es) h =
      let others = left_from es (λ x m. h x (Memᴰ.tail m)) in
      let z = ne_eqb e.stamp 0 (λ n. omega (arith, h e (Memᴰ.head refl))) in
      let told = kept_told e in
      by_test (superseded P all e)
      (λ s. by_test (leb K (day_in e.place)) (λ d. rw (told, s, d, others)) (λ d. rw (told, s, d, others)))
      (λ s. by_test (leb K (day_in e.place)) (λ d. rw (told, s, z, d, others)) (λ d. rw (told, s, z, d, others)))

-- of entries that have stamps those are left that a clear keeps
pub left_kept : (K P : ℕ) (es : List Entry) → ((e : Entry) → Memᴰ e es → 0 < e.stamp) → those (is_left K) (marked (superseded P es) es) ≡ keep K P es
unfolding keep
left_kept K P es h = left_from K P es es h
