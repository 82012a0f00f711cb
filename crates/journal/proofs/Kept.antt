-- The readings of a place over an append and under what a clear keeps. Assumes nothing.
use Prim.Native.Nat.{ℕ, ◌≤◌}
use mathlib.Core.Path.{◌≡◌, refl}
use mathlib.Core.Bool.{true}
use mathlib.Core.List.{List, [], ◌∷◌, ◌++◌}
use lib.Dec.{leb, ltb, eqb}
use lib.ListN.{length}
use borrow.Author.Tests.{eqb-true, le-leb}
use Rattle.lists.specs.Those.{those}
use Rattle.journal.specs.Readings.{shown, has_stamp}
use Rattle.journal.specs.declared.Entry.{Entry}
use Rattle.journal.specs.Entries.{day_in, reading_of, readings_at, kept, keep}
use Rattle.lists.proofs.Cases.{by_test}
use Rattle.lists.proofs.Those.{those_append, map_append, length_those}
use Rattle.journal.proofs.ShownLaws.{Rising, stays, shown_stays}

pub readings_append : (es fs : List Entry) (p : ℕ) → readings_at (es ++ fs) p ≡ readings_at es p ++ readings_at fs p
readings_append es fs p =
    cc (those_append (λ e. eqb e.place p) es fs, map_append reading_of (those (λ e. eqb e.place p) es) (those (λ e. eqb e.place p) fs))

module _ (K P p : ℕ) (es : List Entry) (h : leb K (day_in p) ≡ true) where
  -- an entry of the place is kept where its reading stays
  kept_stays : (x : Entry) → x.place ≡ p → kept K P es x ≡ stays P (shown P (readings_at es p)) (reading_of x)
  kept_stays x q =
      rw (q, h)
      (by_test (ltb P x.stamp)
      (λ t. by_test (has_stamp (shown P (readings_at es p)) x.stamp) (λ u. cc) (λ u. cc))
      (λ t. by_test (has_stamp (shown P (readings_at es p)) x.stamp) (λ u. cc) (λ u. cc)))

  readings_kept : (xs : List Entry) → readings_at (those (kept K P es) xs) p ≡ those (stays P (shown P (readings_at es p))) (readings_at xs p)
  readings_kept [] = refl
  readings_kept (x ∷ xs) =
      by_test (eqb x.place p)
      (λ e.
      let q : x.place ≡ p = eqb-true x.place p e in
      let k : kept K P es x ≡ stays P (shown P (readings_at es p)) (reading_of x) = kept_stays x q in
      by_test (stays P (shown P (readings_at es p)) (reading_of x)) (λ t. cc (readings_kept xs)) (λ t. cc (readings_kept xs)))
      (λ e. by_test (kept K P es x) (λ t. cc (readings_kept xs)) (λ t. cc (readings_kept xs)))

pub shown_keep : (K P T p : ℕ) (es : List Entry) → K ≤ day_in p → P ≤ T → Rising 0 (readings_at es p)
    → shown T (readings_at (keep K P es) p) ≡ shown T (readings_at es p)
unfolding keep
shown_keep K P T p es k l h = rw (readings_kept K P p es (le-leb K (day_in p) k) es) (shown_stays P T 0 l (readings_at es p) h)

-- a clear keeps no more entries than there are
pub length_keep : (K P : ℕ) (es : List Entry) → length (keep K P es) ≤ length es
unfolding keep
length_keep K P es = length_those (kept K P es) es
