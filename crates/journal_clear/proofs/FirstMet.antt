-- The law that a pass relies on: of the entries of a place with stamps up to P, the first met from the last entry back is the one shown at P.
-- From it: what a pass leaves is what its contract says. Assumes nothing.
use Prim.Native.Nat.{ℕ, ◌*◌, ◌≤◌, ◌<◌}
use native.Mathlib.Omega.{arith}
use mathlib.Core.Path.{◌≡◌, refl, sym, ap, ◌∙◌}
use mathlib.Core.Bool.{Bool, true, false, cond, not, ◌&&◌, ◌||◌, not-not}
use mathlib.Core.List.Memᴰ
use mathlib.Core.List.{List, [], ◌∷◌, ◌++◌, append_assoc}
use Rattle.std.specs.Prelude.{Option, None, Some}
use lib.Dec.{leb, ltb, eqb}
use borrow.Author.Tests.{eqb-true, eqb-false, leb-true, ltb-true, ltb-false, le-leb, lt-ltb, eq-eqb, ne_eqb}
use Rattle.lists.proofs.Cases.{by_test, by_option}
use Rattle.lists.proofs.Below.{and_left, and_right}
use Rattle.journal.specs.Order.{Reading, weaker}
use Rattle.journal.specs.Readings.{join, shown, has_stamp}
use Rattle.journal.specs.declared.Entry.{Entry}
use Rattle.journal.specs.Entries.{point_places, reading_of, readings_at}
use Rattle.journal.specs.Damage.{RightFor}
use Rattle.journal.proofs.ShownLaws.{Rising, rising_among, shown_append}
use Rattle.journal.proofs.Kept.{readings_append}
use Rattle.journal.proofs.RightEntries.{right_rising}
use Rattle.journal.proofs.Back.{shown_last}
use Rattle.journal.proofs.Literal.{Tells, shown_tells}
use Rattle.journal_clear.specs.Marks.{key_of, superseded, superseded_below, unstamped, marked}
use Rattle.journal_clear.specs.Seen.{within, shows}
use Rattle.journal_clear.proofs.Windows.{Bounded, bounded, same_key, in_window, below_window, above_window}

-- ---- what a pass does from the last entry back
-- whether one of the entries is for the place with the key, with a stamp up to P
unfoldable pub shows_in : (points key P : ℕ) → List Entry → Bool
shows_in points key P [] = false
shows_in points key P (e ∷ es) = shows points key P e || shows_in points key P es

-- whether a pass marks an entry, told by the entries after it: its key is in the window, its stamp is up to P, and so is that of one after it with its key
abbrev pub met_again : (points lo hi P : ℕ) → Entry → List Entry → Bool
met_again points lo hi P e es = within lo hi (key_of points e.place) && (leb e.stamp P && shows_in points (key_of points e.place) P es)

-- the entries as a pass leaves them
unfoldable pub after_pass : (points lo hi P : ℕ) → List Entry → List Entry
after_pass points lo hi P [] = []
after_pass points lo hi P (e ∷ es) = cond (met_again points lo hi P e es) (unstamped e) e ∷ after_pass points lo hi P es

-- ---- rising readings
rising_parts : (lo : ℕ) (rs : List Reading) (r : Reading) (ss : List Reading) → Rising lo (rs ++ (r ∷ ss)) → Rising lo (rs ++ (r ∷ [])) × Rising r.stamp ss
rising_parts lo [] r ss h = ((h.0, tt), h.1)
rising_parts lo (x ∷ rs) r ss h = let k = rising_parts x.stamp rs r ss h.1 in ((h.0, k.0), k.1)

shown_above : (P lo : ℕ) (rs : List Reading) (m : Reading) → Rising lo rs → shown P rs ≡ Some m → lo < m.stamp
shown_above P lo rs m h e = let t : Tells P rs (Some m) = rw e at (shown_tells P rs) in rising_among lo rs m h t.among

-- ---- an entry shows a key where a reading is shown for its place
-- whether a reading exists
abbrev exists : Option Reading → Bool
exists None = false
exists (Some r) = true

join_exists : (r : Reading) (o : Option Reading) → exists (join (Some r) o) ≡ true
join_exists r None = refl
join_exists r (Some s) = refl

-- two places have one key where they are the same
key_told : (points p q : ℕ) → p < points * point_places → q < points * point_places → eqb (key_of points p) (key_of points q) ≡ eqb p q
key_told points p q h k =
    by_test (eqb p q)
    (λ t. rw t (eq-eqb (key_of points p) (key_of points q) (ap (key_of points) (eqb-true p q t))))
    (λ t. rw t (ne_eqb (key_of points p) (key_of points q) (λ e. eqb-false p q t (same_key points p q h k e))))

shows_told : (points p P : ℕ) (es : List Entry) → p < points * point_places → Bounded points es → shows_in points (key_of points p) P es ≡ exists (shown P (readings_at es p))
unfolding shows_in shown
shows_told points p P [] h b = refl
shows_told points p P (e ∷ es) h b =
    let k = key_told points e.place p (b e (Memᴰ.head refl)).1 h in
    let others = shows_told points p P es h (λ x m. b x (Memᴰ.tail m)) in
    by_test (eqb e.place p)
    (λ t.
    by_test (leb e.stamp P)
    (λ s. rw (k, t, s) (sym (join_exists (reading_of e) (shown P (readings_at es p)))))
    (λ s. rw (k, t, s) others))
    (λ t. rw (k, t) others)

-- ---- in rising readings one with a stamp up to P is shown at P where none is shown of those after it
shown_told : (P lo : ℕ) (rs : List Reading) (r : Reading) (ss : List Reading) → Rising lo (rs ++ (r ∷ ss)) → r.stamp ≤ P
    → has_stamp (shown P (rs ++ (r ∷ ss))) r.stamp ≡ not (exists (shown P ss))
unfolding weaker
shown_told P lo rs r ss h l =
    let k = rising_parts lo rs r ss h in
    let q : shown P (rs ++ (r ∷ ss)) ≡ join (Some r) (shown P ss) =
    ap (shown P) (sym (append_assoc rs (r ∷ []) ss)) ∙ shown_append P (rs ++ (r ∷ [])) ss
    ∙ ap (λ (o : Option Reading). join o (shown P ss)) (shown_last P lo rs r k.0 l)
    in
    by_option (shown P ss)
    (λ n. rw (q, n) (eq-eqb r.stamp r.stamp refl))
    (λ m n.
    let a : r.stamp < m.stamp = shown_above P r.stamp ss m k.1 n in
    rw (q, n, le-leb r.stamp m.stamp (omega arith)) (ne_eqb m.stamp r.stamp (λ e. omega arith)))

-- ---- the law of the pass: an entry is superseded where its stamp is up to P and so is that of one after it with its key
-- No statement of specs/Marks.antt depends on which of two readings gives way: from the last entry back the first one met is the one shown because
-- the newest is shown. Another order of readings changes this law and what leads to it, the code of `turn` and `pass`, what is said of one entry of a pass
-- (specs/Seen.antt) and the proofs of that (Turns.antt, Passes.antt). It changes neither what is superseded and what a pass and all passes mark
-- (specs/Marks.antt), nor how passes follow one another (Windows.antt, `mark`), nor that what is left is what a clear keeps (Superseded.antt, Whole.antt, `keep`).
first_met : (points P : ℕ) (xs : List Entry) (e : Entry) (ys : List Entry) → Rising 0 (readings_at (xs ++ (e ∷ ys)) e.place) → Bounded points (e ∷ ys)
    → leb e.stamp P && shows_in points (key_of points e.place) P ys ≡ superseded P (xs ++ (e ∷ ys)) e
first_met points P xs e ys r b =
    let p = e.place in
    let split : readings_at (xs ++ (e ∷ ys)) p ≡ readings_at xs p ++ (reading_of e ∷ readings_at ys p) = cc (readings_append xs (e ∷ ys) p, eq-eqb p p refl) in
    by_test (leb e.stamp P)
    (λ t.
    let told = shown_told P 0 (readings_at xs p) (reading_of e) (readings_at ys p) (rw split at r) (leb-true e.stamp P t) in
    rw (t, split, told, shows_told points p P ys (b e (Memᴰ.head refl)).1 (λ x m. b x (Memᴰ.tail m)), not-not))
    (λ t. rw t)

-- ---- a mark hides nothing: an entry with a stamp up to P that was marked still shows its key
shows_marked : (points P key : ℕ) (f : Entry → Bool) → ((e : Entry) → f e ≡ true → leb e.stamp P ≡ true) → (es : List Entry)
    → shows_in points key P (marked f es) ≡ shows_in points key P es
unfolding shows_in marked
shows_marked points P key f h [] = refl
shows_marked points P key f h (e ∷ es) =
    by_test (f e)
    (λ t. rw (t, h e t, le-leb 0 P (omega arith), shows_marked points P key f h es))
    (λ t. rw (t, shows_marked points P key f h es))

module _ (points lo hi P : ℕ) (l : lo ≤ hi) where
  -- what a pass leaves of the last entries, of which the superseded ones with keys below `lo` were marked
  marks_from : (xs ys : List Entry) → ((p : ℕ) → Rising 0 (readings_at (xs ++ ys) p)) → Bounded points ys
      → after_pass points lo hi P (marked (superseded_below points lo P (xs ++ ys)) ys) ≡ marked (superseded_below points hi P (xs ++ ys)) ys
  unfolding after_pass marked
  marks_from xs [] r b = refl
  marks_from xs (e ∷ ys) r b =
      let all = xs ++ (e ∷ ys) in
      let p = key_of points e.place in
      let before = superseded_below points lo P all in
      let q : xs ++ (e ∷ ys) ≡ (xs ++ (e ∷ [])) ++ ys = sym (append_assoc xs (e ∷ []) ys) in
      let others : after_pass points lo hi P (marked before ys) ≡ marked (superseded_below points hi P all) ys = rw q (marks_from (xs ++ (e ∷ [])) ys (rw q at r) (λ x m. b x (Memᴰ.tail m))) in
      by_test (ltb p lo)
      (λ t.
      let h : p < lo = ltb-true p lo t in
      let u = lt-ltb p hi (omega arith) in
      let w = below_window lo hi p h in
      by_test (superseded P all e) (λ s. rw (t, s, w, u, others)) (λ s. rw (t, s, w, u, others)))
      (λ t.
      let h : lo ≤ p = ltb-false p lo t in
      let same = shows_marked points P p before (λ x g. and_left (leb x.stamp P) _ (and_right (ltb (key_of points x.place) lo) (superseded P all x) g)) ys in
      by_test (ltb p hi)
      (λ u. rw (t, in_window lo hi p h (ltb-true p hi u), same, first_met points P xs e ys (r e.place) b, u, others))
      (λ u. rw (t, above_window lo hi p (ltb-false p hi u), u, others)))

  pub pass_marks : (all es : List Entry) → RightFor points all → es ≡ marked (superseded_below points lo P all) all
      → after_pass points lo hi P es ≡ marked (superseded_below points hi P all) all
  pass_marks all es r e =
      rw e (marks_from [] all (λ p. right_rising points r.keptday r.last p 0 0 (omega arith) all r.right) (bounded points all r))
