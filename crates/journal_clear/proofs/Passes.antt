-- A pass from the last entry back: what holds once the entries from number i on are passed, and one entry more. Assumes nothing.
use Prim.Native.Nat.{ℕ, ◌+◌, ◌*◌, ◌-◌, ◌/◌, ◌≤◌, ◌<◌}
use mathlib.Core.Path.{◌≡◌, refl, sym, ap, subst, ◌∙◌}
use mathlib.Core.Bool.{Bool, true, false, cond}
use mathlib.Core.List.{List}
use native.Mathlib.Omega.{arith}
use native.Mathlib.Nat.{zero-div}
use lib.Dec.{leb, ltb}
use lib.ListN.{length, get_or, take, set, length-set}
use lib.Seq.{get_or-take, take-take, take-set-le, drop-set-lt, get_or-set_same, get_or-set_other}
use borrow.Author.Tests.{leb-true, ltb-true}
use Rattle.std.specs.Prelude.{Option, None}
use Rattle.lists.proofs.Cases.{by_test}
use Rattle.lists.proofs.Below.{and_left, and_right}
use Rattle.journal.specs.declared.Entry.{Entry}
use Rattle.journal.specs.Stored.{entry_at, entries}
use Rattle.journal.proofs.Stored.{rest, rest_start, rest_step, rest_end}
use Rattle.journal_clear.specs.Marks.{key_of, window, unstamped, next_in, Passed}
use Rattle.journal_clear.specs.Seen.{has_seen, within, seen_again, Turned}
use Rattle.journal_clear.proofs.FirstMet.{shows_in, met_again, after_pass, pass_marks}

-- the journal at first and now, the table and the next key, once the entries from number i on are passed
pub record Going (points lo P count : ℕ) (first j seen : List ℕ) (next : Option ℕ) (i : ℕ) : Type 0 where
  pub ahead : i ≤ count
  pub table_length : length seen ≡ 16384
  pub same_length : length j ≡ length first
  pub front : take (3 * i) j ≡ take (3 * i) first
  pub marks : rest j count i ≡ after_pass points lo (lo + window) P (rest first count i)
  pub least : next ≡ next_in points (lo + window) (rest first count i)
  pub table : (k : ℕ) → k < window → has_seen seen k ≡ shows_in points (lo + k) P (rest first count i)

module _ (points lo P count : ℕ) (first j seen : List ℕ) (next : Option ℕ) (i : ℕ) (h : i < count) (fits : 3 * count ≤ length first)
    (g : Going points lo P count first j seen next (i + 1)) where
  -- the entry, those after it, its key, and whether it is marked
  abbrev e : Entry
  e = entry_at first i

  abbrev es : List Entry
  es = rest first count (i + 1)

  abbrev p : ℕ
  p = key_of points e.place

  abbrev goes : Bool
  goes = met_again points lo (lo + window) P e es

  still : (n : ℕ) → n < 3 * (i + 1) → get_or j n 0 ≡ get_or first n 0
  still n l = sym (get_or-take (3 * (i + 1)) j n 0 l) ∙ ap (λ (t : List ℕ). get_or t n 0) g.front ∙ get_or-take (3 * (i + 1)) first n 0 l

  entry_still : entry_at j i ≡ e
  entry_still = rw (still (3 * i) (omega arith), still (3 * i + 1) (omega arith), still (3 * i + 2) (omega arith))

  -- the table tells whether the entry is marked
  table_tells : seen_again points lo P e seen ≡ goes
  table_tells =
      by_test (within lo (lo + window) p)
      (λ w.
      let l = leb-true lo p (and_left (leb lo p) (ltb p (lo + window)) w) in
      let u = ltb-true p (lo + window) (and_right (leb lo p) (ltb p (lo + window)) w) in
      let q : lo + (p - lo) ≡ p = omega arith in
      let t : has_seen seen (p - lo) ≡ shows_in points p P es = rw q at (g.table (p - lo) (omega arith)) in
      rw (w, t))
      (λ w. rw w)

  front_on : take (3 * i) j ≡ take (3 * i) first
  front_on =
      sym (take-take (3 * i) (3 * (i + 1)) j (omega arith)) ∙ ap (take (3 * i)) g.front ∙ take-take (3 * i) (3 * (i + 1)) first (omega arith)

  -- the entry that was marked, and what stands behind it
  marked_entry : entry_at (set j (3 * i) 0) i ≡ unstamped e
  marked_entry =
      rw (
        get_or-set_same j (3 * i) 0 0 (omega (arith, g.same_length)),
        get_or-set_other j (3 * i) (3 * i + 1) 0 0 (λ q. omega arith),
        get_or-set_other j (3 * i) (3 * i + 2) 0 0 (λ q. omega arith),
        still (3 * i + 1) (omega arith),
        still (3 * i + 2) (omega arith),
      )

  marked_rest : rest (set j (3 * i) 0) count (i + 1) ≡ rest j count (i + 1)
  marked_rest = rw (drop-set-lt (3 * (i + 1)) j (3 * i) 0 (omega arith))

  marks_on : (t : Bool) (after : List ℕ) → goes ≡ t → after ≡ cond t (set j (3 * i) 0) j
      → rest after count i ≡ after_pass points lo (lo + window) P (rest first count i)
  unfolding after_pass
  marks_on true after t q = rw (q, rest_step (set j (3 * i) 0) count i h, marked_entry, marked_rest, rest_step first count i h, g.marks, t)
  marks_on false after t q = rw (q, rest_step j count i h, entry_still, rest_step first count i h, g.marks, t)

  others_on : (t : Bool) (after : List ℕ) → after ≡ cond t (set j (3 * i) 0) j
      → (length after ≡ length first) × (take (3 * i) after ≡ take (3 * i) first)
  others_on true after q =
      rw q (
        length-set j (3 * i) 0 ∙ g.same_length,
        take-set-le (3 * i) j (3 * i) 0 (omega arith) ∙ front_on,
      )
  others_on false after q = rw q (g.same_length, front_on)

  turn_on : (after seen' : List ℕ) (next' : Option ℕ) → length seen' ≡ length seen → Turned points lo P (entry_at j i) i j seen next after seen' next'
      → Going points lo P count first after seen' next' i
  unfolding next_in shows_in
  turn_on after seen' next' l turned =
      let t : Turned points lo P e i j seen next after seen' next' = rw entry_still at turned in
      let q : after ≡ cond goes (set j (3 * i) 0) j = rw table_tells at t.journal in
      let r = others_on goes after q in
      record {
        ahead = omega arith;
        table_length = l ∙ g.table_length;
        same_length = r.0;
        front = r.1;
        marks = marks_on goes after refl q;
        least = rw rest_step (rw g.least at t.least);
        table = λ k m. rw (rest_step first count i h, ← g.table k m) (t.table k m);
      }

-- before the last entry the table is empty and there is no next key
pub start : (points lo P count : ℕ) (j seen : List ℕ) → length seen ≡ 16384 → ((k : ℕ) → k < 16384 → get_or seen k 0 ≡ 0) → Going points lo P count j j seen None count
unfolding after_pass next_in shows_in
start points lo P count j seen l z =
    record {
      ahead = omega arith;
      table_length = l;
      same_length = refl;
      front = refl;
      marks = rw rest_end;
      least = rw rest_end;
      table = λ k m. let q : get_or seen (k / 64) 0 ≡ 0 = z (k / 64) (omega arith) in rw (rest_end, q, zero-div);
    }

-- one entry more
pub turn_back : (points lo P count : ℕ) (first j seen : List ℕ) (next : Option ℕ) (i : ℕ) → 0 < i → 3 * count ≤ length first
    → Going points lo P count first j seen next i → (after seen' : List ℕ) (next' : Option ℕ) → length seen' ≡ length seen
    → Turned points lo P (entry_at j (i - 1)) (i - 1) j seen next after seen' next'
    → Going points lo P count first after seen' next' (i - 1)
turn_back points lo P count first j seen next i p fits g =
    let q : i ≡ i - 1 + 1 = omega arith in
    turn_on points lo P count first j seen next (i - 1) (omega (arith, g.ahead)) fits (subst (λ (n : ℕ). Going points lo P count first j seen next n) q g)

-- all entries are passed
pub finish : (points lo P count : ℕ) (first j seen : List ℕ) (next : Option ℕ) (i : ℕ) → i ≡ 0 → Going points lo P count first j seen next i → Passed points lo P count first j next
finish points lo P count first j seen next i z g =
    record {
      marks = λ all r e.
          (rw (z, rest_start j count, rest_start first count) at g.marks) ∙ pass_marks points lo (lo + window) P (omega arith) all (entries count first) r e;
      least = rw (z, rest_start first count) at g.least;
    }
