-- The table of bits of a pass, and what the code of a pass does at one entry. Assumes nothing.
use Rattle.std.specs.Prelude.{ℕ, ◌+◌, ◌*◌, ◌-◌, ◌/◌, ◌%◌, ◌^◌, ◌<◌, ◌≡◌, Bool, true, cond, ◌&&◌, ◌||◌, List, get_or, set, leb, ltb, eqb, Option}
use Rattle.journal.specs.declared.Entry.{Entry}
use Rattle.journal_clear.specs.Marks.{key_of, window, lesser}

-- whether key number k of a window was seen: bit k % 64 of word k / 64 of the table
abbrev pub has_seen : (seen : List ℕ) (k : ℕ) → Bool
has_seen seen k = eqb (get_or seen (k / 64) 0 / 2 ^ (k % 64) % 2) 1

-- the table before and after key number k is seen
pub record Saw (before : List ℕ) (k : ℕ) (after : List ℕ) : Type 0 where
  pub now : has_seen after k ≡ true
  pub others : (i : ℕ) → (i ≡ k → ⊥) → has_seen after i ≡ has_seen before i

-- whether a key is in the window from `lo` to below `hi`
abbrev pub within : (lo hi key : ℕ) → Bool
within lo hi key = leb lo key && ltb key hi

-- whether an entry is for the place with the key, with a stamp up to P
abbrev pub shows : (points key P : ℕ) → Entry → Bool
shows points key P e = eqb (key_of points e.place) key && leb e.stamp P

-- whether an entry of a pass is marked, by the table
abbrev pub seen_again : (points lo P : ℕ) → Entry → (seen : List ℕ) → Bool
seen_again points lo P e seen = within lo (lo + window) (key_of points e.place) && (leb e.stamp P && has_seen seen (key_of points e.place - lo))

-- what a pass does at entry number i: the journal, the table and the next key, before and after
pub record Turned (points lo P : ℕ) (e : Entry) (i : ℕ) (before seen : List ℕ) (next : Option ℕ) (after seen' : List ℕ) (next' : Option ℕ) : Type 0 where
  pub journal : after ≡ cond (seen_again points lo P e seen) (set before (3 * i) 0) before
  pub least : next' ≡ lesser points (lo + window) e next
  pub table : (k : ℕ) → k < window → has_seen seen' k ≡ (shows points (lo + k) P e || has_seen seen k)
