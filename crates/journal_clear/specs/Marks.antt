-- How the code clears: a superseded entry is marked by the stamp 0, window by window of keys, and what is left moves to the front. Assumes nothing.
use Rattle.std.specs.Prelude.{ℕ, ◌+◌, ◌*◌, ◌/◌, ◌%◌, ◌≤◌, ◌≡◌, Bool, true, cond, not, ◌&&◌, List, [], ◌∷◌, map, take, leb, ltb, eqb, Option, None, Some}
use Rattle.lists.specs.Those.{those}
use Rattle.journal.specs.Readings.{shown, has_stamp}
use Rattle.journal.specs.declared.Entry.{Entry}
use Rattle.journal.specs.Entries.{point_places, day_in, readings_at}
use Rattle.journal.specs.Stored.{entries, flat}
use Rattle.journal.specs.Damage.{RightFor}

-- the key of a place in a group of so many points, by its quarter hour first and its point second
unfoldable pub key_of : (points place : ℕ) → ℕ
key_of points place = place % point_places * points + place / point_places

-- how many keys a window has
abbrev pub window : ℕ
window = 1048576

-- whether an entry is superseded as of P among all entries: its stamp is at most P, and is not that of the reading shown at P for its place
abbrev pub superseded : (P : ℕ) (all : List Entry) → Entry → Bool
superseded P all e = leb e.stamp P && not (has_stamp (shown P (readings_at all e.place)) e.stamp)

-- whether an entry is superseded and has a key below `hi`
abbrev pub superseded_below : (points hi P : ℕ) (all : List Entry) → Entry → Bool
superseded_below points hi P all e = ltb (key_of points e.place) hi && superseded P all e

-- an entry without its stamp
abbrev pub unstamped : Entry → Entry
unstamped e = record { stamp = 0; place = e.place; stored = e.stored }

-- the entries, with those that pass a test marked
unfoldable pub marked : (test : Entry → Bool) → List Entry → List Entry
marked test es = map (λ e. cond (test e) (unstamped e) e) es

-- whether a key is below the next one, if there is a next one
abbrev pub is_less : ℕ → Option ℕ → Bool
is_less key None = true
is_less key (Some next) = ltb key next

-- the lesser of an entry's key and the next key, where the entry's key is not below `hi`
abbrev pub lesser : (points hi : ℕ) → Entry → (next : Option ℕ) → Option ℕ
lesser points hi e next = cond (leb hi (key_of points e.place) && is_less (key_of points e.place) next) (Some (key_of points e.place)) next

-- the least key of the entries that is not below `hi`, if there is one
unfoldable pub next_in : (points hi : ℕ) → List Entry → Option ℕ
next_in points hi [] = None
next_in points hi (e ∷ es) = lesser points hi e (next_in points hi es)

-- what a pass does: where right entries had the superseded ones with keys below `lo` marked, those of the window are marked too, and the next key is found
pub record Passed (points lo P count : ℕ) (before after : List ℕ) (next : Option ℕ) : Type 0 where
  pub marks : (all : List Entry) → RightFor points all → entries count before ≡ marked (superseded_below points lo P all) all
      → entries count after ≡ marked (superseded_below points (lo + window) P all) all
  pub least : next ≡ next_in points (lo + window) (entries count before)

-- what all passes do: every superseded entry is marked
abbrev pub Marked : (P count : ℕ) (before after : List ℕ) → Type 0
Marked P count before after = entries count after ≡ marked (superseded P (entries count before)) (entries count before)

-- whether an entry is left: it has a stamp and its day is not below K
abbrev pub is_left : (K : ℕ) → Entry → Bool
is_left K e = not (eqb e.stamp 0) && leb K (day_in e.place)

-- what moving does: the entries that are left stand at the front, so many
pub record Compacted (K count : ℕ) (before after : List ℕ) (number : ℕ) : Type 0 where
  pub front : take (3 * number) after ≡ flat (those (is_left K) (entries count before))
  pub few : number ≤ count
