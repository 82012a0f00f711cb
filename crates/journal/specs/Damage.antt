-- When the entries of a journal are right: the entry rules of refusal 15. Assumes nothing.
use Rattle.std.specs.Prelude.{ℕ, ◌≤◌, ◌≡◌, Bool, true, ◌&&◌, List, [], ◌∷◌, leb, ltb}
use Rattle.calendar.specs.Quarters.{quarter_exists}
use Rattle.journal.specs.Value.{stored_right}
use Rattle.journal.specs.declared.Entry.{Entry}
use Rattle.journal.specs.Entries.{point_in, day_in, quarter_in}

-- an entry of a group with so many points and kept day K: its point is one of them, its day is not below K and has its quarter, its magnitude is right
unfoldable pub entry_right : (points K : ℕ) → Entry → Bool
entry_right points K e =
    ltb (point_in e.place) points && leb K (day_in e.place) && quarter_exists (day_in e.place) (quarter_in e.place)
    && stored_right e.stored

-- the stamps rise, above `before` and up to the last stamp, and each entry is right
unfoldable pub entries_right : (points K last before : ℕ) → List Entry → Bool
entries_right points K last before [] = true
entries_right points K last before (e ∷ es) =
    ltb before e.stamp && leb e.stamp last && entry_right points K e && entries_right points K last e.stamp es

-- entries that are right for a group of so many points, at most 64, some kept day and some last stamp
pub record RightFor (points : ℕ) (es : List Entry) : Type 0 where
  pub few : points ≤ 64
  pub keptday : ℕ
  pub last : ℕ
  pub right : entries_right points keptday last 0 es ≡ true

-- entries that are right for some number of points
pub record Right (es : List Entry) : Type 0 where
  pub points : ℕ
  pub all : RightFor points es
