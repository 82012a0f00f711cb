-- The entries of a journal: stamp, place, and what is stored of the value. Assumes nothing.
use Rattle.std.specs.Prelude.{ℕ, ◌+◌, ◌*◌, ◌-◌, ◌/◌, ◌%◌, Bool, ◌&&◌, ◌||◌, List, map, leb, ltb, eqb}
use Rattle.calendar.specs.Dates.{day_count}
use Rattle.journal.specs.declared.Entry.{Entry}
use Rattle.journal.specs.Value.{value_in}
use Rattle.journal.specs.Order.{Reading}
use Rattle.lists.specs.Those.{those}
use Rattle.journal.specs.Readings.{shown, has_stamp}

-- how many places a point has: 100 for each day of the calendar
abbrev pub point_places : ℕ
point_places = 2775900

-- the place of a point, day and quarter: (point times 27759 + day) times 100 + quarter − 1
abbrev pub place_of : (point day quarter : ℕ) → ℕ
place_of point day quarter = (point * day_count + day) * 100 + (quarter - 1)

-- the point of a place
abbrev pub point_in : ℕ → ℕ
point_in place = place / 100 / day_count

-- the day of a place
abbrev pub day_in : ℕ → ℕ
day_in place = place / 100 % day_count

-- the quarter of a place, from 1
abbrev pub quarter_in : ℕ → ℕ
quarter_in place = place % 100 + 1

-- the reading that an entry stands for
abbrev pub reading_of : Entry → Reading
reading_of e = record { stamp = e.stamp; value = value_in e.stored }

-- the readings of a place
abbrev pub readings_at : List Entry → ℕ → List Reading
readings_at es place = map reading_of (those (λ e. eqb e.place place) es)

-- what a clear keeps: an entry with day at least K whose stamp is above P or is that of the reading shown at P for its place
abbrev pub kept : (K P : ℕ) → List Entry → Entry → Bool
kept K P es e = leb K (day_in e.place) && (ltb P e.stamp || has_stamp (shown P (readings_at es e.place)) e.stamp)

-- the entries that a clear keeps, in order
unfoldable pub keep : (K P : ℕ) → List Entry → List Entry
keep K P es = those (kept K P es) es
