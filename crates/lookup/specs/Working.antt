-- What the code works with: what each of 64 points shows in its own quarter hour; the values of all points; and what a pass back through the journal
-- knows of a point's earlier weeks. Assumes nothing.
use Rattle.std.specs.Prelude.{◌≡◌, ℕ, zero, suc, ◌+◌, ◌-◌, ◌*◌, ◌<◌, Bool, true, cond, ◌&&◌, List, [], map, length, get_or, eqb, ◌==◌, nat_le, nat_lt, slice_index, Option, None, Some}
use Rattle.std.specs.List.{list_any}
use Rattle.std.specs.Option.{option_map, option_eq}
use Rattle.calendar.specs.Quarters.{quarter_exists}
use Rattle.journal.specs.declared.Entry.{Entry}
use Rattle.journal.specs.Value.{Value, value_in}
use Rattle.journal.specs.Order.{Reading}
use Rattle.journal.specs.Stored.{entry_in}
use Rattle.journal.specs.Readings.{shown, value_shown}
use Rattle.journal.specs.Entries.{point_places, place_of, readings_at}
use Rattle.journal.specs.Damage.{Right}
use Rattle.lookup.specs.Mean.{sum_of}
use Rattle.lookup.specs.Earlier.{week_days, earlier}
use Rattle.lookup.specs.Substitutes.{zero_for_lack, four_weeks, weeks_before, looked_up}
use Rattle.lookup.specs.declared.Asked.{Asked}
use Rattle.lookup.specs.declared.PointValue.{PointValue}
use Rattle.lookup.specs.declared.weeks.Weeks.{Weeks}

-- what a look-up relies on: there is such a quarter hour, and the entries are right
pub record Readable (es : List Entry) (asked : Asked) : Type 0 where
  pub exists : quarter_exists asked.day asked.quarter ≡ true
  pub right : Right es

-- the readings of a point by day and quarter, among entries
abbrev pub point_readings : List Entry → (point : ℕ) → ℕ → ℕ → List Reading
point_readings es point day quarter = readings_at es (place_of point day quarter)

-- what a point's own quarter hour shows
abbrev pub own_value : List Entry → Asked → (point : ℕ) → Option Value
own_value es asked point = value_shown (shown asked.until (point_readings es point asked.day asked.quarter))

-- what its earlier weeks show
abbrev pub earlier_values : List Entry → Asked → (point : ℕ) → List (Option Value)
earlier_values es asked point = weeks_before (point_readings es point) asked.day asked.quarter asked.until

-- the value and the origin of a point with this status
abbrev pub looked_up_in : List Entry → Asked → (point status : ℕ) → PointValue
looked_up_in es asked point status = looked_up status (point_readings es point) asked.day asked.quarter asked.until

-- ---- the points' own quarter hour
-- the value that what is stored stands for, if a point has a reading
abbrev pub value_for : Option ℕ → Option Value
value_for None = None
value_for (Some stored) = Some (value_in stored)

-- an entry taken in: where it is in time and of the slot, which is a day and a quarter as one number, day × 100 + quarter − 1, its point has what it
-- stores; what the other points have stays
abbrev pub TakenIn : Entry → (slot until : ℕ) → (before after : List (Option ℕ)) → Type 0
TakenIn e slot until before after =
    (point : ℕ) → point < 64
    → get_or after point None ≡ cond (e.place == point_places * point + slot && nat_le e.stamp until) (Some e.stored) (get_or before point None)

-- for each of 64 points what the entries show in its own quarter hour
pub record OwnOf (es : List Entry) (asked : Asked) (own : List (Option ℕ)) : Type 0 where
  pub size : length own ≡ 64
  pub values : (point : ℕ) → point < 64 → value_for (get_or own point None) ≡ own_value es asked point

-- the value of a point, from values by point
abbrev pub value_of_point : List PointValue → (point : ℕ) → PointValue
value_of_point all point = get_or all point zero_for_lack

-- the values of the points with these statuses
pub record AllOf (es : List Entry) (asked : Asked) (statuses : List ℕ) (all : List PointValue) : Type 0 where
  pub each : (point : ℕ) → point < length statuses → value_of_point all point ≡ looked_up_in es asked point (slice_index statuses point)

-- ---- a point's earlier weeks
-- the first place that is no point's: no entry has it
abbrev pub nowhere : ℕ
nowhere = 64 * point_places

-- the place of a point's quarter hour so many weeks before, if there is such a quarter hour
abbrev pub earlier_place : (point : ℕ) → Asked → (weeks : ℕ) → Option ℕ
earlier_place point asked weeks = option_map (λ slot. place_of point slot.day slot.quarter) (earlier weeks asked.day asked.quarter)

-- all four weeks are sought, and nothing is met
abbrev pub all_sought : (point : ℕ) → Asked → Weeks
all_sought point asked = record { places = map (earlier_place point asked) four_weeks; sum = 0; count = 0 }

-- whether a place is this one, if one is sought
abbrev pub is_this : ℕ → Option ℕ → Bool
is_this place sought = option_eq eqb sought (Some place)

-- whether a place is one of those that are sought
abbrev pub is_sought : ℕ → List (Option ℕ) → Bool
is_sought place places = list_any (is_this place) places

-- what is sought of a week once a place has been met: nothing more, where it is the week's
abbrev pub without : (place : ℕ) → Option ℕ → Option ℕ
without place sought = cond (is_this place sought) None sought

-- what is known of the weeks once an entry is met: its place is sought no more, and its magnitude is one of the sum
abbrev pub met : Entry → Weeks → Weeks
met e weeks =
    record {
      places = map (without e.place) weeks.places;
      sum = weeks.sum + (value_in e.stored).magnitude;
      count = weeks.count + 1;
    }

-- what is known once an entry is passed: where its place is sought, and it is in time, it is met
unfoldable pub passed : (until : ℕ) → Entry → Weeks → Weeks
passed until e weeks = cond (is_sought e.place weeks.places && nat_le e.stamp until) (met e weeks) weeks

-- how many places a point has on the 28 days of four weeks and one day more: they are the near ones
abbrev pub near_places : ℕ
near_places = 100 * (week_days * 4 + 1)

-- the first of these: it is of the day four weeks before, or of day 0 where there are fewer days before
abbrev pub first_near : (point : ℕ) → Asked → ℕ
first_near point asked = place_of point (asked.day - week_days * 4) 1

-- whether a place is one of so many from the first on
abbrev pub is_near : (first place : ℕ) → Bool
is_near first place = nat_le first place && nat_lt place (first + near_places)

-- how many of the first `count` entries are left once those at the end that are of no near place are left out
unfoldable pub near_end : (first : ℕ) → (entries : List (List ℕ)) → (count : ℕ) → ℕ
near_end first entries zero = 0
near_end first entries (suc count) =
    cond (is_near first (entry_in (get_or entries count [])).place) (suc count) (near_end first entries count)

-- weeks of which these values have been met
pub record Summed (values : List ℕ) (weeks : Weeks) : Type 0 where
  pub sum : weeks.sum ≡ sum_of values
  pub count : weeks.count ≡ length values
