-- The same time of day in an earlier week: 7, 14, 21 and 28 days before, the quarter with the same wall-clock start. Assumes nothing.
use Rattle.std.specs.Prelude.{ℕ, ◌-◌, ◌*◌, cond, nat_le, Option, None}
use Rattle.std.specs.Option.{option_map}
use Rattle.wall_clock.specs.Starts.{quarter_start, first_at}

-- the days of a week
abbrev pub week_days : ℕ
week_days = 7

-- a quarter hour of a day
pub record Slot : Type 0 where
  pub day : ℕ
  pub quarter : ℕ

-- a quarter hour by its day and its quarter
abbrev pub slot_on : (day quarter : ℕ) → Slot
slot_on day quarter = record { day = day; quarter = quarter }

-- the first quarter hour of an earlier day with the wall-clock start of a quarter hour; none where that day lacks the time
abbrev pub matched : (before day quarter : ℕ) → Option Slot
matched before day quarter = option_map (slot_on before) (first_at before (quarter_start day quarter).minutes)

-- the same time of day so many weeks before, of a quarter that the day has, since no other is asked for; none lies before day 0
unfoldable pub earlier : (weeks day quarter : ℕ) → Option Slot
earlier weeks day quarter = cond (nat_le (week_days * weeks) day) (matched (day - week_days * weeks) day quarter) None
