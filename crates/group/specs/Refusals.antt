-- The refusals of submission, clear and evaluation, each in the paper's order. Assumes nothing.
use Rattle.std.specs.Prelude.{ℕ, zero, suc, ◌+◌, ◌*◌, ◌-◌, Bool, not, ◌&&◌, ◌||◌, List, nat_abs, ltb, eqb, length}
use Rattle.values.specs.Values.{magnitude_most}
use Rattle.answers.specs.Numbers.{Verdict}
use Rattle.std.specs.Prelude.{Ok}
use Rattle.answers.specs.declared.Refusal.TheVariants.{CodeNotInGroup, NoSuchDay, ValueWrong, DayCleared, StampOutside, ClockOutside, JournalFull, Damaged, TooShort}
use Rattle.answers.specs.Order.{refuse◌if◌else◌}
use Rattle.calendar.specs.Dates.{last_day, is_day}
use Rattle.calendar.specs.Quarters.{quarter_exists}
use Rattle.registration.specs.Damage.{is_damaged}
use Rattle.evaluation.specs.Layout.{size_of}
use Rattle.journal.specs.Value.{value_of}
use Rattle.journal.specs.Readings.{shown, same_as}
use Rattle.journal.specs.Damage.{entries_right}
use Rattle.points.specs.Points.{index_of, has, sign_suits}
use Rattle.values.specs.declared.Measurement.{Measurement}
use Rattle.group.specs.Group.{Group, roll_of, readings_for}
use Rattle.group.specs.Stamps.{stamp_most}

-- registration, record or journal damaged: P above the last stamp, the last stamp above 999999999999, K above 27758, more entries than the journal
-- holds, an entry that is not right
unfoldable pub damaged : (last : ℕ) → Group → Bool
damaged last G =
    is_damaged G.registration || ltb last G.keptstamp || ltb stamp_most last || ltb last_day G.keptday
    || ltb G.room (3 * length G.entries) || not (entries_right (length (roll_of G)) G.keptday last 0 G.entries)

-- the submission repeats the reading shown at the last stamp
abbrev pub repeats : (last : ℕ) → Group → Measurement → Bool
repeats last G m = same_as (shown last (readings_for G m)) (value_of m)

-- fewer than 3 numbers are left in the journal
abbrev pub full : Group → Bool
full G = ltb (G.room - 3 * length G.entries) 3

-- a submission: 15, 8, 9, 11, 10, 13, 14
unfoldable pub submission_verdict : (last : ℕ) → Group → (clock : ℕ) → Measurement → Verdict
submission_verdict last G clock m =
    refuse Damaged if damaged last G else
    refuse CodeNotInGroup if not (has m.code (roll_of G)) else
    refuse NoSuchDay if not (quarter_exists m.day m.quarter) else
    refuse DayCleared if ltb m.day G.keptday else
    refuse ValueWrong if not (sign_suits G.registration.producers (index_of m.code (roll_of G)) m.value) else
    refuse ValueWrong if ltb magnitude_most (nat_abs m.value) else
    refuse ClockOutside if ltb stamp_most clock else
    refuse ClockOutside if eqb last stamp_most else
    refuse JournalFull if not (repeats last G m) && full G else
    Ok tt

-- a clear: 15, 9, 11, 12
unfoldable pub clear_verdict : (last : ℕ) → Group → (day stamp : ℕ) → Verdict
clear_verdict last G day stamp =
    refuse Damaged if damaged last G else
    refuse NoSuchDay if not (is_day day) else
    refuse DayCleared if ltb day G.keptday else
    refuse StampOutside if ltb stamp G.keptstamp else
    refuse StampOutside if ltb last stamp else
    Ok tt

-- how many days before an evaluated one must not be cleared
abbrev pub days_before : ℕ
days_before = 28

-- the earliest day that can be evaluated: with K above 0 the four weeks before it must not be cleared
unfoldable pub earliest : ℕ → ℕ
earliest zero = 0
earliest (suc K) = suc K + days_before

-- an evaluation: 15, 9, 11, 12, 16
unfoldable pub evaluation_verdict : (last : ℕ) → Group → (day quarter T : ℕ) → (lent : List ℕ) → Verdict
evaluation_verdict last G day quarter T lent =
    refuse Damaged if damaged last G else
    refuse NoSuchDay if not (quarter_exists day quarter) else
    refuse DayCleared if ltb day (earliest G.keptday) else
    refuse StampOutside if ltb T G.keptstamp else
    refuse StampOutside if ltb last T else
    refuse TooShort if ltb (length lent) (size_of G.registration) else
    Ok tt
