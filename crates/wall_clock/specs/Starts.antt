-- What the clock on the wall shows when a quarter of a day begins, and which quarter of a day begins when it shows a time. Clocks go from 02:00 to 03:00 on the
-- day with 92 quarters, and from 03:00 back to 02:00 on the day with 100. Times are minutes from midnight. Assumes nothing.
use Rattle.std.specs.Prelude.{ℕ, zero, suc, ◌+◌, ◌-◌, ◌*◌, Bool, cond, ltb, eqb, Option, Some, None}
use Rattle.std.specs.Bool.{then_some}
use Rattle.std.specs.Option.{option_or}
use Rattle.calendar.specs.Quarters.{quarters_of}
use Rattle.wall_clock.specs.declared.Letter.{Letter}
use Rattle.wall_clock.specs.declared.Letter.TheVariants.{A, B}
use Rattle.wall_clock.specs.declared.Start.{Start}

-- how many minutes of the day have passed when a quarter begins
abbrev pub passed_at : (quarter : ℕ) → ℕ
passed_at quarter = 15 * (quarter - 1)

-- a start with its letter: A for the first of a doubled hour, B for the second, and none for every other
abbrev pub start_with : Option Letter → (minutes : ℕ) → Start
start_with letter minutes = record { minutes = minutes; letter = letter }

-- on a day on which no clock changes it shows what has passed
abbrev pub ordinary_start : (passed : ℕ) → Start
ordinary_start passed = start_with None passed

-- on the day with 92 quarters it goes forward an hour when 02:00 would come: 02:00 to 02:45 are missing
abbrev pub short_start : (passed : ℕ) → Start
short_start passed = cond (ltb passed 120) (start_with None passed) (start_with None (passed + 60))

-- on the day with 100 quarters it goes back an hour when 03:00 would come for the first time: 02:00 to 02:45 come twice
abbrev pub long_start : (passed : ℕ) → Start
long_start passed =
    cond (ltb passed 120) (start_with None passed)
    (cond (ltb passed 180) (start_with (Some A) passed)
    (cond (ltb passed 240) (start_with (Some B) (passed - 60))
    (start_with None (passed - 60))))

-- the start after so many minutes, by how many quarters the day has
unfoldable pub start_after : (quarters passed : ℕ) → Start
start_after quarters passed =
    cond (eqb quarters 92) (short_start passed) (cond (eqb quarters 100) (long_start passed) (ordinary_start passed))

-- the wall-clock start of a quarter of a day
abbrev pub quarter_start : (day quarter : ℕ) → Start
quarter_start day quarter = start_after (quarters_of day) (passed_at quarter)

-- the first of the quarters up to n that passes a test
unfoldable pub first_up_to : (ℕ → Bool) → (n : ℕ) → Option ℕ
first_up_to test zero = None
first_up_to test (suc n) = option_or (first_up_to test n) (then_some (test (suc n)) (suc n))

-- the first quarter that starts when the clock shows so many minutes, by how many quarters the day has
abbrev pub first_in : (quarters minutes : ℕ) → Option ℕ
first_in quarters minutes = first_up_to (λ quarter. eqb (start_after quarters (passed_at quarter)).minutes minutes) quarters

-- the first quarter of a day that starts when the clock shows so many minutes, whatever its letter
unfoldable pub first_at : (day minutes : ℕ) → Option ℕ
first_at day minutes = first_in (quarters_of day) minutes
