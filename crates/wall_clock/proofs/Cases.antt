-- The starts of days with 92, 96 and 100 quarters at the edges of the hour from 02:00, and the quarters found by a time, worked out by hand: day 83 is
-- 24 March 2024, 90 is 31 March, 300 is 27 October, 27481 is 29 March 2099 and 27691 is 25 October. By two tests, each computed over the rows of a table.
-- Assumes nothing.
use Prim.Native.Nat.{ℕ, ◌+◌, ◌*◌}
use mathlib.Core.Path.{◌≡◌, refl}
use mathlib.Core.List.{List, [], ◌∷◌, map}
use Rattle.calendar.specs.Civil.{year_length, month_length, days_before_year, days_before_month, last_up_to}
use Rattle.calendar.specs.Dates.{year_of}
use Rattle.calendar.specs.Quarters.{last_sunday, quarters_of}
use Rattle.wall_clock.specs.declared.Letter.{Letter}
use Rattle.wall_clock.specs.declared.Letter.TheVariants.{A, B}
use Rattle.wall_clock.specs.declared.Start.{Start}
use Rattle.std.specs.Prelude.{Option, Some, None}
use Rattle.wall_clock.specs.Starts.{start_with, start_after, quarter_start, first_up_to, first_at}

-- a quarter of a day, and its start
record StartRow : Type 0 where
  day : ℕ
  quarter : ℕ
  start : Start

-- the start in hours and minutes of the hour
abbrev starts : (day quarter hours minutes : ℕ) → Option Letter → StartRow
starts day quarter hours minutes letter = record { day = day; quarter = quarter; start = start_with letter (60 * hours + minutes) }

-- an ordinary day; the day with 92 quarters; the day with 100; both in the last year
unfoldable start_rows : List StartRow
start_rows =
    starts 83 1 0 0 None ∷ starts 83 8 1 45 None ∷ starts 83 9 2 0 None ∷ starts 83 12 2 45 None ∷ starts 83 13 3 0 None ∷
    starts 83 21 5 0 None ∷ starts 83 96 23 45 None ∷
    starts 90 1 0 0 None ∷ starts 90 8 1 45 None ∷ starts 90 9 3 0 None ∷ starts 90 10 3 15 None ∷ starts 90 12 3 45 None ∷
    starts 90 13 4 0 None ∷ starts 90 17 5 0 None ∷ starts 90 92 23 45 None ∷
    starts 300 1 0 0 None ∷ starts 300 8 1 45 None ∷ starts 300 9 2 0 (Some A) ∷ starts 300 12 2 45 (Some A) ∷ starts 300 13 2 0 (Some B) ∷
    starts 300 14 2 15 (Some B) ∷ starts 300 16 2 45 (Some B) ∷ starts 300 17 3 0 None ∷ starts 300 25 5 0 None ∷ starts 300 100 23 45 None ∷
    starts 27481 9 3 0 None ∷ starts 27481 92 23 45 None ∷ starts 27691 13 2 0 (Some B) ∷ starts 27691 100 23 45 None ∷ []

-- a time of a day, and the quarter found by it
record FoundRow : Type 0 where
  day : ℕ
  minutes : ℕ
  quarter : Option ℕ

-- the time in hours and minutes of the hour
abbrev found : (day hours minutes : ℕ) → Option ℕ → FoundRow
found day hours minutes quarter = record { day = day; minutes = 60 * hours + minutes; quarter = quarter }

-- the same days; times at which no quarter starts; and a day outside the calendar
unfoldable found_rows : List FoundRow
found_rows =
    found 83 0 0 (Some 1) ∷ found 83 1 45 (Some 8) ∷ found 83 2 0 (Some 9) ∷ found 83 2 45 (Some 12) ∷ found 83 3 0 (Some 13) ∷ found 83 23 45 (Some 96) ∷
    found 90 1 45 (Some 8) ∷ found 90 2 0 None ∷ found 90 2 15 None ∷ found 90 2 45 None ∷ found 90 3 0 (Some 9) ∷ found 90 5 0 (Some 17) ∷
    found 90 23 45 (Some 92) ∷
    found 300 1 45 (Some 8) ∷ found 300 2 0 (Some 9) ∷ found 300 2 15 (Some 10) ∷ found 300 2 45 (Some 12) ∷ found 300 3 0 (Some 17) ∷ found 300 5 0 (Some 25) ∷
    found 300 23 45 (Some 100) ∷
    found 27481 2 30 None ∷ found 27481 3 0 (Some 9) ∷ found 27691 2 0 (Some 9) ∷ found 27691 3 0 (Some 17) ∷
    found 83 3 10 None ∷ found 83 24 0 None ∷ found 90 24 0 None ∷ found 300 24 0 None ∷ found 300 24 15 None ∷ found 27759 0 0 None ∷ []

-- starts and quarters of the definitions are these
start_cases : map (λ (row : StartRow). quarter_start row.day row.quarter) start_rows ≡ map (λ (row : StartRow). row.start) start_rows
unfolding start_rows start_after quarters_of last_sunday year_of year_length month_length days_before_year days_before_month last_up_to
start_cases = refl

found_cases : map (λ (row : FoundRow). first_at row.day row.minutes) found_rows ≡ map (λ (row : FoundRow). row.quarter) found_rows
unfolding found_rows start_after first_up_to first_at quarters_of last_sunday year_of year_length month_length days_before_year days_before_month last_up_to
found_cases = refl
