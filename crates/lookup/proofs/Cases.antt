-- The value of a point and its origin at the edges of the rules for a missing reading, with all numbers worked out by hand, as of stamp 1000: of quarter 40
-- on days without a changeover in their weeks, and of any quarter on the two changeover days of 2024 and up to five weeks after them. By one test that is computed over the rows of a table.
-- Assumes nothing.
use Rattle.std.proofs.Common.{◌≡◌, ℕ, cond, ◌&&◌, eqb, List, [], ◌∷◌, ◌++◌, map, refl}
use Rattle.journal.specs.Order.{Reading, weaker}
use Rattle.journal.specs.Readings.{shown}
use Rattle.calendar.specs.Civil.{year_length, month_length, days_before_year, days_before_month, last_up_to}
use Rattle.calendar.specs.Dates.{year_of}
use Rattle.calendar.specs.Quarters.{last_sunday, quarters_of}
use Rattle.wall_clock.specs.Starts.{start_after, first_up_to, first_at}
use Rattle.lookup.specs.Mean.{sum_of, nearest}
use Rattle.lookup.specs.Earlier.{earlier}
use Rattle.lookup.specs.declared.PointValue.{PointValue}
use Rattle.lookup.specs.Substitutes.{number_of_origin, existing, looked_up}

-- a reading of the point
record Read : Type 0 where
  day : ℕ
  quarter : ℕ
  stamp : ℕ
  magnitude : ℕ

-- one in any quarter, in time
abbrev in_quarter : (day quarter magnitude : ℕ) → Read
in_quarter day quarter magnitude = record { day = day; quarter = quarter; stamp = 1000; magnitude = magnitude }

-- one in quarter 40
abbrev on : (day magnitude : ℕ) → Read
on day magnitude = in_quarter day 40 magnitude

-- the readings of a day and quarter
abbrev readings_in : List Read → (day quarter : ℕ) → List Reading
readings_in [] day quarter = []
readings_in (read ∷ reads) day quarter =
    cond (eqb read.day day && eqb read.quarter quarter)
    (record { stamp = read.stamp; value = record { magnitude = read.magnitude } } ∷ readings_in reads day quarter)
    (readings_in reads day quarter)

-- the status of the point, the day and quarter, its readings, and the value and the number of its origin that the paper gives, or the request
-- on the wall clock
record Row : Type 0 where
  status : ℕ
  day : ℕ
  quarter : ℕ
  reads : List Read
  value : ℕ × ℕ

-- a row of quarter 40
abbrev row : (status day : ℕ) → List Read → (magnitude origin : ℕ) → Row
row status day reads magnitude origin = record { status = status; day = day; quarter = 40; reads = reads; value = (magnitude, origin) }

-- a row of any quarter, with status 0
abbrev row_of : (day quarter : ℕ) → List Read → (magnitude origin : ℕ) → Row
row_of day quarter reads magnitude origin = record { status = 0; day = day; quarter = quarter; reads = reads; value = (magnitude, origin) }

-- a value with the number of its origin
abbrev numbered : PointValue → ℕ × ℕ
numbered value = (value.magnitude, number_of_origin value.origin)

-- the value and the number of the origin of the definitions
abbrev computed : Row → ℕ × ℕ
computed row = numbered (looked_up row.status (readings_in row.reads) row.day row.quarter 1000)

-- one reading alone: 7, 14, 21 or 28 days before it is the substitute, on any other day, at another time of day or with a later stamp it is not
single : List Row
single =
    row 0 100 [] 0 6
    ∷ row 0 100 (on 93 501 ∷ []) 501 1
    ∷ row 0 100 (on 86 502 ∷ []) 502 1
    ∷ row 0 100 (on 79 503 ∷ []) 503 1
    ∷ row 0 100 (on 72 504 ∷ []) 504 1
    ∷ row 0 100 (on 65 505 ∷ []) 0 6
    ∷ row 0 100 (on 99 506 ∷ []) 0 6
    ∷ row 0 100 (on 94 507 ∷ []) 0 6
    ∷ row 0 100 (record { day = 93; quarter = 39; stamp = 1000; magnitude = 508 } ∷ []) 0 6
    ∷ row 0 100 (record { day = 93; quarter = 40; stamp = 1001; magnitude = 509 } ∷ []) 0 6
    ∷ []

-- statuses: above 0 there is no mean; a reading of the day itself counts with every status, also one of 0, but not with a later stamp
statuses : List Row
statuses =
    row 0 100 (on 93 10 ∷ on 86 20 ∷ []) 15 2
    ∷ row 1 100 [] 0 5
    ∷ row 2 100 [] 0 5
    ∷ row 3 100 [] 0 5
    ∷ row 1 100 (on 93 10 ∷ on 86 20 ∷ []) 0 5
    ∷ row 2 100 (on 93 10 ∷ on 86 20 ∷ []) 0 5
    ∷ row 3 100 (on 93 10 ∷ on 86 20 ∷ []) 0 5
    ∷ row 0 100 (on 100 600 ∷ on 93 10 ∷ []) 600 0
    ∷ row 1 100 (on 100 601 ∷ on 93 10 ∷ []) 601 0
    ∷ row 2 100 (on 100 602 ∷ on 93 10 ∷ []) 602 0
    ∷ row 3 100 (on 100 603 ∷ on 93 10 ∷ []) 603 0
    ∷ row 0 100 (on 100 0 ∷ on 93 10 ∷ []) 0 0
    ∷ row 1 100 (on 100 0 ∷ on 93 10 ∷ []) 0 0
    ∷ row 2 100 (on 100 0 ∷ []) 0 0
    ∷ row 3 100 (on 100 0 ∷ []) 0 0
    ∷ row 0 100 (record { day = 100; quarter = 40; stamp = 1001; magnitude = 604 } ∷ on 93 10 ∷ []) 10 1
    ∷ []

-- means of two, three and four: halves up, and a magnitude of 0 counts; of zeros alone the mean is 0, and its origin is how many they are
means : List Row
means =
    row 0 100 (on 93 0 ∷ []) 0 1
    ∷ row 0 100 (on 93 0 ∷ on 79 0 ∷ []) 0 2
    ∷ row 0 100 (on 93 0 ∷ on 86 0 ∷ on 72 0 ∷ []) 0 3
    ∷ row 0 100 (on 93 0 ∷ on 86 0 ∷ on 79 0 ∷ on 72 0 ∷ []) 0 4
    ∷ row 0 100 (on 93 1 ∷ on 86 2 ∷ []) 2 2
    ∷ row 0 100 (on 79 2 ∷ on 72 4 ∷ []) 3 2
    ∷ row 0 100 (on 93 0 ∷ on 72 5 ∷ []) 3 2
    ∷ row 0 100 (on 93 1 ∷ on 86 1 ∷ on 79 2 ∷ []) 1 3
    ∷ row 0 100 (on 93 1 ∷ on 86 2 ∷ on 72 2 ∷ []) 2 3
    ∷ row 0 100 (on 93 1 ∷ on 86 1 ∷ on 79 1 ∷ on 72 2 ∷ []) 1 4
    ∷ row 0 100 (on 93 1 ∷ on 86 1 ∷ on 79 2 ∷ on 72 2 ∷ []) 2 4
    ∷ []

-- days on which some of the earlier weeks lie before day 0: a reading of day 0 stands in for none of them
first_days : List Row
first_days =
    row 0 20 (on 13 10 ∷ on 6 20 ∷ on 0 90 ∷ []) 15 2
    ∷ row 0 20 (on 0 90 ∷ []) 0 6
    ∷ row 0 21 (on 14 10 ∷ on 7 20 ∷ on 0 90 ∷ []) 40 3
    ∷ row 0 6 (on 0 90 ∷ []) 0 6
    ∷ row 0 7 (on 0 90 ∷ []) 90 1
    ∷ row 0 27 (on 0 90 ∷ []) 0 6
    ∷ row 0 28 (on 0 90 ∷ []) 90 1
    ∷ []

-- the day with 92 quarters, 90, and those after it: from 03:00 on its numbers are four less than those of the same time on ordinary days; an hour that it
-- lacks counts for none
march : List Row
march =
    row_of 90 8 (in_quarter 83 8 11 ∷ in_quarter 83 12 90 ∷ []) 11 1
    ∷ row_of 90 9 (in_quarter 83 9 90 ∷ in_quarter 83 13 12 ∷ []) 12 1
    ∷ row_of 90 17 (in_quarter 83 17 90 ∷ in_quarter 83 21 13 ∷ in_quarter 62 21 15 ∷ []) 14 2
    ∷ row_of 90 92 (in_quarter 83 92 90 ∷ in_quarter 83 96 14 ∷ []) 14 1
    ∷ row_of 97 8 (in_quarter 90 4 90 ∷ in_quarter 90 8 15 ∷ in_quarter 90 12 90 ∷ []) 15 1
    ∷ row_of 97 9 (in_quarter 90 9 90 ∷ []) 0 6
    ∷ row_of 97 12 (in_quarter 90 8 90 ∷ in_quarter 90 12 90 ∷ in_quarter 83 12 16 ∷ []) 16 1
    ∷ row_of 97 13 (in_quarter 90 9 17 ∷ in_quarter 90 13 90 ∷ []) 17 1
    ∷ row_of 104 13 (in_quarter 90 9 23 ∷ in_quarter 90 13 90 ∷ []) 23 1
    ∷ row_of 111 12 (in_quarter 104 12 24 ∷ in_quarter 90 12 90 ∷ []) 24 1
    ∷ row_of 118 9 (in_quarter 111 9 20 ∷ in_quarter 104 9 21 ∷ in_quarter 97 9 22 ∷ in_quarter 90 9 90 ∷ []) 21 3
    ∷ row_of 118 96 (in_quarter 90 92 18 ∷ in_quarter 111 92 90 ∷ []) 18 1
    ∷ row_of 125 13 (in_quarter 90 9 90 ∷ []) 0 6
    ∷ []

-- the day with 100 quarters, 300, and those after it: from the second 02:00 on its numbers are four more; both of its hours from 02:00 take the single one of
-- an earlier week, and later weeks its first
october : List Row
october =
    row_of 300 12 (in_quarter 293 12 31 ∷ in_quarter 293 8 90 ∷ []) 31 1
    ∷ row_of 300 9 (in_quarter 293 5 90 ∷ in_quarter 293 9 32 ∷ in_quarter 293 13 90 ∷ []) 32 1
    ∷ row_of 300 13 (in_quarter 293 9 32 ∷ in_quarter 293 13 90 ∷ []) 32 1
    ∷ row_of 300 16 (in_quarter 293 12 33 ∷ in_quarter 293 16 90 ∷ []) 33 1
    ∷ row_of 300 17 (in_quarter 293 13 34 ∷ in_quarter 293 17 90 ∷ []) 34 1
    ∷ row_of 300 25 (in_quarter 293 21 35 ∷ in_quarter 293 25 90 ∷ in_quarter 272 21 36 ∷ []) 36 2
    ∷ row_of 300 100 (in_quarter 293 92 90 ∷ in_quarter 293 96 37 ∷ []) 37 1
    ∷ row_of 307 9 (in_quarter 300 9 38 ∷ in_quarter 300 13 90 ∷ []) 38 1
    ∷ row_of 307 12 (in_quarter 300 16 90 ∷ []) 0 6
    ∷ row_of 307 13 (in_quarter 300 13 90 ∷ in_quarter 300 17 39 ∷ []) 39 1
    ∷ row_of 314 12 (in_quarter 300 12 43 ∷ in_quarter 300 16 90 ∷ []) 43 1
    ∷ row_of 321 21 (in_quarter 300 21 90 ∷ in_quarter 300 25 44 ∷ in_quarter 314 21 45 ∷ []) 45 2
    ∷ row_of 328 10 (in_quarter 300 10 40 ∷ in_quarter 300 14 90 ∷ in_quarter 321 10 41 ∷ []) 41 2
    ∷ row_of 328 96 (in_quarter 300 96 90 ∷ in_quarter 300 100 42 ∷ []) 42 1
    ∷ row_of 335 13 (in_quarter 300 13 90 ∷ in_quarter 300 17 90 ∷ []) 0 6
    ∷ []

-- all rows
rows : List Row
rows = single ++ (statuses ++ (means ++ (first_days ++ (march ++ october))))

-- values and origins of the definitions are those of the paper and of that request
cases : map computed rows ≡ map (λ (row : Row). row.value) rows
unfolding rows single statuses means first_days march october looked_up existing sum_of nearest earlier shown weaker first_at first_up_to start_after quarters_of last_sunday year_of year_length month_length days_before_year days_before_month last_up_to
cases = refl
