-- What the wall-clock starts promise, as statements; proofs/Laws.antt proves each. Assumes nothing.
use Rattle.std.specs.Prelude.{ℕ, ◌+◌, ◌-◌, ◌*◌, ◌%◌, ◌≤◌, ◌<◌, ◌≡◌, true, Some, None}
use Rattle.calendar.specs.Quarters.{quarters_of, quarter_exists}
use Rattle.wall_clock.specs.declared.Letter.TheVariants.{A, B}
use Rattle.wall_clock.specs.Starts.{start_with, quarter_start, first_at}

-- on an ordinary day the quarters start every 15 minutes from 00:00 on, without letters
abbrev pub OrdinaryStarts : Type 0
OrdinaryStarts = (day quarter : ℕ) → quarters_of day ≡ 96 → quarter_start day quarter ≡ start_with None (15 * (quarter - 1))

-- on the day with 92 quarters the first eight start as on an ordinary day, and each later one, the ninth at 03:00, when the fourth after it would start there
pub record ShortStarts (day quarter : ℕ) : Type 0 where
  pub before : quarter ≤ 8 → quarter_start day quarter ≡ start_with None (15 * (quarter - 1))
  pub after : 9 ≤ quarter → quarter_start day quarter ≡ start_with None (15 * (quarter + 3))

abbrev pub StartsOfShortDays : Type 0
StartsOfShortDays = (day quarter : ℕ) → quarters_of day ≡ 92 → ShortStarts day quarter

-- on the day with 100 quarters the first twelve start as on an ordinary day, the last four of these with the letter A; the next four at the same times
-- with the letter B; and each later one, the 17th at 03:00, when the fourth before it would start there
pub record LongStarts (day quarter : ℕ) : Type 0 where
  pub before : quarter ≤ 8 → quarter_start day quarter ≡ start_with None (15 * (quarter - 1))
  pub first : 9 ≤ quarter → quarter ≤ 12 → quarter_start day quarter ≡ start_with (Some A) (15 * (quarter - 1))
  pub second : 13 ≤ quarter → quarter ≤ 16 → quarter_start day quarter ≡ start_with (Some B) (15 * (quarter - 5))
  pub after : 17 ≤ quarter → quarter_start day quarter ≡ start_with None (15 * (quarter - 5))

abbrev pub StartsOfLongDays : Type 0
StartsOfLongDays = (day quarter : ℕ) → quarters_of day ≡ 100 → LongStarts day quarter

-- a time of day at 00, 15, 30 or 45 minutes of an hour
abbrev pub IsTime : (minutes : ℕ) → Type 0
IsTime minutes = (minutes < 24 * 60) × (minutes % 15 ≡ 0)

-- every start is such a time
abbrev pub StartsAreTimes : Type 0
StartsAreTimes = (day quarter : ℕ) → quarter_exists day quarter ≡ true → IsTime (quarter_start day quarter).minutes

-- start and letter tell the quarter: no two quarters of a day share both
abbrev pub StartsTellQuarters : Type 0
StartsTellQuarters =
    (day quarter other : ℕ) → quarter_exists day quarter ≡ true → quarter_exists day other ≡ true
    → quarter_start day quarter ≡ quarter_start day other → quarter ≡ other

-- a quarter that is found by a time exists on the day, and starts at that time
abbrev pub FoundStartsThen : Type 0
FoundStartsThen =
    (day minutes quarter : ℕ) → first_at day minutes ≡ Some quarter
    → (quarter_exists day quarter ≡ true) × ((quarter_start day quarter).minutes ≡ minutes)

-- a quarter is found by a time, and it is none after a given one
pub record FoundUpTo (day minutes last : ℕ) : Type 0 where
  pub quarter : ℕ
  pub found : first_at day minutes ≡ Some quarter
  pub first : quarter ≤ last

-- wherever a quarter of the day starts at a time one is found, and none that starts then comes before it
abbrev pub StartIsFound : Type 0
StartIsFound =
    (day minutes quarter : ℕ) → quarter_exists day quarter ≡ true → (quarter_start day quarter).minutes ≡ minutes
    → FoundUpTo day minutes quarter
