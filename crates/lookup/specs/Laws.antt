-- What users of a look-up rely on, stated of its definitions; the proofs stand in proofs/Earlier.antt, proofs/Matched.antt, proofs/Laws.antt and
-- proofs/Origins.antt. Assumes nothing.
use Rattle.std.specs.Prelude.{◌≡◌, ℕ, ◌+◌, ◌-◌, ◌*◌, ◌<◌, ◌≤◌, true, cond, List, [], ◌∷◌, ◌++◌, length, nat_le, Option, None, Some}
use Rattle.calendar.specs.Dates.{last_day}
use Rattle.calendar.specs.Quarters.{quarters_of, quarter_exists}
use Rattle.journal.specs.Order.{Reading}
use Rattle.journal.specs.Readings.{shown}
use Rattle.lookup.specs.declared.Origin.TheVariants.{Measured, Weeks, ZeroByStatus, ZeroForLack}
use Rattle.lookup.specs.declared.PointValue.{PointValue}
use Rattle.wall_clock.specs.Starts.{quarter_start, first_at}
use Rattle.lookup.specs.Mean.{sum_of, mean_of}
use Rattle.lookup.specs.Earlier.{Slot, slot_on, earlier}
use Rattle.lookup.specs.Substitutes.{number_of_origin, looked_up}
use Rattle.lookup.specs.ByNumber.{NoneOfFive, looked_up_by_number}

-- the mean of values is the whole number nearest to their sum divided by how many they are, halves up: at most half a unit above it, and less than half a unit below it
abbrev pub MeanIsNearest : Type 0
MeanIsNearest =
    (values : List ℕ) → 1 ≤ length values
    → (2 * (length values * mean_of values) ≤ 2 * sum_of values + length values)
    × (2 * sum_of values < 2 * (length values * mean_of values) + length values)

-- ---- the same time of day

-- a quarter hour of the day so many weeks before: it exists, and starts by the wall clock when a quarter of the later day does
pub record StartsAlike (weeks day quarter : ℕ) (slot : Slot) : Type 0 where
  pub on : slot.day + 7 * weeks ≡ day
  pub exists : quarter_exists slot.day slot.quarter ≡ true
  pub start : (quarter_start slot.day slot.quarter).minutes ≡ (quarter_start day quarter).minutes

-- what is matched is such a quarter hour
abbrev pub MatchedStartsAlike : Type 0
MatchedStartsAlike =
    (weeks day quarter : ℕ) (slot : Slot) → earlier weeks day quarter ≡ Some slot → StartsAlike weeks day quarter slot

-- a quarter hour is matched so many weeks before, and it is none after a given one
pub record MatchedUpTo (weeks day quarter last : ℕ) : Type 0 where
  pub slot : Slot
  pub found : earlier weeks day quarter ≡ Some slot
  pub first : slot.quarter ≤ last

-- wherever a quarter of the earlier day starts alike one is matched, and none that starts alike comes before it
abbrev pub AlikeIsMatched : Type 0
AlikeIsMatched =
    (weeks day quarter other : ℕ) → 7 * weeks ≤ day → quarter_exists (day - 7 * weeks) other ≡ true
    → (quarter_start (day - 7 * weeks) other).minutes ≡ (quarter_start day quarter).minutes → MatchedUpTo weeks day quarter other

-- a quarter is matched, so many weeks before, with the quarter of this number
abbrev pub MatchesNumber : (weeks day quarter number : ℕ) → Type 0
MatchesNumber weeks day quarter number = earlier weeks day quarter ≡ Some (slot_on (day - 7 * weeks) number)

-- the match by quarter numbers, where a day and the earlier one have so many quarters and one of them at least has 96, as from one to four weeks before
-- one always has (`OneHas96`)
pub record MatchedNumbers (weeks day quarter quarters quarters_before : ℕ) : Type 0 where
  -- no clock changes on either: the same number
  pub neither : quarters ≡ 96 → quarters_before ≡ 96 → MatchesNumber weeks day quarter quarter
  -- of a day with 92 the first eight quarters keep their number in an ordinary week; from the ninth on, 03:00, it is four more
  pub short : quarters ≡ 92 → quarters_before ≡ 96 → quarter ≤ 8 → MatchesNumber weeks day quarter quarter
  pub short_on : quarters ≡ 92 → quarters_before ≡ 96 → 9 ≤ quarter → MatchesNumber weeks day quarter (quarter + 4)
  -- of a day with 100 the first twelve keep it, the first 02:00 to 02:45 among them; from the 13th on, the second 02:00, it is four less
  pub long : quarters ≡ 100 → quarters_before ≡ 96 → quarter ≤ 12 → MatchesNumber weeks day quarter quarter
  pub long_back : quarters ≡ 100 → quarters_before ≡ 96 → 13 ≤ quarter → MatchesNumber weeks day quarter (quarter - 4)
  -- on an earlier day with 92 the first eight have the same number; there is none from 02:00 to 02:45; from 03:00 on it is four less
  pub of_short : quarters ≡ 96 → quarters_before ≡ 92 → quarter ≤ 8 → MatchesNumber weeks day quarter quarter
  pub of_short_none : quarters ≡ 96 → quarters_before ≡ 92 → 9 ≤ quarter → quarter ≤ 12 → earlier weeks day quarter ≡ None
  pub of_short_back : quarters ≡ 96 → quarters_before ≡ 92 → 13 ≤ quarter → MatchesNumber weeks day quarter (quarter - 4)
  -- on an earlier day with 100 the first twelve have the same number, which is the first of its two for 02:00 to 02:45; from 03:00 on it is four more
  pub of_long : quarters ≡ 96 → quarters_before ≡ 100 → quarter ≤ 12 → MatchesNumber weeks day quarter quarter
  pub of_long_on : quarters ≡ 96 → quarters_before ≡ 100 → 13 ≤ quarter → MatchesNumber weeks day quarter (quarter + 4)

-- of every quarter that exists, where the day so many weeks before is not before day 0
abbrev pub MatchByNumbers : Type 0
MatchByNumbers =
    (weeks day quarter : ℕ) → quarter_exists day quarter ≡ true → 7 * weeks ≤ day
    → MatchedNumbers weeks day quarter (quarters_of day) (quarters_of (day - 7 * weeks))

-- of a day and the day one to four weeks before it one at least has 96 quarters: where the first has not, the other has
abbrev pub OneHas96 : Type 0
OneHas96 =
    (weeks day : ℕ) → 1 ≤ weeks → weeks ≤ 4 → 7 * weeks ≤ day → day ≤ last_day
    → (quarters_of day ≡ 96 → ⊥) → quarters_of (day - 7 * weeks) ≡ 96

-- of a week before day 0 there is no match
abbrev pub NoneBeforeDayZero : Type 0
NoneBeforeDayZero = (weeks day quarter : ℕ) → day < 7 * weeks → earlier weeks day quarter ≡ None

-- where clocks change on none of the five days a look-up gives what it gave by quarter numbers
abbrev pub UnchangedLookUp : Type 0
UnchangedLookUp =
    (status : ℕ) (readings : ℕ → ℕ → List Reading) (day quarter T : ℕ) → quarter_exists day quarter ≡ true → NoneOfFive day
    → looked_up status readings day quarter T ≡ looked_up_by_number status readings day quarter T

-- ---- what is shown

-- the magnitude of a reading that is shown: one number, or none where none is shown
abbrev pub magnitude_shown : Option Reading → List ℕ
magnitude_shown None = []
magnitude_shown (Some reading) = reading.value.magnitude ∷ []

-- the magnitude shown as of T in a quarter of a day; none where the day lacks it
abbrev pub magnitude_in : (readings : ℕ → ℕ → List Reading) → (day T : ℕ) → Option ℕ → List ℕ
magnitude_in readings day T None = []
magnitude_in readings day T (Some quarter) = magnitude_shown (shown T (readings day quarter))

-- the magnitude shown as of T so many days before a day, in the first quarter with the same wall-clock start; none where that day has no such quarter, or lies
-- before day 0. Written out by days, so that the law does not follow the definition of the match
abbrev pub shown_before : (days : ℕ) → (readings : ℕ → ℕ → List Reading) → (day quarter T : ℕ) → List ℕ
shown_before days readings day quarter T =
    cond (nat_le days day) (magnitude_in readings (day - days) T (first_at (day - days) (quarter_start day quarter).minutes)) []

-- the magnitudes that are shown 7, 14, 21 and 28 days before, one for each of these weeks that shows a reading
abbrev pub shown_in_weeks : (readings : ℕ → ℕ → List Reading) → (day quarter T : ℕ) → List ℕ
shown_in_weeks readings day quarter T =
    shown_before 7 readings day quarter T
    ++ (shown_before 14 readings day quarter T ++ (shown_before 21 readings day quarter T ++ shown_before 28 readings day quarter T))

-- ---- what is looked up

-- a reading that is shown is a point's value, measured, whatever its status
abbrev pub ReadingCounts : Type 0
ReadingCounts =
    (status : ℕ) (readings : ℕ → ℕ → List Reading) (day quarter T : ℕ) (reading : Reading) → shown T (readings day quarter) ≡ Some reading
    → looked_up status readings day quarter T ≡ record { magnitude = reading.value.magnitude; origin = Measured }

-- where none is shown, a status above 0 gives zero by status
abbrev pub MissingCountsZero : Type 0
MissingCountsZero =
    (status : ℕ) (readings : ℕ → ℕ → List Reading) (day quarter T : ℕ) → shown T (readings day quarter) ≡ None → 1 ≤ status
    → looked_up status readings day quarter T ≡ record { magnitude = 0; origin = ZeroByStatus }

-- status 0 gives the mean of those magnitudes that are shown 7, 14, 21 and 28 days before, with how many they are
abbrev pub MissingIsMean : Type 0
MissingIsMean =
    (readings : ℕ → ℕ → List Reading) (day quarter T : ℕ) → shown T (readings day quarter) ≡ None
    → let weeks = shown_in_weeks readings day quarter T in
    1 ≤ length weeks → looked_up 0 readings day quarter T ≡ record { magnitude = mean_of weeks; origin = Weeks (length weeks) }

-- and zero for lack of readings where none is shown in these weeks
abbrev pub MissingForLack : Type 0
MissingForLack =
    (readings : ℕ → ℕ → List Reading) (day quarter T : ℕ) → shown T (readings day quarter) ≡ None
    → length (shown_in_weeks readings day quarter T) ≡ 0 → looked_up 0 readings day quarter T ≡ record { magnitude = 0; origin = ZeroForLack }

-- ---- what an origin tells

-- what the number of each origin tells of a point's value, its status and what its readings show; there is no number above 6
pub record OriginTells (status : ℕ) (readings : ℕ → ℕ → List Reading) (day quarter T : ℕ) (value : PointValue) : Type 0 where
  pub most : number_of_origin value.origin ≤ 6
  pub measured : number_of_origin value.origin ≡ 0 → magnitude_shown (shown T (readings day quarter)) ≡ value.magnitude ∷ []
  pub missing : 1 ≤ number_of_origin value.origin → shown T (readings day quarter) ≡ None
  pub active : 1 ≤ number_of_origin value.origin → number_of_origin value.origin ≤ 4 → status ≡ 0
  pub weeks : 1 ≤ number_of_origin value.origin → number_of_origin value.origin ≤ 4 → number_of_origin value.origin ≡ length (shown_in_weeks readings day quarter T)
  pub mean : 1 ≤ number_of_origin value.origin → number_of_origin value.origin ≤ 4 → value.magnitude ≡ mean_of (shown_in_weeks readings day quarter T)
  pub inactive : number_of_origin value.origin ≡ 5 → 1 ≤ status
  pub lacking : number_of_origin value.origin ≡ 6 → (status ≡ 0) × (length (shown_in_weeks readings day quarter T) ≡ 0)
  pub zero : 5 ≤ number_of_origin value.origin → value.magnitude ≡ 0

-- of every point, quarter hour and stamp
abbrev pub OriginsTell : Type 0
OriginsTell =
    (status : ℕ) (readings : ℕ → ℕ → List Reading) (day quarter T : ℕ)
    → OriginTells status readings day quarter T (looked_up status readings day quarter T)
