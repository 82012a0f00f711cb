-- The value of a point in a quarter hour and its origin, as one answer: its reading, or what stands in for a missing one. Assumes nothing.
use Rattle.std.specs.Prelude.{ℕ, Bool, cond, List, [], ◌∷◌, map, length, nat_lt, Option, None, Some}
use Rattle.journal.specs.Value.{Value}
use Rattle.journal.specs.Order.{Reading}
use Rattle.journal.specs.Readings.{shown, value_shown}
use Rattle.lookup.specs.declared.Origin.{Origin}
use Rattle.lookup.specs.declared.Origin.TheVariants.{Measured, Weeks, ZeroByStatus, ZeroForLack}
use Rattle.lookup.specs.declared.PointValue.{PointValue}
use Rattle.lookup.specs.Mean.{mean_of}
use Rattle.lookup.specs.Earlier.{Slot, earlier}

-- the number of an origin in a published result: 0 for a value that was measured, 1 to 4 for the mean of so many weeks, 5 for zero by status, and 6 for
-- zero for lack of readings
abbrev pub number_of_origin : Origin → ℕ
number_of_origin Measured = 0
number_of_origin (Weeks weeks) = weeks
number_of_origin ZeroByStatus = 5
number_of_origin ZeroForLack = 6

-- a value that was measured
abbrev pub measured_value : Value → PointValue
measured_value value = record { magnitude = value.magnitude; origin = Measured }

-- zero by status
abbrev pub zero_by_status : PointValue
zero_by_status = record { magnitude = 0; origin = ZeroByStatus }

-- zero for lack of readings
abbrev pub zero_for_lack : PointValue
zero_for_lack = record { magnitude = 0; origin = ZeroForLack }

-- the magnitudes of the values that exist
unfoldable pub existing : List (Option Value) → List ℕ
existing [] = []
existing (None ∷ values) = existing values
existing (Some value ∷ values) = value.magnitude ∷ existing values

-- the mean of the values that exist, whose origin is how many they are; zero for lack of readings if none exists
abbrev pub mean_value : List ℕ → PointValue
mean_value [] = zero_for_lack
mean_value (value ∷ values) = record { magnitude = mean_of (value ∷ values); origin = Weeks (length (value ∷ values)) }

-- whether a point with this status is not active: the status is above 0
abbrev pub not_active : ℕ → Bool
not_active status = nat_lt 0 status

-- the substitute: with status above 0 it is zero, with status 0 the mean of the earlier weeks' values that exist
abbrev pub substitute : (status : ℕ) → List (Option Value) → PointValue
substitute status weeks = cond (not_active status) zero_by_status (mean_value (existing weeks))

-- the reading's value, or the substitute where there is no reading
abbrev pub looked_up_from : (status : ℕ) → Option Value → List (Option Value) → PointValue
looked_up_from status (Some value) weeks = measured_value value
looked_up_from status None weeks = substitute status weeks

-- what is shown as of T in a quarter hour, if there is such a quarter hour and such a reading
abbrev pub value_at : (T : ℕ) → (readings : ℕ → ℕ → List Reading) → Option Slot → Option Value
value_at T readings None = None
value_at T readings (Some slot) = value_shown (shown T (readings slot.day slot.quarter))

-- the four earlier weeks
abbrev pub four_weeks : List ℕ
four_weeks = 1 ∷ 2 ∷ 3 ∷ 4 ∷ []

-- the values of the four earlier weeks, as of T
abbrev pub weeks_before : (readings : ℕ → ℕ → List Reading) → (day quarter T : ℕ) → List (Option Value)
weeks_before readings day quarter T = map (λ weeks. value_at T readings (earlier weeks day quarter)) four_weeks

-- the value and the origin of a point with this status and these readings by day and quarter
unfoldable pub looked_up : (status : ℕ) → (readings : ℕ → ℕ → List Reading) → (day quarter T : ℕ) → PointValue
looked_up status readings day quarter T =
    looked_up_from status (value_shown (shown T (readings day quarter))) (weeks_before readings day quarter T)
