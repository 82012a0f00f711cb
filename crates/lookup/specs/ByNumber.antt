-- The look-up of earlier releases, which took the same quarter number in an earlier week. It serves the law alone that nothing alters
-- where clocks do not change. Assumes nothing.
use Rattle.std.specs.Prelude.{ℕ, ◌-◌, ◌*◌, ◌≤◌, ◌<◌, ◌≡◌, cond, List, map, nat_le, Option, None, Some}
use Rattle.calendar.specs.Changeovers.{changeover_count, changeover_day}
use Rattle.journal.specs.Value.{Value}
use Rattle.journal.specs.Order.{Reading}
use Rattle.journal.specs.Readings.{shown, value_shown}
use Rattle.lookup.specs.declared.PointValue.{PointValue}
use Rattle.lookup.specs.Earlier.{Slot, slot_on}
use Rattle.lookup.specs.Substitutes.{looked_up_from, value_at, four_weeks}

-- the quarter hour of the same number so many weeks before; none lies before day 0
unfoldable pub same_number : (weeks day quarter : ℕ) → Option Slot
same_number weeks day quarter = cond (nat_le (7 * weeks) day) (Some (slot_on (day - 7 * weeks) quarter)) None

-- the values of the four earlier weeks by it, as of T
abbrev pub weeks_by_number : (readings : ℕ → ℕ → List Reading) → (day quarter T : ℕ) → List (Option Value)
weeks_by_number readings day quarter T = map (λ weeks. value_at T readings (same_number weeks day quarter)) four_weeks

-- the value and the origin of a point by it
unfoldable pub looked_up_by_number : (status : ℕ) → (readings : ℕ → ℕ → List Reading) → (day quarter T : ℕ) → PointValue
looked_up_by_number status readings day quarter T =
    looked_up_from status (value_shown (shown T (readings day quarter))) (weeks_by_number readings day quarter T)

-- a day on which no clock changes: it stands at no place of the table of changeover days
abbrev pub NoChangeover : ℕ → Type 0
NoChangeover day = (place : ℕ) → place < changeover_count → changeover_day place ≡ day → ⊥

-- of the five days, a day and those 7, 14, 21 and 28 days before it, as far as the calendar has them, clocks change on none
abbrev pub NoneOfFive : (day : ℕ) → Type 0
NoneOfFive day = (weeks : ℕ) → weeks ≤ 4 → 7 * weeks ≤ day → NoChangeover (day - 7 * weeks)
