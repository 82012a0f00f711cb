-- The value and the origin of a point, by what the code finds of its own quarter hour and of its earlier weeks; the value is never above the greatest
-- magnitude of a reading. Assumes nothing.
use Rattle.std.proofs.Common.{◌≡◌, ℕ, ◌<◌, ◌≤◌, true, false, List, [], ◌∷◌, map, length, sym, refl, ap, ◌∙◌, arith}
use Rattle.std.specs.Prelude.{Option, None, Some}
use Rattle.lists.proofs.Cases.{by_test}
use Rattle.journal.specs.Value.{Value}
use Rattle.journal.specs.declared.Entry.{Entry}
use Rattle.values.specs.Values.{magnitude_most}
use Rattle.lookup.specs.declared.Asked.{Asked}
use Rattle.lookup.specs.declared.PointValue.{PointValue}
use Rattle.lookup.specs.declared.weeks.Weeks.{Weeks as WeeksMet}
use Rattle.lookup.specs.declared.Origin.{Origin}
use Rattle.lookup.specs.declared.Origin.TheVariants.{Measured, Weeks}
use Rattle.lookup.specs.Mean.{sum_of, nearest}
use Rattle.lookup.specs.Substitutes.{existing, zero_by_status, zero_for_lack, mean_value, not_active, substitute, looked_up_from, four_weeks, looked_up}
use Rattle.lookup.specs.Working.{own_value, earlier_values, looked_up_in, value_for, Summed}
use Rattle.lookup.proofs.Nearest.{mean_by}
use Rattle.lookup.proofs.Means.{Small, mean_within}

-- a value with its origin
abbrev value_with : (magnitude : ℕ) → Origin → PointValue
value_with magnitude origin = record { magnitude = magnitude; origin = origin }

-- no value that exists
pub mean_of_none : (values : List ℕ) → length values ≡ 0 → mean_value values ≡ zero_for_lack
mean_of_none [] h = refl
mean_of_none (value ∷ values) h = absurd (omega arith)

-- one at least
pub mean_of_some : (values : List ℕ) → 1 ≤ length values → mean_value values ≡ value_with (nearest (sum_of values) (length values)) (Weeks (length values))
mean_of_some [] h = absurd (omega arith)
mean_of_some (value ∷ values) h = ap (λ (magnitude : ℕ). value_with magnitude (Weeks (length (value ∷ values)))) (mean_by (value ∷ values))

module _ (es : List Entry) (asked : Asked) (point status : ℕ) where
  -- the reading
  pub value_read : (stored : ℕ) → value_for (Some stored) ≡ own_value es asked point → value_with stored Measured ≡ looked_up_in es asked point status
  unfolding looked_up
  value_read stored e = rw (← e)

  module _ (e : value_for None ≡ own_value es asked point) where
    -- without a reading
    substituted : looked_up_in es asked point status ≡ substitute status (earlier_values es asked point)
    unfolding looked_up
    substituted = rw (← e)

    -- by a status above 0
    pub value_inactive : not_active status ≡ true → zero_by_status ≡ looked_up_in es asked point status
    value_inactive t = sym (substituted ∙ rw t)

    module _ (weeks : WeeksMet) (s : Summed (existing (earlier_values es asked point)) weeks) (f : not_active status ≡ false) where
      averaged : looked_up_in es asked point status ≡ mean_value (existing (earlier_values es asked point))
      averaged = substituted ∙ rw f

      -- by status 0, without a reading in the earlier weeks
      pub value_lacking : weeks.count ≡ 0 → zero_for_lack ≡ looked_up_in es asked point status
      value_lacking n = sym (averaged ∙ mean_of_none (existing (earlier_values es asked point)) (sym s.count ∙ n))

      -- and with one at least
      pub value_mean : (mean : ℕ) → 1 ≤ weeks.count → mean ≡ nearest weeks.sum weeks.count
          → value_with mean (Weeks weeks.count) ≡ looked_up_in es asked point status
      value_mean mean n m =
          rw (m, s.sum, s.count) (sym (averaged ∙ mean_of_some (existing (earlier_values es asked point)) (omega (arith, s.count))))

-- a value's magnitude and a substitute's are within, where the values are
pub from_within : (status : ℕ) (value : Option Value) (week : ℕ → Option Value) → Small value → ((n : ℕ) → n < 5 → Small (week n))
    → (looked_up_from status value (map week four_weeks)).magnitude ≤ magnitude_most
from_within status None week h small = by_test (not_active status) (λ t. rw t (omega arith)) (λ f. rw f (mean_within week small))
from_within status (Some value) week h small = h

-- no more values exist than there are
pub existing_few : (values : List (Option Value)) → length (existing values) ≤ length values
unfolding existing
existing_few [] = omega arith
existing_few (None ∷ values) = omega (arith, existing_few values)
existing_few (Some value ∷ values) = omega (arith, existing_few values)
