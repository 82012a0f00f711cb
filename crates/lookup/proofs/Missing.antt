-- What stands in for a missing reading: the values of the four earlier weeks that exist, by the days before. Assumes nothing.
use Rattle.std.proofs.Common.{◌≡◌, ℕ, ◌-◌, ◌*◌, leb, List, ◌∷◌, ◌++◌, refl, append-nil}
use Rattle.std.specs.Prelude.{Option, None, Some}
use Rattle.std.specs.Option.{option_map}
use Rattle.lists.proofs.Cases.{by_test, by_option}
use Rattle.journal.specs.Value.{Value}
use Rattle.journal.specs.Order.{Reading}
use Rattle.journal.specs.Readings.{shown}
use Rattle.wall_clock.specs.Starts.{quarter_start, first_at}
use Rattle.lookup.specs.Earlier.{week_days, slot_on, earlier}
use Rattle.lookup.specs.Substitutes.{existing, value_at, weeks_before}
use Rattle.lookup.specs.Laws.{magnitude_in, shown_before, shown_in_weeks}

module _ (readings : ℕ → ℕ → List Reading) (day quarter T : ℕ) where
  -- an earlier week's value, before others, among those that exist
  week_exists : (weeks days : ℕ) (values : List (Option Value)) → week_days * weeks ≡ days
      → existing (value_at T readings (earlier weeks day quarter) ∷ values) ≡ shown_before days readings day quarter T ++ existing values
  unfolding existing earlier
  week_exists weeks days values e =
      rw e
      (by_test (leb days day)
      (λ t. rw t (in_quarter (day - days) (first_at (day - days) (quarter_start day quarter).minutes)))
      (λ f. rw f))
    where
      in_quarter : (on : ℕ) (found : Option ℕ)
          → existing (value_at T readings (option_map (slot_on on) found) ∷ values) ≡ magnitude_in readings on T found ++ existing values
      in_quarter on None = refl
      in_quarter on (Some number) = by_option (shown T (readings on number)) (λ n. rw n) (λ reading n. rw n)

  -- those of the four weeks
  pub weeks_exist : existing (weeks_before readings day quarter T) ≡ shown_in_weeks readings day quarter T
  unfolding existing
  weeks_exist = rw (week_exists 1 7 _ refl, week_exists 2 14 _ refl, week_exists 3 21 _ refl, week_exists 4 28 _ refl, append-nil)
