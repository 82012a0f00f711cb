-- Years in closed form: 1461 days are four years throughout the calendar. Assumes nothing.
use Prim.Native.Nat.{ℕ, ◌+◌, ◌*◌, ◌/◌, ◌≤◌}
use mathlib.Core.Path.{◌≡◌, refl}
use mathlib.Core.Bool.{true}
use native.Mathlib.Omega.{arith}
use native.Mathlib.Numerals.{add-one}
use borrow.Author.Tests.{eqb-true}
use lib.Dec.{eqb}
use Rattle.lists.specs.Below.{every}
use Rattle.lists.proofs.Below.{every_at}
use Rattle.calendar.specs.Civil.{year_length, days_before_year}
use Rattle.calendar.specs.Dates.{last_day, year_of}
use Rattle.calendar.proofs.Sequences.{Between}
use Rattle.calendar.proofs.Places.{year_is}

-- one test, over 0 to 76 years
four_years : every (λ n. eqb (days_before_year n) ((n * 1461 + 3) / 4)) 77 ≡ true
unfolding every days_before_year year_length
four_years = refl

pub years_closed : (n : ℕ) → n ≤ 76 → days_before_year n ≡ (n * 1461 + 3) / 4
years_closed n h = eqb-true _ _ (every_at (λ k. eqb (days_before_year k) ((k * 1461 + 3) / 4)) 77 n four_years (omega arith))

-- the year of a day
module _ (day : ℕ) (h : day ≤ last_day) where
  abbrev passed : ℕ
  passed = day * 4 / 1461

  among : Between days_before_year 75 day passed
  among =
      record {
        within = omega arith;
        from = rw (years_closed passed (omega arith)) (omega arith);
        below = rw (← add-one passed, years_closed (passed + 1) (omega arith)) (omega arith);
      }

  pub year_closed : 2024 + passed ≡ year_of day
  year_closed = rw (year_is day passed among)
