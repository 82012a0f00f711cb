-- What is looked up depends only on the status and on what is shown, as of its stamp, in the day's four weeks. Assumes nothing.
use Rattle.std.proofs.Common.{◌≡◌, ℕ, ◌≤◌, true, List, arith}
use Rattle.lists.proofs.Cases.{by_option}
use Rattle.calendar.specs.Quarters.{quarter_exists}
use Rattle.journal.specs.Order.{Reading}
use Rattle.journal.specs.Readings.{shown}
use Rattle.lookup.specs.Earlier.{Slot, earlier}
use Rattle.lookup.specs.Substitutes.{value_at, weeks_before, looked_up}
use Rattle.lookup.proofs.Earlier.{Within, itself_within, earlier_within}

-- two readings by day and quarter show the same as of T in every quarter hour of a day's four weeks
abbrev pub Alike : (f g : ℕ → ℕ → List Reading) → (day T : ℕ) → Type 0
Alike f g day T = (slot : Slot) → Within day slot → shown T (f slot.day slot.quarter) ≡ shown T (g slot.day slot.quarter)

-- a quarter hour that exists, as of T
module _ (day quarter T : ℕ) (exists : quarter_exists day quarter ≡ true) (f g : ℕ → ℕ → List Reading) (h : Alike f g day T) where
  -- one earlier week
  week_alike : (weeks : ℕ) → weeks ≤ 4 → value_at T f (earlier weeks day quarter) ≡ value_at T g (earlier weeks day quarter)
  week_alike weeks few =
      by_option (earlier weeks day quarter)
      (λ n. cc)
      (λ slot n. cc (h slot (earlier_within weeks day quarter few slot n)))

  -- the four earlier weeks
  weeks_alike : weeks_before f day quarter T ≡ weeks_before g day quarter T
  weeks_alike = rw (week_alike 1 (omega arith), week_alike 2 (omega arith), week_alike 3 (omega arith), week_alike 4 (omega arith))

  -- the value of a point and its origin
  pub looked_up_alike : (status : ℕ) → looked_up status f day quarter T ≡ looked_up status g day quarter T
  unfolding looked_up
  looked_up_alike status = cc (h _ (itself_within day quarter exists), weeks_alike)
