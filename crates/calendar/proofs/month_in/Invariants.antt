-- What the loop of `calendar::month_in` keeps: the days of the months passed, none of which ends after the day. Assumes nothing.
use Rattle.std.proofs.Common.{◌≡◌, ◌-◌, ◌≤◌}
use Rattle.calendar.specs.Civil.{days_before_month}
use Rattle.calendar.proofs.month_in.Given as goal

abbrev pub invariant-loop-month : goal.invariant-loop-month
invariant-loop-month l = (l.passed ≡ days_before_month l.year (l.month - 1)) × (l.passed ≤ l.before)
