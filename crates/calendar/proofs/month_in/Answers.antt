-- `calendar::month_in` meets its contract: the month that ends after the day, where those before it did not, is its month. Assumes nothing.
use Prim.Native.Nat.{suc, ◌+◌, ◌-◌}
use Rattle.std.proofs.Common.{◌≡◌, sym, ◌∙◌}
use native.Mathlib.Omega.{arith}
use Rattle.calendar.specs.Civil.{days_before_month, month_length}
use Rattle.calendar.proofs.Lengths.{all_months, before_first_month, before_next_month, month_bounds, year_bounds, months_bound}
use Rattle.calendar.proofs.Places.{month_is, before_month_is}
use Rattle.calendar.proofs.Sequences.{Between}
use Rattle.calendar.proofs.month_in.Goals as goal
use Rattle.calendar.proofs.month_in.Goals.{After-month_length}

pub loop-month-init : goal.loop-month-init
loop-month-init c = (sym (before_first_month c.args.year), omega arith)

-- the days before the month after this one
next : (c : After-month_length) → c.loop-month.passed + c.month_length.result ≡ days_before_month c.args.year c.loop-month.month
next c =
    let year = c.args.year in
    let month = c.loop-month.month in
    let same : suc (month - 1) ≡ month = omega arith in
    let step : days_before_month year month ≡ days_before_month year (month - 1) + month_length year month = rw same at (before_next_month year (month - 1)) in
    omega (arith, c.loop-month.invariant.0, c.month_length.ensures)

pub overflow_add-next : goal.overflow_add-next
overflow_add-next c = omega (arith, month_bounds c.args.year c.loop-month.month, year_bounds c.args.year)

pub returns-then-before-next : goal.returns-then-before-next
returns-then-before-next c =
    let year = c.args.year in
    let month = c.loop-month.month in
    let at = (goal.at.returns-then-before-next c).After-month_length in
    let same : suc (month - 1) ≡ month = omega arith in
    let w : Between (days_before_month year) 11 c.args.before (month - 1) =
    record { within = omega arith; from = omega (arith, c.loop-month.invariant.0); below = rw same (omega (arith, next at)) } in
    (omega (arith, month_is year c.args.before (month - 1) w), c.loop-month.invariant.0 ∙ sym (before_month_is year c.args.before (month - 1) w))

pub loop-month-preserved : goal.loop-month-preserved
loop-month-preserved c =
    let month = c.loop-month.month in
    let at = (goal.at.loop-month-preserved c).After-month_length in
    let same : month + 1 - 1 ≡ month = omega arith in
    (rw same (next at), omega arith)

pub returns : goal.returns
returns c =
    let year = c.args.year in
    let last : c.loop-month.month ≡ 12 = omega arith in
    let passed : c.loop-month.passed ≡ days_before_month year 11 = c.loop-month.invariant.0 ∙ rw last in
    let w : Between (days_before_month year) 11 c.args.before 11 =
    record { within = omega arith; from = omega arith; below = omega (arith, all_months year) } in
    (sym (month_is year c.args.before 11 w), passed ∙ sym (before_month_is year c.args.before 11 w))
