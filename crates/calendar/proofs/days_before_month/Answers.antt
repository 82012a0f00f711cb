-- `calendar::days_before_month` meets its contract: the sum is that of the months passed. Assumes nothing.
use Rattle.std.proofs.Common.{◌∙◌, ◌-◌, ◌^◌, ◌<◌, sum, map, refl, arith, rules}
use Rattle.std.specs.List.{range_with_len}
use Rattle.std.proofs.lemmas.Iterator.{YieldsList-from_range, YieldsList-from_map}
use Rattle.std.proofs.lemmas.Iterator.Consumers.{sum_from_yields_List, fits_from_yields_list}
use Rattle.calendar.specs.Civil.{month_length}
use Rattle.calendar.proofs.Lengths.{year_bounds, months_bound, months_summed}
use Rattle.calendar.proofs.days_before_month.Goals as goal

pub sum-requires-clause-fits : goal.sum-requires-clause-fits
sum-requires-clause-fits c =
    let year = c.args.year in
    let passed = c.args.month - 1 in
    let total : sum (map (month_length year) (range_with_len 1 passed)) < 2 ^ 64 = omega (arith, months_summed year passed, months_bound year passed (omega arith), year_bounds year) in
    fits_from_yields_list c.map.result (2 ^ 64)
    (YieldsList-from_map _ (month_length year) (YieldsList-from_range {s = c.map.result.iter} 1 c.args.month passed (cc) refl) c.map.ensures.closure (λ x r q k. search rules))
    total

pub returns : goal.returns
returns c =
    let year = c.args.year in
    let passed = c.args.month - 1 in
    let total =
    sum_from_yields_List c.map.result c.sum.result c.sum.ensures.ran
    (YieldsList-from_map _ (month_length year) (YieldsList-from_range {s = c.map.result.iter} 1 c.args.month passed (cc) refl) c.map.ensures.closure (λ x r q k. search rules))
    ∙ months_summed year passed in
    (total, omega (arith, months_bound year passed (omega arith), year_bounds year))
