-- `calendar::changeovers_of` meets its contract: the two entries are those of March and October. Assumes nothing.
use Rattle.std.proofs.Common.{◌∙◌, arith, ◌*◌, ◌+◌}
use Rattle.calendar.specs.Changeovers.{changeovers}
use Rattle.calendar.proofs.Entries.{year_entry}
use Rattle.calendar.proofs.changeovers_of.Goals as goal

pub returns : goal.returns
unfolding changeovers
returns c =
    let passed = c.years_passed.result in
    let y = c.years_passed.ensures.0 in (
      c.from-march.ensures ∙ year_entry c.args.day passed (2 * passed) 0 (omega arith) y (omega arith) (omega arith),
      c.from-october.ensures ∙ year_entry c.args.day passed (2 * passed + 1) 1 (omega arith) y (omega arith) (omega arith),
    )
