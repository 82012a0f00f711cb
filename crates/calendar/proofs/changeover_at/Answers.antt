-- `calendar::changeover_at` meets its contract: its chain gives what the list has at the place. Assumes nothing.
use Rattle.std.proofs.Common.{◌≡◌, ◌∙◌, rules, arith, option_copied}
use Rattle.calendar.specs.Changeovers.{changeovers}
use Rattle.calendar.proofs.Entries.{given}
use Rattle.calendar.proofs.changeover_at.Goals as goal

pub returns : goal.returns
unfolding changeovers
returns c =
    let l = c.get.ensures.lookup in
    let m : c.map.result ≡ option_copied c.get.result = search rules in
    m ∙ given (option_copied c.get.result) c.args.place (search rules) (l.4 (omega arith) 0)
