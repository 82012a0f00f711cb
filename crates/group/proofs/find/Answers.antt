-- `group::find` meets its contract: the codes searched are the group's. Assumes nothing.
use Rattle.std.proofs.Common.{rules, ◌≡◌, ◌∙◌, arith, length}
use Rattle.lists.proofs.Chains.{table_take}
use Rattle.registration.specs.Rules.{points}
use Rattle.points.proofs.Search.{position_is}
use Rattle.points.specs.Points.{codes_of}
use Rattle.group.proofs.find.Goals as goal

pub returns : goal.returns
returns c =
    let r = c.args.registration.now in
    let l : length r.codes ≡ 64 = search rules in
    c.find.ensures ∙ rw (c.points.ensures, ← (table_take r.codes (points r) (omega arith))) (position_is c.args.code (codes_of r))
