-- `registration_damage::codes_differ` meets its contract: that the first codes differ, by their places. Assumes nothing.
use Rattle.std.proofs.Common.{rules, ◌≡◌, ◌∙◌, arith, length}
use Rattle.registration.specs.Rules.{points}
use Rattle.lists.proofs.Chains.{differ_take}
use Rattle.registration_damage.proofs.codes_differ.Goals as goal

pub returns : goal.returns
returns c =
    let r = c.args.registration.now in
    let l : length r.codes ≡ 64 = search rules in
    c.differ.ensures ∙ rw c.points.ensures (differ_take r.codes (points r) (omega arith))
