-- `registration_damage::statuses_right` meets its contract: the test of the first statuses, by their places. Assumes nothing.
use Rattle.std.proofs.Common.{rules, tests, ◌≡◌, ◌∙◌, sym, arith, take, length, leb}
use Rattle.std.proofs.lemmas.Iterator.{YieldsList-from_slice}
use Rattle.std.proofs.lemmas.Iterator.Search.{all_from_yields_List}
use Rattle.registration.specs.Rules.{points}
use Rattle.lists.proofs.Chains.{every_take}
use Rattle.registration_damage.proofs.statuses_right.Goals as goal

pub returns : goal.returns
returns c =
    let r = c.args.registration.now in
    let l : length r.statuses ≡ 64 = search rules in
    all_from_yields_List (λ status. leb status 3) _ _ _ c.all.ensures.ran (YieldsList-from_slice (take (points r) r.statuses) cc) (λ x b q k. search (rules, tests))
    ∙ sym (every_take (λ status. leb status 3) r.statuses 0 (points r) (omega arith))
