-- `registration_damage::consumers_right` meets its contract: the test of each number of the range. Assumes nothing.
use Rattle.std.proofs.Common.{rules, tests, sym, ◌∙◌, arith}
use Rattle.std.proofs.lemmas.Iterator.{YieldsList-from_range}
use Rattle.std.proofs.lemmas.Iterator.Search.{all_from_yields_List}
use Rattle.registration.specs.Rules.{consumer_right}
use Rattle.lists.proofs.Chains.{every_range}
use Rattle.registration_damage.proofs.consumers_right.Goals as goal

pub returns : goal.returns
returns c =
    all_from_yields_List (consumer_right c.args.registration.now) _ _ _ c.all.ensures.ran (YieldsList-from_range 0 c.args.registration.now.consumers c.args.registration.now.consumers (cc) (omega arith)) (λ x b q k. search (rules, tests))
    ∙ sym (every_range (consumer_right c.args.registration.now) c.args.registration.now.consumers)
