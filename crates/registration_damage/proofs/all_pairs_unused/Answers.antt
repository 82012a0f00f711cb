-- `registration_damage::all_pairs_unused` meets its contract: the test of each number of the range. Assumes nothing.
use Rattle.std.proofs.Common.{rules, tests, sym, ◌∙◌, arith}
use Rattle.std.proofs.lemmas.Iterator.{YieldsList-from_range}
use Rattle.std.proofs.lemmas.Iterator.Search.{all_from_yields_List}
use Rattle.registration.specs.Damage.{pairs_unused}
use Rattle.lists.proofs.Chains.{every_range}
use Rattle.registration_damage.proofs.all_pairs_unused.Goals as goal

pub returns : goal.returns
returns c =
    all_from_yields_List (pairs_unused c.args.registration.now) _ _ _ c.all.ensures.ran (YieldsList-from_range 0 64 64 (cc) (omega arith)) (λ x b q k. search (rules, tests))
    ∙ sym (every_range (pairs_unused c.args.registration.now) 64)
