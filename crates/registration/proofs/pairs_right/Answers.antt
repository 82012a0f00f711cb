-- `registration::pairs_right` meets its contract: the test of each pair with those before it. Assumes nothing.
use Rattle.std.proofs.Common.{rules, tests, ◌∙◌}
use Rattle.std.proofs.lemmas.Iterator.{YieldsList-from_slice}
use Rattle.std.proofs.lemmas.Iterator.Consumers.{YieldsList-from_enumerate}
use Rattle.std.proofs.lemmas.Iterator.Search.{all_from_yields_List}
use Rattle.registration.proofs.Places.{pair_next, pairs_in_turn}
use Rattle.registration.proofs.pairs_right.Goals as goal

pub returns : goal.returns
returns c =
    all_from_yields_List (pair_next c.args.producers c.args.pairs.now) _ _ _ c.all.ensures.ran (YieldsList-from_enumerate (YieldsList-from_slice c.args.pairs.now (cc)) (cc)) (λ x b q k. search (rules, tests))
    ∙ pairs_in_turn c.args.producers c.args.pairs.now
