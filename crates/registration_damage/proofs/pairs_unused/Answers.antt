-- `registration_damage::pairs_unused` meets its contract: the test of the pairs after those that the consumer names. Assumes nothing.
use Rattle.std.proofs.Common.{rules, tests, ◌∙◌, eqb, ◌&&◌}
use Rattle.std.proofs.lemmas.Iterator.{YieldsList-from_slice}
use Rattle.std.proofs.lemmas.Iterator.Adapters.{YieldsList-from_skip}
use Rattle.std.proofs.lemmas.Iterator.Search.{all_from_yields_List}
use Rattle.registration.specs.declared.Pair.{Pair}
use Rattle.registration.proofs.Unused.{pairs_left}
use Rattle.registration_damage.proofs.pairs_unused.Goals as goal

pub returns : goal.returns
returns c =
    all_from_yields_List (λ (pair : Pair). eqb pair.source 0 && eqb pair.key 0) _ _ _ c.all.ensures.ran
    (YieldsList-from_skip c.from-count.result (YieldsList-from_slice c.pairs.result (cc)) (cc)) (λ x b q k. search (rules, tests))
    ∙ rw c.from-count.ensures (pairs_left c.args.registration.now c.args.consumer c.pairs.result (search rules) c.pairs.ensures)
