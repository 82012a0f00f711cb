-- `registration_damage::codes_true` meets its contract: the test of the first codes, by their places. Assumes nothing.
use Rattle.std.proofs.Common.{rules, tests, ◌≡◌, ◌∙◌, sym, arith, take, length}
use Rattle.std.proofs.lemmas.Iterator.{YieldsList-from_slice}
use Rattle.std.proofs.lemmas.Iterator.Search.{all_from_yields_List}
use Rattle.registration.specs.Code.{is_code}
use Rattle.registration.specs.Rules.{points}
use Rattle.lists.proofs.Chains.{every_take}
use Rattle.registration_damage.proofs.codes_true.Goals as goal

pub returns : goal.returns
returns c =
    let r = c.args.registration.now in
    let l : length r.codes ≡ 64 = search rules in
    all_from_yields_List is_code _ _ _ c.all.ensures.ran (YieldsList-from_slice (take (points r) r.codes) cc) (λ x b q k. search (rules, tests))
    ∙ sym (every_take is_code r.codes 0 (points r) (omega arith))
