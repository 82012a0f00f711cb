-- `registration_reader::letters::read_consumer` meets its contract: its pairs are those of the line. Assumes nothing.
use Prim.Native.Nat.{◌≤◌}
use mathlib.Core.Path.{◌≡◌, sym, ◌∙◌}
use native.Mathlib.Omega.{arith}
use mathlib.Core.Bool.{false, not}
use borrow.Author.Rules.{rules}
use Rattle.std.specs.Prelude.{Some}
use Rattle.std.proofs.lemmas.Grind.{common_steps}
use lib.ListN.{length, get_or}
use Rattle.std.specs.Prelude.{Ok}
use Rattle.answers.specs.declared.Refusal.TheVariants.{ProducerOrKeyWrong}
use Rattle.answers.specs.Numbers.{Verdict}
use Rattle.answers.specs.Order.{refuse◌if◌else◌}
use Rattle.answers.proofs.Refusals.{refusals}
use Rattle.registration.specs.Rules.{source_in, key_in, count_right, pairs_right}
use Rattle.registration_text.specs.Lines.{pairs_from}
use Rattle.registration_text.specs.Reader.{fixed_in, rest_in, verdict_o, nth_source, nth_key}
use Rattle.registration_reader.proofs.PairParts.{pairs_fit, taken_right, taken_placed}
use Rattle.registration_reader.proofs.letters.read_consumer.Goals as goal
use Rattle.registration_reader.proofs.letters.read_consumer.Goals.{In_ok-code, After-pairs_right}

-- the numbers of the line's fixed part
fixed_is : (c : In_ok-code) → fixed_in c.args.line.now ≡ Some c.in_ok-code.field-0
fixed_is c = grind (arith, common_steps)

few : (c : After-pairs_right) → get_or c.in_ok-code.field-0 2 0 ≤ length c.in_ok-pairs.pairs
few c = search rules

rest_is : (c : After-pairs_right) → let count = get_or c.in_ok-code.field-0 2 0 in let pairs = c.in_ok-pairs.pairs in
    rest_in count c.args.line.now ≡ Some (pairs_from (source_in pairs) (key_in pairs) 0 count)
rest_is c = grind (arith, common_steps)

right_is : (c : After-pairs_right) → let count = get_or c.in_ok-code.field-0 2 0 in let rest = rest_in count c.args.line.now in
    c.pairs_right.result ≡ pairs_right c.args.registration.now.producers count (nth_source rest) (nth_key rest)
right_is c =
    c.pairs_right.ensures ∙ taken_right c.in_ok-pairs.pairs (get_or c.in_ok-code.field-0 2 0) (few c) _ (rest_is c) c.args.registration.now.producers

-- the line's verdict once its pairs have been tested
verdict_is : (c : After-pairs_right) (told : Verdict) → told ≡ refuse ProducerOrKeyWrong if not c.pairs_right.result else Ok tt
    → told ≡ verdict_o c.args.registration.now.producers (Some c.in_ok-code.field-0) (rest_in (get_or c.in_ok-code.field-0 2 0) c.args.line.now)
unfolding verdict_o
verdict_is c told e =
    let right = right_is c in
    let rest = rest_is c in
    grind (arith, refusals)

pub returns-then-not-contains-clause-verdict : goal.returns-then-not-contains-clause-verdict
unfolding verdict_o
returns-then-not-contains-clause-verdict c =
    let outside : count_right (get_or c.in_ok-code.field-0 2 0) ≡ false = grind (arith, common_steps) in
    rw (fixed_is (goal.at.returns-then-not-contains-clause-verdict c).In_ok-code) (search refusals)

pub returns-then-not-pairs_right-clause-verdict : goal.returns-then-not-pairs_right-clause-verdict
returns-then-not-pairs_right-clause-verdict c =
    rw (fixed_is (goal.at.returns-then-not-pairs_right-clause-verdict c).In_ok-code)
    (verdict_is (goal.at.returns-then-not-pairs_right-clause-verdict c).After-pairs_right _ (search refusals))

pub put_pairs-requires-clause-by_index : goal.put_pairs-requires-clause-by_index
put_pairs-requires-clause-by_index c = pairs_fit c.args.registration.now.producers _ _ _ (sym c.pairs_right.ensures ∙ c.if-not-pairs_right.false) (omega (arith, c.requires))

pub returns-clause-verdict : goal.returns-clause-verdict
returns-clause-verdict c =
    rw (fixed_is (goal.at.returns-clause-verdict c).In_ok-code) (verdict_is (goal.at.returns-clause-verdict c).After-pairs_right _ (search refusals))

pub returns-clause-stored : goal.returns-clause-stored
returns-clause-stored c =
    let at = (goal.at.returns-clause-stored c).After-pairs_right in
    rw (fixed_is (goal.at.returns-clause-stored c).In_ok-code)
    (c.put_pairs.ensures
    ∙ taken_placed c.in_ok-pairs.pairs (get_or c.in_ok-code.field-0 2 0) (few at) _ (rest_is at) c.put_point.new.registration c.args.consumer
    ∙ rw c.put_point.ensures)
