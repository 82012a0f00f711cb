-- `registration_reader::letters::read_pairs` meets its contract: the pairs read so far, before those that follow, are all the pairs. Assumes nothing.
use mathlib.Core.Path.{refl, sym, ◌∙◌}
use native.Mathlib.Nat.{sub-zero}
use native.Mathlib.Omega.{arith}
use borrow.Author.Rules.{rules}
use lib.ListN.{length-drop, length-set}
use Rattle.lines.proofs.Parts.{tail_part}
use Rattle.registration_reader.proofs.PairParts.{pair_none, pair_next, pairs_begin, pairs_end}
use Rattle.registration_reader.proofs.letters.read_pairs.Goals as goal

pub loop-pair-init : goal.loop-pair-init
loop-pair-init c = (search rules, omega arith, rw sub-zero (pairs_begin _ _))

pub returns-in_err-source-clause-numbers : goal.returns-in_err-source-clause-numbers
returns-in_err-source-clause-numbers c =
    let at = c.loop-pair in
    rw c.from_residual.ensures (sym at.invariant.2 ∙ pair_none at.rest.now c.args.count at.pair-index (omega arith) _ (sym c.read_columns.ensures ∙ c.in_err-source.was))

pub loop-pair-preserved : goal.loop-pair-preserved
loop-pair-preserved c =
    let at = c.loop-pair in (
      length-set at.pair-items at.pair-index _ ∙ at.invariant.0,
      rw tail_part (omega (arith, length-drop 10 at.rest.now)),
      rw tail_part (sym (pair_next at.pair-items at.pair-index _ (omega arith) at.rest.now c.in_ok-source.field-0 c.args.count (omega arith) (sym c.read_columns.ensures ∙ c.in_ok-source.was) refl) ∙ at.invariant.2),
    )

pub returns-clause-numbers : goal.returns-clause-numbers
returns-clause-numbers c = let at = c.loop-pair in sym at.invariant.2 ∙ pairs_end at.pair-items _ at.rest.now c.args.count at.pair-index (omega arith) at.invariant.0
