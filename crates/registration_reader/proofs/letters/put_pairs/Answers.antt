-- `registration_reader::letters::put_pairs` meets its contract: what is left to put gives what the whole gives. Assumes nothing.
use mathlib.Core.Path.{sym, ◌∙◌}
use native.Mathlib.Omega.{arith}
use lib.ListN.{length}
use Rattle.registration.specs.Rules.{source_in, key_in}
use Rattle.registration_text.specs.Reader.{with_count, with_pair}
use Rattle.registration_reader.proofs.Placing.{pairs_next, pairs_done}
use Rattle.registration_reader.proofs.letters.put_pairs.Goals as goal

pub loop-priority-preserved : goal.loop-priority-preserved
unfolding with_pair
loop-priority-preserved c =
    let at = c.loop-priority in
    let pairs = c.args.pairs.now in
    at.invariant ∙ pairs_next at.registration c.args.consumer (source_in pairs) (key_in pairs) at.priority (length pairs) (omega arith)

pub returns : goal.returns
unfolding with_count
returns c =
    let at = c.loop-priority in
    let pairs = c.args.pairs.now in
    sym (at.invariant ∙ pairs_done at.registration c.args.consumer (source_in pairs) (key_in pairs) at.priority (length pairs) (omega arith))
