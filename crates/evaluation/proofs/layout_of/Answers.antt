-- `evaluation::layout_of` meets its contract: each part begins where the one before it ends, and the size is where the last one ends. Assumes nothing.
use Rattle.std.proofs.Common.{◌≡◌, ◌∙◌, length, rules, arith}
use Rattle.registration.specs.Pairs.{pairs_in}
use Rattle.evaluation.proofs.Parts.{sum_take}
use Rattle.evaluation.proofs.layout_of.Goals as goal

pub returns : goal.returns
returns c =
    let r = c.args.registration.now in
    let size : length r.counts ≡ 64 = search rules in
    let all : c.pairs-withdrawals.result ≡ pairs_in r = c.pairs-withdrawals.ensures.0 ∙ sum_take r.counts r.consumers (omega arith) in
    record { withdrawals = omega arith; supplies = omega arith; origins = omega arith; size = omega arith }
