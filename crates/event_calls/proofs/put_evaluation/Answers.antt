-- `event_calls::put_evaluation` meets its contract. Assumes nothing.
use Rattle.std.proofs.Common.{sym, ◌∙◌, arith}
use Rattle.std.specs.Result.{result_unwrap_or}
use Rattle.answers.specs.Numbers.{answer_of}
use Rattle.event_writer.proofs.Lengths.{length_of_rounds}
use Rattle.event_calls.proofs.Sizes.{evaluated_small}
use Rattle.event_calls.proofs.Replying.{replied_refused, replied_accepted}
use Rattle.event_calls.proofs.put_evaluation.Goals as goal

pub put_result-requires : goal.put_result-requires
put_result-requires c =
    let ok = sym c.is_ok.ensures.value ∙ c.if-is_ok.true in
    let k = evaluated_small _ _ _ _ _ _ _ _ c.evaluation-rounds.ensures ok in
    let put = c.put_rounds.ensures in
    let line = length_of_rounds (answer_of c.evaluation-rounds.result) (result_unwrap_or c.evaluation-rounds.result 0) in
    record {
      consumers_bound = k.points;
      by_index = k.counts;
      registration_in_bounds = (omega (arith, k.size, c.evaluation-rounds.auto.numbers), omega (arith, k.bytes, put.put.end, put.same_length, line, c.requires));
    }

pub returns-then-is_ok : goal.returns-then-is_ok
returns-then-is_ok c =
    replied_accepted _ _ c.args.asked _ _ c.evaluation-rounds.ensures (sym c.is_ok.ensures.value ∙ c.if-is_ok.true) c.put_rounds.ensures c.put_result.ensures

pub returns-else-is_ok : goal.returns-else-is_ok
returns-else-is_ok c =
    replied_refused _ _ c.args.asked _ _ c.evaluation-rounds.ensures (sym c.is_ok.ensures.value ∙ c.if-is_ok.false) c.put_rounds.ensures
