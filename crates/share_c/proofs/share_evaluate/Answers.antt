-- `share_c::share_evaluate` meets its contract. Assumes nothing.
use Rattle.share_c.proofs.Numbers.{evaluate_numbers}
use Rattle.share_c.proofs.share_evaluate.Goals as goal

pub returns : goal.returns
returns c = evaluate_numbers _ _ _ _ _ c.answer.ensures c.unwrap_or.ensures _ _ _ _ _ c.evaluate-evaluated.ensures
