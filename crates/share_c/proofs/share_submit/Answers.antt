-- `share_c::share_submit` meets its contract. Assumes nothing.
use Rattle.share_c.proofs.Numbers.{submit_numbers}
use Rattle.share_c.proofs.share_submit.Goals as goal

pub returns : goal.returns
returns c = submit_numbers _ _ _ _ _ c.answer.ensures c.unwrap_or.ensures _ _ _ _ c.submit-submitted.ensures
