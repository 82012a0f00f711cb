-- `share_c::share_clear` meets its contract. Assumes nothing.
use Rattle.share_c.proofs.Numbers.{clear_numbers}
use Rattle.share_c.proofs.share_clear.Goals as goal

pub returns : goal.returns
returns c = clear_numbers _ _ _ _ _ c.answer.ensures c.unwrap_or.ensures _ _ _ _ c.clear-cleared.ensures
