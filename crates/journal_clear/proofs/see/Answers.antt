-- `journal_clear::see` meets its contract: the bit is set, the others stay. Assumes nothing.
use native.Mathlib.Omega.{arith}
use Rattle.journal_clear.proofs.Bits.{sees, shifted}
use Rattle.journal_clear.proofs.see.Goals as goal

pub returns : goal.returns
returns c = rw (shifted c.args.k) (sees _ _ (omega arith))
