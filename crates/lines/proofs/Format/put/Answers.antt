-- `lines::Format::put` meets its contract: the letter, the columns and LF are put one after the other.
use native.Mathlib.Omega.{arith}
use Rattle.columns.proofs.Laws.{length_columns}
use Rattle.lists.proofs.Adding.{added_then}
use Rattle.lines.proofs.Format.put.Goals as goal

pub put-requires-2 : goal.put-requires-2
put-requires-2 g c = omega (arith, length_columns)

pub returns : goal.returns
returns g c = added_then c.put.ensures (added_then c.put_columns.ensures c.put-2.ensures)
