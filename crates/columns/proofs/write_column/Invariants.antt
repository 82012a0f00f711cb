-- What the loop of `columns::write_column` keeps.
use mathlib.Core.Path.{◌≡◌}
use mathlib.Core.List.{◌++◌}
use Prim.Native.Nat.{◌/◌}
use lib.ListN.{length, drop}
use Rattle.columns.specs.Column.{lead_of}
use Rattle.columns.proofs.write_column.Given as goal

abbrev pub invariant-loop-i : goal.invariant-loop-i
invariant-loop-i l = lead_of l.minus (length l.before) (l.value / 10) ≡ lead_of l.due l.i l.n ++ drop l.i l.before
