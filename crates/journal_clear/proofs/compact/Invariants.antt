-- What the loop of `journal_clear::compact` keeps. Assumes nothing.
use Prim.Native.Nat.{◌/◌}
use lib.ListN.{length}
use Rattle.journal_clear.proofs.Moves.{Moving}
use Rattle.journal_clear.proofs.compact.Given as goal

abbrev pub invariant-loop-i : goal.invariant-loop-i
invariant-loop-i l = Moving l.day (length l.initial.numbers / 3) l.initial.numbers l.numbers l.moved l.i
