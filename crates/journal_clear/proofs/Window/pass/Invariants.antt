-- What the loop of `journal_clear::Window::pass` keeps. Assumes nothing.
use Prim.Native.Nat.{◌/◌}
use lib.ListN.{length}
use Rattle.journal_clear.proofs.Passes.{Going}
use Rattle.journal_clear.proofs.Window.pass.Given as goal

abbrev pub invariant-loop-i : goal.invariant-loop-i
invariant-loop-i l = Going l.self.points l.self.lo l.self.stamp (length l.initial.numbers / 3) l.initial.numbers l.numbers l.seen l.next l.i
