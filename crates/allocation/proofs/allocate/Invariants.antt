-- What the loop of `allocation::allocate` keeps. Assumes nothing.
use Rattle.allocation.proofs.Rounded.{Rounded}
use Rattle.allocation.proofs.allocate.Given as goal

abbrev pub invariant-loop : goal.invariant-loop
invariant-loop l = Rounded l.registration l.rounds l.magnitudes l.allocated l.counter
