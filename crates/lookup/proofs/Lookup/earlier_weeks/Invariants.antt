-- What the loop of `lookup::Lookup::earlier_weeks` keeps. Assumes nothing.
use Rattle.lookup.proofs.Passing.{Passing}
use Rattle.lookup.proofs.Lookup.earlier_weeks.Given as goal

abbrev pub invariant-loop-end : goal.invariant-loop-end
invariant-loop-end l = Passing l.self.entries.now l.self.asked l.point l.end l.weeks

abbrev pub decreases-loop-end : goal.decreases-loop-end
decreases-loop-end l = l.end
