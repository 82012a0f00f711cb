-- What the loop of `lookup::Lookup::near_end` keeps. Assumes nothing.
use Rattle.std.proofs.Common.{◌≡◌}
use Rattle.lookup.specs.Working.{near_end}
use Rattle.lookup.proofs.Lookup.near_end.Given as goal

abbrev pub invariant-loop-i : goal.invariant-loop-i
invariant-loop-i l = near_end l.first l.self.entries.now l.count ≡ near_end l.first l.self.entries.now l.i
