-- What the loop of `lookup::Lookup::own_readings` keeps. Assumes nothing.
use Rattle.std.proofs.Common.{take}
use Rattle.journal.specs.Stored.{entries_in}
use Rattle.lookup.specs.Working.{OwnOf}
use Rattle.lookup.proofs.Lookup.own_readings.Given as goal

abbrev pub invariant-loop-numbers : goal.invariant-loop-numbers
invariant-loop-numbers l = OwnOf (entries_in (take l.numbers-index l.self.entries.now)) l.self.asked l.own
