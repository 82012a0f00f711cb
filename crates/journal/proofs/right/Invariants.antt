-- What the loop of `journal::right` keeps. Assumes nothing.
use Rattle.std.proofs.Common.{◌≡◌, drop}
use Rattle.journal.specs.Stored.{entries_in}
use Rattle.journal.specs.Damage.{entries_right}
use Rattle.journal.proofs.right.Given as goal

abbrev pub invariant-loop-stamp : goal.invariant-loop-stamp
invariant-loop-stamp l = entries_right l.points l.kept_day l.last 0 (entries_in l.entries) ≡ entries_right l.points l.kept_day l.last l.before (entries_in (drop l.stamp-index l.entries))
