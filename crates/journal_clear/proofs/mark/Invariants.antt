-- What the loop of `journal_clear::mark` keeps. Assumes nothing.
use mathlib.Core.Path.{◌≡◌}
use Prim.Native.Nat.{◌-◌, ◌/◌}
use lib.ListN.{length}
use Rattle.journal.specs.Stored.{entries}
use Rattle.journal_clear.specs.Marks.{superseded_below, marked}
use Rattle.journal_clear.proofs.Windows.{no_place, reach, IsLow}
use Rattle.journal_clear.proofs.mark.Given as goal

abbrev pub invariant-loop-next : goal.invariant-loop-next
invariant-loop-next l =
    let count = length l.initial.numbers / 3 in
    let first = entries count l.initial.numbers in
    IsLow l.next × (length l.numbers ≡ length l.initial.numbers) × (entries count l.numbers ≡ marked (superseded_below l.points (reach l.next) l.stamp first) first)

abbrev pub decreases-loop-next : goal.decreases-loop-next
decreases-loop-next l = no_place - reach l.next
