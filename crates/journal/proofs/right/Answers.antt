-- `journal::right` meets its contract: the tests of the entry at hand, and those of the entries after it. Assumes nothing.
use Rattle.std.proofs.Common.{arith, refl}
use Rattle.journal.proofs.Rules.{next_left}
use Rattle.journal.proofs.right.Goals as goal
use Rattle.journal.proofs.right.Goals.{then-stamp-before-via-then-stamp-before, then-stamp-before-via-else-stamp-before+then-stamp-last, then-stamp-before-via-else-stamp-before+else-stamp-last+then-not-entry_right}

pub returns-then-stamp-before : goal.returns-then-stamp-before
returns-then-stamp-before c =
    let n = next_left c.args.points c.args.kept_day c.args.last c.loop-stamp.before c.args.entries.now c.loop-stamp.stamp-index _ _ _ (omega arith) refl refl refl in
    elim c.then-stamp-before.branch [
      | then-stamp-before-via-then-stamp-before w ↦ grind (arith, n)
      | then-stamp-before-via-else-stamp-before+then-stamp-last w ↦ grind (arith, n)
      | then-stamp-before-via-else-stamp-before+else-stamp-last+then-not-entry_right w ↦ grind (arith, n)
    ]

pub loop-stamp-preserved : goal.loop-stamp-preserved
loop-stamp-preserved c =
    let n = next_left c.args.points c.args.kept_day c.args.last c.loop-stamp.before c.args.entries.now c.loop-stamp.stamp-index _ _ _ (omega arith) refl refl refl in
    grind (arith, n)
