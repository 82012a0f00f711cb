-- `journal_clear::compact` meets its contract. The invariant: `Moving` of `Moves`. Assumes nothing.
use native.Mathlib.Omega.{arith}
use mathlib.Core.Path.{sym, ap, ◌∙◌}
use Prim.Native.Nat.{◌/◌}
use lib.ListN.{length}
use Rattle.journal_clear.proofs.Moves.{chunk_entry, finish, passed_over, moved_one}
use Rattle.journal_clear.proofs.compact.Goals as goal
use Rattle.journal_clear.proofs.compact.Goals.{then-left, else-left}

pub loop-i-preserved : goal.loop-i-preserved
loop-i-preserved c =
    let same = chunk_entry (length c.loop-i.numbers / 3) c.loop-i.i c.loop-i.numbers (omega arith) (omega arith) in
    let entry = c.from-entry.ensures ∙ rw c.as_chunks.ensures.front same in
    let said = rw entry at (sym c.left.ensures) in
    elim c.if-left.branch [
      | then-left w ↦ moved_one _ _ _ _ _ _ _ _ c.loop-i.invariant (omega arith) (said ∙ w.if-left.true) (ap length w.numbers-is ∙ w.put.auto.journal) (w.numbers-is ∙ rw entry at w.put.ensures) w.moved-is
      | else-left w ↦ passed_over _ _ _ _ _ _ _ _ c.loop-i.invariant (omega arith) (said ∙ w.if-left.false) w.numbers-is w.moved-is
    ]

pub returns : goal.returns
returns c = finish _ _ _ _ _ _ (omega arith) c.loop-i.invariant
