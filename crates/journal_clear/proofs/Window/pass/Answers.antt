-- `journal_clear::Window::pass` meets its contract. The invariant: `Going` of `Passes`. Assumes nothing.
use native.Mathlib.Omega.{arith}
use Prim.Native.Nat.{ℕ}
use lib.ListN.{length-replicate, get_or-replicate}
use Rattle.journal_clear.proofs.Passes.{start, turn_back, finish}
use Rattle.journal_clear.proofs.Window.pass.Goals as goal

pub loop-i-init : goal.loop-i-init
loop-i-init c = start _ _ _ _ _ _ (length-replicate {A = ℕ} 16384 0) (λ k m. get_or-replicate {A = ℕ} 16384 k 0 0 m)

pub loop-i-preserved : goal.loop-i-preserved
loop-i-preserved c =
    let t = c.turn-next in
    turn_back _ _ _ _ _ _ _ _ _ (omega arith) (omega arith) c.loop-i.invariant _ _ _ t.auto.seen t.ensures

pub returns : goal.returns
returns c = finish _ _ _ _ _ _ _ _ c.loop-i.i (omega arith) c.loop-i.invariant
