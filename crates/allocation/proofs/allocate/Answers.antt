-- `allocation::allocate` meets its contract: the rounds passed have been made, and after the last the arrays hold the allocation. Assumes nothing.
use Prim.Native.Nat.{ℕ}
use mathlib.Core.Path.{ap, ◌∙◌}
use native.Mathlib.Omega.{arith}
use Rattle.lists.proofs.TableLaws.{zeros}
use Rattle.allocation.specs.Rounds.{rounds_of}
use Rattle.allocation.proofs.Rounded.{rounded_none, rounded_next, still_magnitudes, still_within, held}
use Rattle.allocation.proofs.allocate.Goals as goal

pub loop-init : goal.loop-init
loop-init c = rounded_none _ _ (zeros 320)

pub make_round-requires : goal.make_round-requires
make_round-requires c =
    let p = c.requires in
    let t = c.loop.invariant in
    (p.0, still_magnitudes p.0 p.1 t, still_within p.0 p.1 t)

pub loop-preserved : goal.loop-preserved
loop-preserved c =
    let p = c.requires in
    rounded_next p.0 p.1 c.loop.invariant (omega arith) c.make_round.ensures

pub returns : goal.returns
returns c =
    let r = c.args.registration.now in
    held c.requires.0 c.requires.1 c.loop.invariant (omega arith)
    (c.rounds-rounds.ensures ∙ ap (λ (n : ℕ). rounds_of r.iteration n r.consumers) c.points.ensures)
