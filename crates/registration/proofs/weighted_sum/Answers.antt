-- `registration::weighted_sum` meets its contract: the sum so far and that of the digits left make up the whole sum. Assumes nothing.
use native.Mathlib.Omega.{arith}
use Prim.Native.Nat.{◌+◌, ◌-◌}
use mathlib.Core.Path.{◌≡◌}
use Rattle.registration.proofs.Digits.{digit_bound, weighted_end, weighted_turn}
use Rattle.registration.proofs.weighted_sum.Goals as goal

pub loop-preserved : goal.loop-preserved
loop-preserved c =
    let l = c.loop in
    let left : 17 - (l.counter + 1) ≡ 17 - l.counter - 1 = omega arith in
    record {
      least = omega arith;
      most = omega arith;
      bound = omega (arith, digit_bound _ l.rest l.invariant.most);
      sum = rw left (weighted_turn (17 - l.counter) _ _ _ _ (omega arith) l.invariant.sum);
    }

pub returns : goal.returns
returns c = (weighted_end (17 - c.loop.counter) _ _ _ _ (omega arith) c.loop.invariant.sum, omega arith)
