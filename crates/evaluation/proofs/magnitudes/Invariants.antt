-- What the loop of `evaluation::magnitudes` keeps: the magnitudes of the values passed. Assumes nothing.
use Rattle.std.proofs.Common.{◌≡◌, ℕ, ◌<◌, length, get_or}
use Rattle.lookup.specs.Working.{value_of_point}
use Rattle.evaluation.proofs.magnitudes.Given as goal

abbrev pub invariant-loop-point : goal.invariant-loop-point
invariant-loop-point l =
    record {
      size : length l.magnitudes ≡ 64;
      done : (k : ℕ) → k < l.point → get_or l.magnitudes k 0 ≡ (value_of_point l.values k).magnitude;
    }
