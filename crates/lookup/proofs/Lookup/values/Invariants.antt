-- What the loop of `lookup::Lookup::values` keeps: the values of the points passed. Assumes nothing.
use Rattle.std.proofs.Common.{◌≡◌, ℕ, ◌<◌, length, slice_index}
use Rattle.journal.specs.Stored.{entries_in}
use Rattle.lookup.specs.Working.{looked_up_in, value_of_point}
use Rattle.lookup.proofs.Lookup.values.Given as goal

abbrev pub invariant-loop-point : goal.invariant-loop-point
invariant-loop-point l =
    record {
      size : length l.values ≡ 64;
      done : (k : ℕ) → k < l.point → value_of_point l.values k ≡ looked_up_in (entries_in l.self.entries.now) l.self.asked k (slice_index l.statuses k);
    }
