-- The verdict on a clear at given days and stamps, by computation. Assumes nothing.
use Prim.Native.Nat.{ℕ}
use mathlib.Core.Path.{◌≡◌, refl}
use mathlib.Core.List.{[], ◌∷◌}
use Rattle.lists.specs.Below.{every, sum_below, differ}
use Rattle.answers.specs.Numbers.{Verdict}
use Rattle.std.specs.Prelude.{Ok, Err}
use Rattle.answers.specs.declared.Refusal.TheVariants.{NoSuchDay, DayCleared, StampOutside}
use Rattle.answers.specs.Order.{refuse◌if◌else◌}
use Rattle.registration.specs.Code.{is_code, weighted}
use Rattle.registration.specs.Rules.{pairs_right}
use Rattle.registration.specs.Damage.{is_damaged}
use Rattle.journal.specs.Damage.{entries_right}
use Rattle.group.specs.Group.{Group}
use Rattle.group.specs.Refusals.{damaged, clear_verdict}

-- one producer, which supplies one consumer by the whole key; P = 50, K = 100, no entries. What stands after the end of a list counts as 0
group : Group
group =
    record {
      registration = record {
        producers = 1;
        consumers = 1;
        iteration = 1;
        codes = 859182400220162071 ∷ 859182400220162088 ∷ [];
        statuses = [];
        counts = 1 ∷ [];
        sources = 1 ∷ [];
        keys = 10000 ∷ [];
      };
      keptstamp = 50;
      keptday = 100;
      entries = [];
      room = 0;
    }

-- a clear with this day and stamp, where the last stamp is 80
abbrev clear : (day stamp : ℕ) → Verdict
clear day stamp = clear_verdict 80 group day stamp

-- a stamp below P, equal to P, between, equal to the last stamp, above it; a day below K; a day above K with stamp 0; the last day, and one beyond the
-- calendar; and a day below K with a stamp below P
clears : (clear 100 49 ≡ Err StampOutside)
    × (clear 100 50 ≡ Ok tt)
    × (clear 100 51 ≡ Ok tt)
    × (clear 100 80 ≡ Ok tt)
    × (clear 100 81 ≡ Err StampOutside)
    × (clear 99 50 ≡ Err DayCleared)
    × (clear 101 0 ≡ Err StampOutside)
    × (clear 27758 80 ≡ Ok tt)
    × (clear 27759 80 ≡ Err NoSuchDay)
    × (clear 99 49 ≡ Err DayCleared)
unfolding group clear_verdict damaged is_damaged every sum_below differ pairs_right is_code weighted entries_right refuse◌if◌else◌
clears = (refl, refl, refl, refl, refl, refl, refl, refl, refl, refl)
