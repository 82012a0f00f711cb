-- A registration whose result has the most numbers: 5 producers, and 59 consumers that name each of them. Assumes nothing.
use Prim.Native.Nat.{ℕ, zero, suc, ◌+◌, ◌-◌, ◌*◌, ◌%◌}
use mathlib.Core.Path.{◌≡◌, refl}
use mathlib.Core.Bool.{false}
use mathlib.Core.List.{List, [], ◌∷◌, ◌++◌}
use lib.ListN.{replicate}
use Rattle.lists.specs.Below.{every, sum_below, differ}
use Rattle.registration.specs.declared.Registration.{Registration}
use Rattle.registration.specs.Code.{weighted, is_code}
use Rattle.registration.specs.Rules.{pairs_right}
use Rattle.registration.specs.Damage.{is_damaged}
use Rattle.evaluation.specs.Laws.{MostReached}

-- so many true codes: 17 digits that count on, and the check digit
codes_from : (front count : ℕ) → List ℕ
codes_from front zero = []
codes_from front (suc count) = (front * 10 + (10 - weighted 17 3 front % 10) % 10) ∷ codes_from (front + 1) count

-- the numbers of the five producers for each of so many consumers
fives : (consumers : ℕ) → List ℕ
fives zero = []
fives (suc consumers) = 1 ∷ 2 ∷ 3 ∷ 4 ∷ 5 ∷ fives consumers

-- each consumer has 1.69 percent of each producer
largest : Registration
largest =
    record {
      producers = 5;
      consumers = 59;
      iteration = 0;
      codes = codes_from 85918240022016000 64;
      statuses = replicate 64 0;
      counts = replicate 59 5 ++ replicate 5 0;
      sources = fives 59 ++ replicate 25 0;
      keys = replicate 295 169 ++ replicate 25 0;
    }

undamaged : is_damaged largest ≡ false
unfolding codes_from fives largest is_damaged every sum_below differ pairs_right is_code weighted
undamaged = refl

pub most_reached : MostReached
unfolding largest sum_below
most_reached = record { registration = largest; undamaged = undamaged; size = refl }
