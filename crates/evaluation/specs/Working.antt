-- The values that the code looks up, by the points' own places, and the result that its arrays hold: an allocation, and origins by point, producers
-- first. Assumes nothing.
use Rattle.std.specs.Prelude.{ℕ, List, map}
use Rattle.registration.specs.declared.Registration.{Registration}
use Rattle.registration.specs.Rules.{status_at}
use Rattle.journal.specs.declared.Entry.{Entry}
use Rattle.allocation.specs.declared.Allocated.{Allocated}
use Rattle.allocation.specs.Working.{allocation_in}
use Rattle.lookup.specs.declared.PointValue.{PointValue}
use Rattle.lookup.specs.Substitutes.{number_of_origin, looked_up}
use Rattle.lookup.specs.Working.{point_readings}
use Rattle.evaluation.specs.Evaluation.{Result}

-- the values of all points, from entries whose places have the points' own numbers
abbrev pub values_in : Registration → List Entry → (day quarter T : ℕ) → ℕ → PointValue
values_in r es day quarter T point = looked_up (status_at r point) (point_readings es point) day quarter T

-- the numbers of the values' origins
abbrev pub origins_of : List PointValue → List ℕ
origins_of values = map (λ value. number_of_origin value.origin) values

-- the result that the arrays hold, with these numbers of origins
abbrev pub result_in : Registration → Allocated → (origins : List ℕ) → Result
result_in r allocated origins = record { allocation = allocation_in r allocated; origins = origins }
