-- The result of an evaluation: the allocation of what the look-ups give, and where each value came from. Assumes nothing.
use Rattle.std.specs.Prelude.{ℕ, List}
use Rattle.lists.specs.Tables.{table}
use Rattle.registration.specs.declared.Registration.{Registration}
use Rattle.registration.specs.Rules.{points, code_at, status_at}
use Rattle.allocation.specs.Result.{Allocation, allocation_of}
use Rattle.journal.specs.Order.{Reading}
use Rattle.lookup.specs.declared.PointValue.{PointValue}
use Rattle.lookup.specs.Substitutes.{number_of_origin, looked_up}

-- pair shares, remaining withdrawals, remaining supplies and the round count; and the number of the origin of each point's value, producers first
pub record Result : Type 0 where
  pub allocation : Allocation
  pub origins : List ℕ

-- the result of the points' values: their magnitudes are allocated, the numbers of their origins stand beside
unfoldable pub result_from : Registration → (value : ℕ → PointValue) → Result
result_from r value =
    record {
      allocation = allocation_of r (λ point. (value point).magnitude);
      origins = table (λ point. number_of_origin (value point).origin) (points r);
    }

-- the result for a day, quarter and T, from the readings of each code, day and quarter
unfoldable pub evaluation_of : Registration → (readings : ℕ → ℕ → ℕ → List Reading) → (day quarter T : ℕ) → Result
evaluation_of r readings day quarter T =
    result_from r (λ point. looked_up (status_at r point) (readings (code_at r point)) day quarter T)
