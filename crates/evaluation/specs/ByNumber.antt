-- The evaluation of earlier releases, whose substitutes took the same quarter number in an earlier week. It serves the law alone that nothing
-- alters where clocks do not change. Assumes nothing.
use Rattle.std.specs.Prelude.{ℕ, List}
use Rattle.registration.specs.declared.Registration.{Registration}
use Rattle.registration.specs.Rules.{code_at, status_at}
use Rattle.journal.specs.Order.{Reading}
use Rattle.lookup.specs.ByNumber.{looked_up_by_number}
use Rattle.evaluation.specs.Evaluation.{Result, result_from}

-- the result by that match for a day, quarter and T, from the readings of each code, day and quarter
unfoldable pub evaluation_by_number : Registration → (readings : ℕ → ℕ → ℕ → List Reading) → (day quarter T : ℕ) → Result
evaluation_by_number r readings day quarter T =
    result_from r (λ point. looked_up_by_number (status_at r point) (readings (code_at r point)) day quarter T)
