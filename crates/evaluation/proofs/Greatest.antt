-- Where the entries are right, the numbers of an evaluation's result are within their bounds: energy within the greatest magnitude of a reading,
-- origins within 6; and it has at most five rounds. Assumes nothing.
use Prim.Native.Nat.{ℕ, ◌≤◌}
use mathlib.Core.List.{List}
use Rattle.lists.specs.Place.{placed}
use Rattle.registration.specs.declared.Registration.{Registration}
use Rattle.registration.specs.Rules.{code_at, status_at, points}
use Rattle.journal.specs.Order.{Reading}
use Rattle.allocation.specs.Input.{Shareable}
use Rattle.allocation.specs.Result.{allocation_of}
use Rattle.allocation.proofs.Laws.{rounds_most_lem}
use Rattle.lookup.specs.Substitutes.{looked_up}
use Rattle.lookup.proofs.Greatest.{AllSmall, value_within}
use Rattle.lookup.proofs.Origins.{origins_tell}
use Rattle.evaluation.specs.Evaluation.{result_from, evaluation_of}
use Rattle.evaluation.specs.Layout.{result_of}
use Rattle.evaluation.proofs.ResultBounds.{ResultWithin, result_within}

module _ (r : Registration) (readings : ℕ → ℕ → ℕ → List Reading) (day quarter T : ℕ) where
  -- each number of the result is within
  pub evaluation_within : Shareable r → ((code day quarter : ℕ) → AllSmall (readings code day quarter)) → (lent : List ℕ)
      → ResultWithin r (placed 0 (result_of (evaluation_of r readings day quarter T)) lent)
  unfolding evaluation_of
  evaluation_within s each lent =
      result_within r (λ point. looked_up (status_at r point) (readings (code_at r point)) day quarter T) s
      (λ point h. value_within (status_at r point) (readings (code_at r point)) day quarter T (each (code_at r point)))
      (λ point h. (origins_tell (status_at r point) (readings (code_at r point)) day quarter T).most) lent

  -- the rounds are few
  pub rounds_few : (evaluation_of r readings day quarter T).allocation.rounds ≤ 5
  unfolding evaluation_of result_from allocation_of
  rounds_few = rounds_most_lem r.iteration (points r) r.consumers
