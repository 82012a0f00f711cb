-- An evaluation depends only on the registration and on what is shown, as of its stamp, in the day's four weeks; where no clock changes it is what it was
-- by quarter numbers. Assumes nothing.
use Prim.Native.Nat.{ℕ}
use mathlib.Core.Path.{◌≡◌, ap}
use mathlib.Core.Bool.{true}
use mathlib.Core.List.{List}
use Rattle.calendar.specs.Quarters.{quarter_exists}
use Rattle.registration.specs.declared.Registration.{Registration}
use Rattle.registration.specs.Rules.{code_at, status_at}
use Rattle.journal.specs.Order.{Reading}
use Rattle.lookup.proofs.Alike.{Alike, looked_up_alike}
use Rattle.lookup.proofs.Matched.{unchanged_look_up}
use Rattle.evaluation.specs.Evaluation.{result_from, evaluation_of}
use Rattle.evaluation.specs.ByNumber.{evaluation_by_number}
use Rattle.evaluation.specs.Laws.{UnchangedEvaluation}

-- a quarter hour that exists, as of T
pub evaluation_alike : (day quarter T : ℕ) → quarter_exists day quarter ≡ true → (r : Registration) (f g : ℕ → ℕ → ℕ → List Reading)
    → ((code : ℕ) → Alike (f code) (g code) day T) → evaluation_of r f day quarter T ≡ evaluation_of r g day quarter T
unfolding evaluation_of
evaluation_alike day quarter T exists r f g h =
    ap (result_from r)
    (λ i. λ point. looked_up_alike day quarter T exists (f (code_at r point)) (g (code_at r point)) (h (code_at r point)) (status_at r point) i)

pub unchanged_evaluation : UnchangedEvaluation
unfolding evaluation_of evaluation_by_number
unchanged_evaluation r readings day quarter T exists none_of_five =
    ap (result_from r) (λ i. λ point. unchanged_look_up (status_at r point) (readings (code_at r point)) day quarter T exists none_of_five i)
