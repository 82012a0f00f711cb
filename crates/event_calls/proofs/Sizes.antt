-- How large the result of an accepted evaluation is: its registration is not damaged, so it has few points and few pairs. Assumes nothing.
use Prim.Native.Nat.{ℕ, ◌+◌, ◌≤◌, ◌<◌}
use mathlib.Core.Path.{◌≡◌, refl, sym, ap, ◌∙◌}
use mathlib.Core.Bool.{true, false}
use mathlib.Core.List.{List}
use native.Mathlib.Omega.{arith}
use Rattle.std.specs.Prelude.{Option, None, Some, Result, Ok, Err}
use Rattle.std.specs.Result.{result_and, is_ok}
use Rattle.answers.specs.declared.Refusal.{Refusal}
use Rattle.answers.specs.Numbers.{Verdict}
use Rattle.lists.proofs.Below.{and_left, every_at, sum_bound}
use Rattle.registration.specs.declared.Registration.{Registration}
use Rattle.registration.specs.Rules.{points, count_at, count_right, consumer_right}
use Rattle.registration.specs.Damage.{is_damaged}
use Rattle.registration.proofs.Damage.{undamaged_parts, point_bounds}
use Rattle.registration.proofs.Bounds.{count_bounds}
use Rattle.evaluation.specs.Layout.{size_of, result_most}
use Rattle.evaluation.proofs.Laws.{result_within_most}
use Rattle.service.specs.declared.Service.{Service}
use Rattle.service.specs.Call.{Evaluation, is_refused, refused}
use Rattle.group.specs.Refusals.{evaluation_verdict}
use Rattle.service.specs.Calls.{evaluated, step}
use Rattle.service.specs.Record.{group_of, call_on}
use Rattle.service.proofs.ReadAgain.{through}
use Rattle.service.proofs.Accepted.{accepted_verdict}
use Rattle.service.proofs.Cores.{evaluation_sound}
use Rattle.event_writer.specs.Answers.{bytes_of_rounds, bytes_of_result}
use Rattle.event_calls.specs.Replies.{on_day}
use Rattle.event_calls.specs.Promises.{answer_most, Evaluated}

-- the numbers and bytes of a group's results are within what they are given room for
pub record Small (r : Registration) : Type 0 where
  pub points : points r ≤ 64
  pub counts : (consumer : ℕ) → consumer < r.consumers → count_at r consumer ≤ 5
  pub size : size_of r ≤ result_most
  pub bytes : bytes_of_rounds + bytes_of_result r ≤ answer_most

-- at most 64 points, of which one at least is a producer: the bytes are counted with 63 consumers, each with 5 producers
pub undamaged_small : (r : Registration) → is_damaged r ≡ false → Small r
undamaged_small r e =
    let parts = undamaged_parts r e in
    let bounds = point_bounds _ _ parts.point_counts in
    let each : (consumer : ℕ) → consumer < r.consumers → count_at r consumer ≤ 5 =
    λ consumer h. (count_bounds _ (and_left (count_right (count_at r consumer)) _ (every_at (consumer_right r) r.consumers consumer parts.consumers h))).1 in
    let sum = sum_bound (count_at r) 5 r.consumers each in
    record {
      points = bounds.2;
      counts = each;
      size = result_within_most r e;
      bytes = omega (arith, sum, bounds.0, bounds.2);
    }

module _ (s : Service) (j : List ℕ) (day quarter T : ℕ) (lent : List ℕ) where
  -- an accepted evaluation has passed all tests
  pub evaluation_passed : (call_on s j (Evaluation day quarter T lent)).seen.verdict ≡ Ok tt
      → evaluation_verdict s.state.last (group_of s j) day quarter T lent ≡ Ok tt
  unfolding step
  evaluation_passed e =
      accepted_verdict (evaluation_verdict s.state.last (group_of s j) day quarter T lent) s.state.last (group_of s j) lent
      (evaluated s.state.last (group_of s j) day quarter T lent)
      (ap refused (sym (through s j (Evaluation day quarter T lent)).seen) ∙ ap is_refused e)

  -- so its registration is not damaged
  pub evaluation_small : (call_on s j (Evaluation day quarter T lent)).seen.verdict ≡ Ok tt → Small s.registration
  evaluation_small e = undamaged_small _ (evaluation_sound s j (record { day = day; quarter = quarter; until = T }) lent (evaluation_passed e)).registered

-- a verdict with a number that is accepted
accepted_ok : (verdict : Verdict) (number : ℕ) → is_ok (result_and verdict (Ok number)) ≡ true → verdict ≡ Ok tt
accepted_ok (Ok _) number e = refl
accepted_ok (Err refusal) number e = cc

-- the same of what the code's evaluation answers, on the day of a date
pub evaluated_small : (s : Service) (j : List ℕ) (day : Option ℕ) (quarter T : ℕ) (lent : List ℕ) (answer : Result ℕ Refusal) (numbers : List ℕ)
    → Evaluated s j (on_day day (λ day. Evaluation day quarter T lent)) answer numbers → is_ok answer ≡ true → Small s.registration
evaluated_small s j None quarter T lent answer numbers made e = let z = rw made.answers at e in cc
evaluated_small s j (Some day) quarter T lent answer numbers made e =
    let seen = (call_on s j (Evaluation day quarter T lent)).seen in
    evaluation_small s j day quarter T lent (accepted_ok seen.verdict seen.number (rw made.answers at e))
