-- How great the numbers that a call returns are, whatever record and journal hold. Assumes nothing.
use Prim.Native.Nat.{ℕ, ◌*◌, ◌≤◌}
use native.Mathlib.Omega.{arith}
use mathlib.Core.Path.{◌≡◌, refl}
use mathlib.Core.List.{List, []}
use Rattle.std.specs.Prelude.{Option, None, Some}
use Rattle.values.specs.declared.Measurement.{Measurement}
use lib.ListN.{length}
use Rattle.answers.specs.Numbers.{Verdict}
use Rattle.std.specs.Prelude.{Ok, Err}
use Rattle.lists.proofs.Cases.{by_test}
use Rattle.registration.specs.declared.Registration.{Registration}
use Rattle.journal.specs.Order.{Reading}
use Rattle.journal.specs.Readings.{shown, stamp_of}
use Rattle.journal.specs.Laws.{ShowsNewest}
use Rattle.journal.proofs.Laws.{shown_is_newest}
use Rattle.allocation.proofs.Laws.{undamaged_is_shareable}
use Rattle.evaluation.proofs.ResultBounds.{ResultWithin}
use Rattle.lookup.proofs.Greatest.{readings_small}
use Rattle.evaluation.proofs.Greatest.{evaluation_within, rounds_few}
use Rattle.service.specs.declared.Service.{Service}
use Rattle.group.specs.Group.{Group, roll_of, place_for, readings_of, readings_for}
use Rattle.service.specs.Call.{Submission, Clear, Evaluation, After}
use Rattle.group.specs.Refusals.{repeats, submission_verdict, clear_verdict, evaluation_verdict}
use Rattle.group.specs.Stamps.{stamp_most}
use Rattle.service.specs.Calls.{submitted, cleared, evaluated, when_accepted, step}
use Rattle.service.specs.Record.{group_of, call_on}
use Rattle.group.proofs.Admitted.{admitted, clearing, evaluating}
use Rattle.service.proofs.ReadAgain.{through}

-- what is shown as of T has a stamp of at most T
stamp_shown : (T : ℕ) (rs : List Reading) (o : Option Reading) → ShowsNewest T rs o → stamp_of o ≤ T
stamp_shown T rs None k = omega arith
stamp_shown T rs (Some m) k = k.within_time

-- a refused call returns 0, an accepted one what its own law says
module _ (last : ℕ) (G : Group) (lent : List ℕ) (after : After) where
  number_when_accepted : (P : ℕ → Type 0) (verdict : Verdict) → P 0 → (verdict ≡ Ok tt → P after.seen.number)
      → P (when_accepted verdict last G lent after).seen.number
  number_when_accepted P (Ok _) h k = k refl
  number_when_accepted P (Err refusal) h k = h

  result_when_accepted : (verdict : Verdict) (r : Registration) → (verdict ≡ Ok tt → ResultWithin r after.seen.result)
      → (when_accepted verdict last G lent after).seen.verdict ≡ Ok tt → ResultWithin r (when_accepted verdict last G lent after).seen.result
  result_when_accepted (Ok _) r h e = h refl
  result_when_accepted (Err refusal) r h e = cc

-- the stamp of an accepted submission
submitted_number : (last : ℕ) (G : Group) (clock : ℕ) (m : Measurement) → submission_verdict last G clock m ≡ Ok tt
    → (submitted last G clock m).seen.number ≤ stamp_most
unfolding submitted
submitted_number last G clock m e =
    let a = admitted last G clock m e in
    let s = a.sound in
    let rs = readings_for G m in
    by_test (repeats last G m)
    (λ t. rw t (omega (arith, s.last_stamp, stamp_shown last rs (shown last rs) (shown_is_newest last rs))))
    (λ t. rw t (omega (arith, s.last_stamp, a.clock_small, a.last_less)))

-- the dropped count of an accepted clear
cleared_number : (last : ℕ) (G : Group) (day stamp : ℕ) → clear_verdict last G day stamp ≡ Ok tt → 3 * (cleared last G day stamp).seen.number ≤ G.room
unfolding cleared clear_verdict
cleared_number last G day stamp e = omega (arith, (clearing last G day stamp e).sound.fits)

-- the result of an accepted evaluation
evaluated_result : (last : ℕ) (G : Group) (day quarter T : ℕ) (lent : List ℕ) → evaluation_verdict last G day quarter T lent ≡ Ok tt
    → ResultWithin G.registration (evaluated last G day quarter T lent).seen.result
unfolding evaluated evaluation_verdict
evaluated_result last G day quarter T lent e =
    let s = (evaluating last G day quarter T lent e).sound in
    evaluation_within G.registration (readings_of G) day quarter T (undamaged_is_shareable G.registration s.registered)
    (λ code day quarter. readings_small (length (roll_of G)) G.keptday last 0 (place_for G code day quarter) G.entries s.right) lent

module _ (s : Service) (j : List ℕ) where
  abbrev last : ℕ
  last = s.state.last

  abbrev G : Group
  G = group_of s j

  -- a submission returns no stamp above the greatest
  pub stamp_returned : (clock : ℕ) (m : Measurement) → (call_on s j (Submission clock m)).seen.number ≤ stamp_most
  unfolding step
  stamp_returned clock m =
      rw (through s j (Submission clock m)).seen
      (number_when_accepted last G [] (submitted last G clock m) (λ n. n ≤ stamp_most)
      (submission_verdict last G clock m) (omega arith) (submitted_number last G clock m))

  -- a clear drops no more entries than the journal has room for
  pub dropped_returned : (day stamp : ℕ) → 3 * (call_on s j (Clear day stamp)).seen.number ≤ length j
  unfolding step
  dropped_returned day stamp =
      rw (through s j (Clear day stamp)).seen
      (number_when_accepted last G [] (cleared last G day stamp) (λ n. 3 * n ≤ length j) (clear_verdict last G day stamp) (omega arith)
      (cleared_number last G day stamp))

  module _ (day quarter T : ℕ) (lent : List ℕ) where
    -- an evaluation has at most five rounds
    pub rounds_returned : (call_on s j (Evaluation day quarter T lent)).seen.number ≤ 5
    unfolding step evaluated
    rounds_returned =
        rw (through s j (Evaluation day quarter T lent)).seen
        (number_when_accepted last G lent (evaluated last G day quarter T lent) (λ n. n ≤ 5) (evaluation_verdict last G day quarter T lent) (omega arith)
        (λ e. rounds_few s.registration (readings_of G) day quarter T))

    -- and an accepted one gives no number above what bounds its part
    pub result_returned : (call_on s j (Evaluation day quarter T lent)).seen.verdict ≡ Ok tt
        → ResultWithin s.registration (call_on s j (Evaluation day quarter T lent)).seen.result
    unfolding step
    result_returned e =
        let seen = (through s j (Evaluation day quarter T lent)).seen in
        rw seen
        (result_when_accepted last G lent (evaluated last G day quarter T lent) (evaluation_verdict last G day quarter T lent) s.registration
        (evaluated_result last G day quarter T lent) (rw seen at e))
