-- What a call leaves as it is: a refused one all, an accepted one registration and room, and what it leaves fits the journal. Assumes nothing.
use Prim.Native.Nat.{ℕ, ◌*◌, ◌≤◌}
use native.Mathlib.Omega.{arith}
use mathlib.Core.Path.{◌≡◌, refl, sym, subst}
use mathlib.Core.List.{List, [], ◌∷◌}
use Rattle.values.specs.declared.Measurement.{Measurement}
use lib.ListN.{length, length-append}
use Rattle.answers.specs.Numbers.{Verdict}
use Rattle.std.specs.Prelude.{Ok, Err}
use Rattle.lists.proofs.Cases.{by_test}
use Rattle.group.specs.Group.{Group, entry_of}
use Rattle.service.specs.Call.{Call, Submission, Clear, Evaluation, After}
use Rattle.group.specs.Refusals.{repeats, submission_verdict, clear_verdict, evaluation_verdict}
use Rattle.group.specs.Stamps.{next_stamp}
use Rattle.service.specs.Calls.{submitted, cleared, evaluated, when_accepted, step}
use Rattle.service.specs.Laws.{lent_by}
use Rattle.group.proofs.Admitted.{admitted, clearing, evaluating}
use Rattle.service.proofs.Accepted.{submitted_accepted}
use Rattle.journal.proofs.Kept.{length_keep}

-- a refused call leaves last stamp, group and the list lent, and returns 0
pub record Untouched (last : ℕ) (G : Group) (lent : List ℕ) (after : After) : Type 0 where
  pub last_same : after.last ≡ last
  pub group : after.group ≡ G
  pub result : after.seen.result ≡ lent
  pub number : after.seen.number ≡ 0

-- an accepted call leaves registration and room, and there is room for its entries and for those before it
pub record Fits (G : Group) (after : After) : Type 0 where
  pub registration : after.group.registration ≡ G.registration
  pub room : after.group.room ≡ G.room
  pub before : 3 * length G.entries ≤ G.room
  pub now : 3 * length after.group.entries ≤ G.room

-- what a call leaves, by its verdict
abbrev pub Leaves : Verdict → (last : ℕ) → Group → (lent : List ℕ) → After → Type 0
Leaves (Err refusal) last G lent after = Untouched last G lent after
Leaves (Ok tt) last G lent after = Fits G after

-- a refused call leaves all, and an accepted one what its own law says
leaves_when_accepted : (verdict : Verdict) (last : ℕ) (G : Group) (lent : List ℕ) (after : After) → after.seen.verdict ≡ Ok tt
    → (verdict ≡ Ok tt → Fits G after)
    → Leaves (when_accepted verdict last G lent after).seen.verdict last G lent (when_accepted verdict last G lent after)
leaves_when_accepted (Ok _) last G lent after e f = subst (λ (v : Verdict). Leaves v last G lent after) (sym e) (f refl)
leaves_when_accepted (Err refusal) last G lent after e f = record { last_same = refl; group = refl; result = refl; number = refl }

-- an accepted submission
submission_fits : (last : ℕ) (G : Group) (clock : ℕ) (m : Measurement) → submission_verdict last G clock m ≡ Ok tt
    → Fits G (submitted last G clock m)
unfolding submitted
submission_fits last G clock m e =
    let a = admitted last G clock m e in
    let s = a.sound in
    by_test (repeats last G m)
    (λ t. rw t (record { registration = refl; room = refl; before = s.fits; now = s.fits }))
    (λ t. rw t (record {
      registration = refl;
      room = refl;
      before = s.fits;
      now = omega (arith, a.room t, length-append G.entries (entry_of G (next_stamp clock last) m ∷ []));
    }))

-- an accepted clear
clear_fits : (last : ℕ) (G : Group) (day stamp : ℕ) → clear_verdict last G day stamp ≡ Ok tt → Fits G (cleared last G day stamp)
unfolding cleared
clear_fits last G day stamp e =
    let s = (clearing last G day stamp e).sound in
    record { registration = refl; room = refl; before = s.fits; now = omega (arith, s.fits, length_keep day stamp G.entries) }

-- an accepted evaluation
evaluation_fits : (last : ℕ) (G : Group) (day quarter T : ℕ) (lent : List ℕ) → evaluation_verdict last G day quarter T lent ≡ Ok tt
    → Fits G (evaluated last G day quarter T lent)
unfolding evaluated
evaluation_fits last G day quarter T lent e =
    let s = (evaluating last G day quarter T lent e).sound in
    record { registration = refl; room = refl; before = s.fits; now = s.fits }

-- every call, on whatever group
pub leaves : (last : ℕ) (G : Group) (call : Call) → Leaves (step last G call).seen.verdict last G (lent_by call) (step last G call)
unfolding step cleared evaluated
leaves last G (Submission clock m) =
    leaves_when_accepted _ last G [] _ (submitted_accepted last G clock m) (submission_fits last G clock m)
leaves last G (Clear day stamp) = leaves_when_accepted _ last G [] _ refl (clear_fits last G day stamp)
leaves last G (Evaluation day quarter T lent) = leaves_when_accepted _ last G lent _ refl (evaluation_fits last G day quarter T lent)
