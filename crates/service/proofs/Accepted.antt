-- What is seen of an accepted call. Assumes nothing.
use Prim.Native.Nat.{ℕ}
use mathlib.Core.Path.{◌≡◌, refl}
use mathlib.Core.Bool.{false, true≢false}
use mathlib.Core.List.{List}
use Rattle.answers.specs.Numbers.{Verdict}
use Rattle.std.specs.Prelude.{Ok, Err}
use Rattle.lists.proofs.Cases.{by_test}
use Rattle.values.specs.declared.Measurement.{Measurement}
use Rattle.group.specs.Group.{Group}
use Rattle.group.specs.Refusals.{repeats}
use Rattle.service.specs.Call.{After, refused}
use Rattle.service.specs.Calls.{submitted, when_accepted}

-- a call that is not seen to be refused has the verdict of acceptance
pub accepted_verdict : (verdict : Verdict) (last : ℕ) (G : Group) (lent : List ℕ) (after : After)
    → refused (when_accepted verdict last G lent after).seen ≡ false → verdict ≡ Ok tt
accepted_verdict (Ok _) last G lent after e = refl
accepted_verdict (Err refusal) last G lent after e = absurd (true≢false e)

-- an accepted submission, whether it is a repeat or not
pub submitted_accepted : (last : ℕ) (G : Group) (clock : ℕ) (m : Measurement) → (submitted last G clock m).seen.verdict ≡ Ok tt
unfolding submitted
submitted_accepted last G clock m = by_test (repeats last G m) (λ t. rw t) (λ t. rw t)
