-- The tests of each call as the code makes them: that of the group comes first, and two refusals by one number are one test. Assumes nothing.
use Prim.Native.Nat.{ℕ, ◌≤◌}
use mathlib.Core.Path.{◌≡◌}
use mathlib.Core.Bool.{Bool}
use native.Mathlib.Omega.{arith}
use lib.Dec.{leb, ltb, eqb}
use mir.ValLaws.{to_z-of_z}
use Rattle.std.specs.Prelude.{◌&&◌, not, Result, Ok}
use Rattle.std.specs.Result.{result_and}
use Rattle.std.proofs.lemmas.Grind.{common_steps}
use Rattle.answers.specs.declared.Refusal.{Refusal}
use Rattle.answers.specs.declared.Refusal.TheVariants.{Damaged}
use Rattle.answers.specs.Order.{refuse◌if◌else◌}
use Rattle.answers.proofs.Refusals.{order}
use Rattle.calendar.specs.Dates.{last_day}
use Rattle.lists.proofs.Cases.{by_test}
use Rattle.registration.specs.Rules.{points}
use Rattle.group.specs.Group.{Group}
use Rattle.group.specs.Refusals.{damaged}
use Rattle.group.specs.Working.{damage_verdict}
use Rattle.group.proofs.Sound.{Sound, undamaged_sound}
use Rattle.group.proofs.Undamaged.{few_points}

-- each order of refusals begins with the test of the group
pub sound_first : {T : Type 0} (last : ℕ) (G : Group) (m : Result T Refusal) → refuse Damaged if damaged last G else m ≡ result_and (damage_verdict last G) m
unfolding refuse◌if◌else◌ damage_verdict
sound_first last G m = by_test (damaged last G) (λ t. rw t) (λ t. rw t)

-- what holds of a group that passes its test
pub sound_of : (last : ℕ) (G : Group) → Ok tt ≡ damage_verdict last G → Sound last G
unfolding refuse◌if◌else◌ damage_verdict
sound_of last G e = undamaged_sound last G (by_test (damaged last G) (λ t. cc (rw t at e)) (λ t. t))

pub kept_day_most : (last : ℕ) (G : Group) → Ok tt ≡ damage_verdict last G → G.keptday ≤ last_day
kept_day_most last G e = (sound_of last G e).kept_day

pub few_of : (last : ℕ) (G : Group) → Ok tt ≡ damage_verdict last G → points G.registration ≤ 64
few_of last G e = few_points last G (sound_of last G e)

-- a stamp is refused where it is not within those that are kept
pub within : {T : Type 0} (n : Refusal) (p s l : ℕ) (m : Result T Refusal) → refuse n if ltb s p else refuse n if ltb l s else m ≡ refuse n if not (leb p s && leb s l) else m
unfolding refuse◌if◌else◌
within n p s l m = grind (arith, common_steps, order)

-- a value is refused where its sign or its magnitude does not suit
pub suiting : {T : Type 0} (n : Refusal) (sign : Bool) (most magnitude : ℕ) (m : Result T Refusal)
    → refuse n if not sign else refuse n if ltb most magnitude else m ≡ refuse n if not (sign && leb magnitude most) else m
unfolding refuse◌if◌else◌
suiting n sign most magnitude m = grind (arith, common_steps, order)

-- a clock is refused where no new stamp can be given
pub clocked : {T : Type 0} (n : Refusal) (most clock last : ℕ) (m : Result T Refusal)
    → refuse n if ltb most clock else refuse n if eqb last most else m ≡ refuse n if not (leb clock most && not (eqb last most)) else m
unfolding refuse◌if◌else◌
clocked n most clock last m = grind (arith, common_steps, order)

-- the tests of a clear and of an evaluation, and those of a submission
pub ruleset tests = (order, sound_first, within)

pub ruleset tests_of_submission = (order, sound_first, suiting, clocked, to_z-of_z)
