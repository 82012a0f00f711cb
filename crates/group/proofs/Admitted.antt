-- What holds of an accepted call: it has passed each test of its order. Assumes nothing.
use Prim.Native.Nat.{ℕ, ◌+◌, ◌*◌, ◌-◌, ◌≤◌, ◌<◌}
use native.Mathlib.Omega.{arith}
use mathlib.Core.Path.{◌≡◌}
use mathlib.Core.Bool.{true, false}
use mathlib.Core.Logic.{◌≢◌}
use mathlib.Core.List.{List}
use lib.IntN.{nat_abs}
use lib.ListN.{length}
use borrow.Author.Tests.{ltb-true, ltb-false, leb-true, eqb-false, not-false}
use Rattle.calendar.specs.Dates.{last_day}
use Rattle.values.specs.Values.{magnitude_most}
use Rattle.std.specs.Prelude.{Ok}
use Rattle.answers.proofs.Refusals.{passed}
use Rattle.values.specs.declared.Measurement.{Measurement}
use Rattle.calendar.specs.Quarters.{quarter_exists}
use Rattle.evaluation.specs.Layout.{size_of}
use Rattle.points.specs.Points.{index_of}
use Rattle.group.specs.Group.{Group, roll_of}
use Rattle.group.specs.Refusals.{repeats, earliest, submission_verdict, clear_verdict, evaluation_verdict}
use Rattle.group.specs.Stamps.{stamp_most}
use Rattle.group.proofs.Sound.{Sound, undamaged_sound}

module _ (last : ℕ) (G : Group) (clock : ℕ) (m : Measurement) where
  -- a submission
  pub record Admitted : Type 0 where
    pub sound : Sound last G
    pub known : index_of m.code (roll_of G) < length (roll_of G)
    pub exists : quarter_exists m.day m.quarter ≡ true
    pub not_cleared : G.keptday ≤ m.day
    pub small : nat_abs m.value ≤ magnitude_most
    pub clock_small : clock ≤ stamp_most
    pub last_less : last ≢ stamp_most
    pub room : repeats last G m ≡ false → 3 * (length G.entries + 1) ≤ G.room

  pub admitted : submission_verdict last G clock m ≡ Ok tt → Admitted
  unfolding submission_verdict
  admitted h =
      let a = passed _ _ _ h in
      let b = passed _ _ _ a.1 in
      let c = passed _ _ _ b.1 in
      let d = passed _ _ _ c.1 in
      let e = passed _ _ _ d.1 in
      let f = passed _ _ _ e.1 in
      let g = passed _ _ _ f.1 in
      let k = passed _ _ _ g.1 in
      let l = passed _ _ _ k.1 in
      record {
        sound = undamaged_sound last G a.0;
        known = ltb-true _ _ (not-false _ b.0);
        exists = not-false _ c.0;
        not_cleared = ltb-false _ _ d.0;
        small = ltb-false _ _ f.0;
        clock_small = ltb-false _ _ g.0;
        last_less = eqb-false _ _ k.0;
        room = λ n. omega (arith, ltb-false (G.room - 3 * length G.entries) 3 (rw n at l.0));
      }

module _ (last : ℕ) (G : Group) (day stamp : ℕ) where
  -- a clear
  pub record Clearing : Type 0 where
    pub sound : Sound last G
    pub day_most : day ≤ last_day
    pub not_cleared : G.keptday ≤ day
    pub from : G.keptstamp ≤ stamp
    pub to : stamp ≤ last

  pub clearing : clear_verdict last G day stamp ≡ Ok tt → Clearing
  unfolding clear_verdict
  clearing h =
      let a = passed _ _ _ h in
      let b = passed _ _ _ a.1 in
      let c = passed _ _ _ b.1 in
      let d = passed _ _ _ c.1 in
      let e = passed _ _ _ d.1 in
      record {
        sound = undamaged_sound last G a.0;
        day_most = leb-true _ _ (not-false _ b.0);
        not_cleared = ltb-false _ _ c.0;
        from = omega (arith, ltb-false, d.0);
        to = ltb-false _ _ e.0;
      }

module _ (last : ℕ) (G : Group) (day quarter T : ℕ) (lent : List ℕ) where
  -- an evaluation
  pub record Evaluating : Type 0 where
    pub sound : Sound last G
    pub exists : quarter_exists day quarter ≡ true
    pub not_cleared : earliest G.keptday ≤ day
    pub from : G.keptstamp ≤ T
    pub to : T ≤ last
    pub long : size_of G.registration ≤ length lent

  pub evaluating : evaluation_verdict last G day quarter T lent ≡ Ok tt → Evaluating
  unfolding evaluation_verdict
  evaluating h =
      let a = passed _ _ _ h in
      let b = passed _ _ _ a.1 in
      let c = passed _ _ _ b.1 in
      let d = passed _ _ _ c.1 in
      let e = passed _ _ _ d.1 in
      let f = passed _ _ _ e.1 in
      record {
        sound = undamaged_sound last G a.0;
        exists = not-false _ b.0;
        not_cleared = ltb-false _ _ c.0;
        from = ltb-false _ _ d.0;
        to = ltb-false _ _ e.0;
        long = ltb-false _ _ f.0;
      }
