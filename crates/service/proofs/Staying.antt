-- Where nothing is damaged, no call leaves anything damaged. Assumes nothing.
use Prim.Native.Nat.{ℕ, ◌+◌, ◌*◌, ◌≤◌}
use native.Mathlib.Omega.{arith}
use mathlib.Core.Path.{◌≡◌, refl}
use mathlib.Core.Bool.{true, ◌||◌}
use mathlib.Core.List.{List, [], ◌∷◌}
use lib.Dec.{leb, ltb}
use lib.IntN.{nat_abs}
use lib.ListN.{length, length-append}
use borrow.Author.Tests.{leb-true, lt-ltb, le-leb}
use Rattle.answers.specs.Numbers.{Verdict}
use Rattle.std.specs.Prelude.{Ok, Err}
use Rattle.lists.proofs.Cases.{by_test}
use Rattle.lists.proofs.Below.{and_left}
use Rattle.values.specs.declared.Measurement.{Measurement}
use Rattle.values.specs.Values.{magnitude_most}
use Rattle.calendar.proofs.Laws.{exists_day, exists_quarter}
use Rattle.journal.specs.Readings.{shown, has_stamp}
use Rattle.journal.specs.declared.Entry.{Entry}
use Rattle.journal.specs.Entries.{day_in, readings_at, kept, keep}
use Rattle.journal.specs.Damage.{entry_right}
use Rattle.journal.proofs.PlaceLaws.{point_in_place, day_in_place, quarter_in_place}
use Rattle.journal.proofs.Kept.{length_keep}
use Rattle.journal.proofs.RightEntries.{right_snoc, right_those}
use Rattle.points.specs.Points.{index_of}
use Rattle.group.specs.Group.{Group, roll_of, entry_of}
use Rattle.service.specs.Call.{Call, Submission, Clear, Evaluation, After}
use Rattle.group.specs.Refusals.{repeats, evaluation_verdict}
use Rattle.group.specs.Stamps.{next_stamp}
use Rattle.service.specs.Calls.{with_entry, submitted, cleared_group, cleared, evaluated, when_accepted, step}
use Rattle.service.specs.Laws.{StaysUndamaged}
use Rattle.group.proofs.Sound.{Sound, undamaged, undamaged_sound}
use Rattle.group.proofs.Admitted.{Admitted, admitted, Clearing, clearing}

module _ (last : ℕ) (G : Group) (clock : ℕ) (m : Measurement) (a : Admitted last G clock m) where
  -- the entry that an accepted submission appends
  abbrev new : Entry
  new = entry_of G (next_stamp clock last) m

  -- it is right
  entry_right_lem : entry_right (length (roll_of G)) G.keptday new ≡ true
  unfolding entry_right
  entry_right_lem =
      let i = index_of m.code (roll_of G) in
      let d = exists_day m.day m.quarter a.exists in
      let q = exists_quarter m.day m.quarter a.exists in
      cc (
        point_in_place i m.day m.quarter d q.0 q.1,
        day_in_place i m.day m.quarter d q.0 q.1,
        quarter_in_place i m.day m.quarter d q.0 q.1,
        lt-ltb i (length (roll_of G)) a.known,
        le-leb G.keptday m.day a.not_cleared,
        a.exists,
        le-leb (nat_abs m.value) magnitude_most a.small,
      )

  -- the group with it is sound, under its stamp
  pub sound_more : 3 * (length G.entries + 1) ≤ G.room → Sound (next_stamp clock last) (with_entry G new)
  sound_more room =
      let r = a.sound in
      record {
        registered = r.registered;
        kept_stamp = omega (arith, r.kept_stamp);
        last_stamp = omega (arith, a.last_less, a.clock_small, r.last_stamp);
        kept_day = r.kept_day;
        fits = omega (arith, length-append G.entries (new ∷ []));
        right = right_snoc (length (roll_of G)) G.keptday last new (omega arith) entry_right_lem 0 (omega arith) G.entries r.right;
      }

  -- an accepted submission leaves a sound group, whether it is a repeat or not
  submitted_sound : Sound (submitted last G clock m).last (submitted last G clock m).group
  unfolding submitted
  submitted_sound = by_test (repeats last G m) (λ t. rw t a.sound) (λ t. rw t (sound_more (a.room t)))

-- so does an accepted clear
pub sound_less : (last : ℕ) (G : Group) (day stamp : ℕ) → Clearing last G day stamp → Sound last (cleared_group G day stamp)
unfolding keep
sound_less last G day stamp a =
    let r = a.sound in
    record {
      registered = r.registered;
      kept_stamp = a.to;
      last_stamp = r.last_stamp;
      kept_day = a.day_most;
      fits = omega (arith, length_keep day stamp G.entries, r.fits);
      right = right_those (length (roll_of G)) G.keptday last day (kept day stamp G.entries)
          (λ e t. leb-true day (day_in e.place) (and_left (leb day (day_in e.place))
          (ltb stamp e.stamp || has_stamp (shown stamp (readings_at G.entries e.place)) e.stamp) t))
          0 0 (omega arith) G.entries r.right;
    }

-- a refused call leaves the group that there was
sound_when_accepted : (verdict : Verdict) (last : ℕ) (G : Group) (lent : List ℕ) (after : After) → Sound last G
    → (verdict ≡ Ok tt → Sound after.last after.group)
    → Sound (when_accepted verdict last G lent after).last (when_accepted verdict last G lent after).group
sound_when_accepted (Ok _) last G lent after k f = f refl
sound_when_accepted (Err refusal) last G lent after k f = k

-- every call
sound_after : (last : ℕ) (G : Group) (call : Call) → Sound last G → Sound (step last G call).last (step last G call).group
unfolding step cleared evaluated
sound_after last G (Submission clock m) k =
    sound_when_accepted _ last G [] _ k (λ e. submitted_sound last G clock m (admitted last G clock m e))
sound_after last G (Clear day stamp) k = sound_when_accepted _ last G [] _ k (λ e. sound_less last G day stamp (clearing last G day stamp e))
sound_after last G (Evaluation day quarter T lent) k =
    sound_when_accepted (evaluation_verdict last G day quarter T lent) last G lent (evaluated last G day quarter T lent) k (λ e. k)

pub stays_undamaged : StaysUndamaged
stays_undamaged last G call h = undamaged _ _ (sound_after last G call (undamaged_sound last G h))
