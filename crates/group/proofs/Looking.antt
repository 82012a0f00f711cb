-- What the tests of a submission rest on: what holds of a group that is not damaged. Assumes nothing.
use Rattle.std.proofs.Common.{ℕ, ◌*◌, ◌≤◌, ◌≡◌, true, false, List, length, Ok, Result}
use Rattle.answers.specs.declared.Refusal.{Refusal}
use Rattle.std.specs.Result.{result_and}
use Rattle.values.specs.declared.Measurement.{Measurement}
use Rattle.lists.proofs.TableLaws.{length_table}
use Rattle.calendar.specs.Quarters.{quarter_exists}
use Rattle.calendar.proofs.Laws.{exists_day, exists_quarter}
use Rattle.registration.specs.declared.Registration.{Registration}
use Rattle.journal.specs.declared.Entry.{Entry}
use Rattle.journal.specs.Damage.{Right}
use Rattle.journal.specs.Stored.{entries}
use Rattle.journal.specs.Readings.{shown, stamp_of}
use Rattle.lists.proofs.Cases.{by_test}
use Rattle.journal.proofs.Stored.{length_entries}
use Rattle.group.specs.declared.Looked.{Looked}
use Rattle.group.specs.declared.Looked.TheVariants.{Repeat, New}
use Rattle.group.specs.Working.{damage_verdict, looked_of}
use Rattle.group.specs.declared.Numbers.{Numbers}
use Rattle.group.specs.Group.{Group, readings_for, entry_of}
use Rattle.group.specs.Held.{group_in}
use Rattle.group.specs.Refusals.{repeats, submission_verdict}
use Rattle.group.specs.Stamps.{stamp_most, next_stamp}
use Rattle.group.proofs.Undamaged.{few_points, right_of, fits_of}
use Rattle.group.proofs.Tests.{sound_of, few_of}

-- a quarter that exists is one of the hundred
pub first_quarter : (day quarter : ℕ) → quarter_exists day quarter ≡ true → 1 ≤ quarter
first_quarter day quarter e = (exists_quarter day quarter e).0

pub last_quarter : (day quarter : ℕ) → quarter_exists day quarter ≡ true → quarter ≤ 100
last_quarter day quarter e = (exists_quarter day quarter e).1

-- where a group passes its test its entries fit into the journal and are right, and its last stamp is one
pub fits : (last : ℕ) (r : Registration) (numbers : Numbers) (j : List ℕ) → Ok tt ≡ damage_verdict last (group_in r numbers j) → 3 * numbers.entries ≤ length j
fits last r numbers j e = fits_of r numbers j (sound_of last (group_in r numbers j) e)

pub rising : (last : ℕ) (r : Registration) (numbers : Numbers) (j : List ℕ) → Ok tt ≡ damage_verdict last (group_in r numbers j) → Right (entries numbers.entries j)
rising last r numbers j e = let s = sound_of last (group_in r numbers j) e in right_of _ _ (few_points _ _ s) s

pub last_most : (last : ℕ) (G : Group) → Ok tt ≡ damage_verdict last G → last ≤ stamp_most
last_most last G e = (sound_of last G e).last_stamp

pub ruleset looking = (length_table, length_entries, few_of, exists_day, first_quarter, last_quarter, fits, rising, last_most)

-- what is looked up tells whether the submission is a repeat, and what it gives
module _ (last : ℕ) (G : Group) (clock : ℕ) (m : Measurement) where
  pub repeat_told : (e : Entry) → Repeat e ≡ looked_of last G clock m
      → (repeats last G m ≡ true) × (e ≡ entry_of G (stamp_of (shown last (readings_for G m))) m)
  repeat_told e q = by_test (repeats last G m) (λ t. (t, cc (rw t at q))) (λ t. cc (rw t at q))

  pub new_told : (e : Entry) → New e ≡ looked_of last G clock m → (repeats last G m ≡ false) × (e ≡ entry_of G (next_stamp clock last) m)
  new_told e q = by_test (repeats last G m) (λ t. cc (rw t at q)) (λ t. (t, cc (rw t at q)))

-- what is looked up in one group is looked up in an equal one
pub look_same : {r : Result Looked Refusal} (last last' : ℕ) (G G' : Group) (clock : ℕ) (m : Measurement) → (G' ≡ G) × (last' ≡ last)
    → r ≡ result_and (submission_verdict last' G' clock m) (Ok (looked_of last' G' clock m)) → r ≡ result_and (submission_verdict last G clock m) (Ok (looked_of last G clock m))
look_same last last' G G' clock m e h = rw (e.0, e.1) at h
