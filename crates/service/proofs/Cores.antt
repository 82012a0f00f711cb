-- What the calls leave in record and journal is what the definitions say. Assumes nothing.
use Prim.Native.Nat.{ℕ, ◌+◌, ◌*◌, ◌-◌, ◌≤◌}
use native.Mathlib.Omega.{arith}
use mathlib.Core.Path.{◌≡◌, sym, ap, ◌∙◌}
use mathlib.Core.Bool.{true, false}
use mathlib.Core.List.{List, [], ◌∷◌, ◌++◌}
use lib.ListN.{length, length-append}
use Rattle.answers.specs.declared.Refusal.{Refusal}
use Rattle.std.specs.Prelude.{Ok, Err}
use Rattle.lists.specs.Place.{placed}
use Rattle.values.specs.declared.Measurement.{Measurement}
use Rattle.calendar.specs.Quarters.{quarter_exists}
use Rattle.registration.proofs.Damage.{undamaged_parts}
use Rattle.allocation.specs.Input.{Shareable}
use Rattle.evaluation.specs.Layout.{size_of, ResultPut}
use Rattle.allocation.proofs.Laws.{undamaged_is_shareable}
use Rattle.evaluation.specs.Evaluation.{result_from}
use Rattle.evaluation.specs.Working.{values_in}
use Rattle.journal.specs.Readings.{shown, stamp_of}
use Rattle.journal.specs.Damage.{Right}
use Rattle.journal.specs.declared.Entry.{Entry}
use Rattle.journal.specs.Entries.{keep}
use Rattle.journal.specs.Stored.{entries, numbers, written}
use Rattle.journal.proofs.Stored.{length_entries, written_same, put_append}
use Rattle.journal_clear.specs.Cleared.{JournalCleared}
use Rattle.service.specs.declared.Service.{Service}
use Rattle.lookup.specs.declared.Asked.{Asked}
use Rattle.group.specs.Group.{Group, readings_for, entry_of}
use Rattle.group.specs.Refusals.{repeats, submission_verdict, clear_verdict, evaluation_verdict}
use Rattle.group.specs.Stamps.{next_stamp}
use Rattle.service.specs.Calls.{submitted, cleared, evaluated, step}
use Rattle.service.specs.Record.{group_of, state_of, with_state, emptied_of, call_on}
use Rattle.service.specs.Promises.{Submits, Clears, Evaluates}
use Rattle.group.proofs.Sound.{Sound}
use Rattle.group.proofs.Undamaged.{few_points, right_of, fits_of}
use Rattle.service.proofs.Own.{evaluation_own}
use Rattle.group.proofs.Admitted.{admitted, clearing, evaluating}

-- the record's changing part is that of the group it holds
pub state_of_lem : (s : Service) (j : List ℕ) → state_of s.state.last (group_of s j) ≡ s.state
state_of_lem s j = λ i. record {
  last = s.state.last;
  numbers = record {
    kept_stamp = s.state.numbers.kept_stamp;
    kept_day = s.state.numbers.kept_day;
    entries = length_entries s.state.numbers.entries j i;
  };
}

-- and writing its entries again alters nothing
pub written_again : (s : Service) (j : List ℕ) → 3 * s.state.numbers.entries ≤ length j
    → written (group_of s j).entries (emptied_of s.state.numbers.entries (length (group_of s j).entries)) j ≡ j
written_again s j h =
    let n = s.state.numbers.entries in
    let z : emptied_of n (length (entries n j)) ≡ 0 = omega (arith, length_entries n j) in
    rw z (written_same n j h)

-- ---- a submission
module _ (s : Service) (j : List ℕ) (clock : ℕ) (m : Measurement) where
  abbrev last : ℕ
  last = s.state.last

  abbrev G : Group
  G = group_of s j

  pub submits_refused : (refusal : Refusal) → submission_verdict last G clock m ≡ Err refusal → Submits s j clock m s (Err refusal) j
  unfolding call_on step
  submits_refused refusal v = record { service = rw v; answers = rw v; journal = rw v }

  module _ (v : submission_verdict last G clock m ≡ Ok tt) where
    pub submits_repeat : (stamp : ℕ) → repeats last G m ≡ true → stamp ≡ stamp_of (shown last (readings_for G m)) → Submits s j clock m s (Ok stamp) j
    unfolding call_on step submitted
    submits_repeat stamp r t =
        record {
          service = rw (v, r) (ap (with_state s) (sym (state_of_lem s j)));
          answers = rw (v, r, t);
          journal = rw (v, r) (sym (written_again s j (fits_of _ _ _ (admitted last G clock m v).sound)));
        }

    module _ (r : repeats last G m ≡ false) where
      -- a new entry has room
      pub new_fits : 3 * s.state.numbers.entries + 3 ≤ length j
      new_fits = omega (arith, (admitted last G clock m v).room r, length_entries s.state.numbers.entries j)

      pub submits_new : (j' : List ℕ) (e : Entry) → e ≡ entry_of G (next_stamp clock last) m
          → j' ≡ placed (3 * s.state.numbers.entries) (numbers e) j
          → Submits s j clock m
          (with_state s (record {
            last = e.stamp;
            numbers = record { kept_stamp = s.state.numbers.kept_stamp; kept_day = s.state.numbers.kept_day; entries = s.state.numbers.entries + 1 };
          }))
          (Ok e.stamp) j'
      unfolding call_on step submitted
      submits_new j' e t q =
          let n = s.state.numbers.entries in
          let new : Entry = entry_of G (next_stamp clock last) m in
          let grown : length (entries n j ++ (new ∷ [])) ≡ n + 1 = length-append (entries n j) (new ∷ []) ∙ ap (λ (x : ℕ). x + 1) (length_entries n j) in
          let none : emptied_of n (length (entries n j ++ (new ∷ []))) ≡ 0 = omega (arith, grown) in
          record {
            service = rw (v, r, t, grown);
            answers = rw (v, r, t);
            journal = rw (v, r, none) (q ∙ rw t (sym (put_append new n j new_fits)));
          }

-- ---- a clear
module _ (s : Service) (j : List ℕ) (day stamp : ℕ) where
  pub clears_refused : (refusal : Refusal) → clear_verdict s.state.last (group_of s j) day stamp ≡ Err refusal → Clears s j day stamp s (Err refusal) j
  unfolding call_on step
  clears_refused refusal v = record { service = rw v; answers = rw v; journal = rw v }

  module _ (v : clear_verdict s.state.last (group_of s j) day stamp ≡ Ok tt) where
    pub clear_sound : Sound s.state.last (group_of s j)
    clear_sound = (clearing _ _ _ _ v).sound

    pub clears_accepted : (count : ℕ) (j' : List ℕ) → JournalCleared day stamp s.state.numbers.entries j j' count
        → Clears s j day stamp (with_state s (record { last = s.state.last; numbers = record { kept_stamp = stamp; kept_day = day; entries = count } }))
        (Ok (s.state.numbers.entries - count)) j'
    unfolding call_on step cleared
    clears_accepted count j' c =
        let n = s.state.numbers.entries in
        let es = keep day stamp (entries n j) in
        let emptied : n - length es ≡ emptied_of n (length es) = omega arith in
        record {
          service = rw (v, c.number);
          answers = rw (v, c.number, length_entries n j);
          journal = rw v (c.journal ∙ ap (λ (x : ℕ). written es x j) emptied);
        }

-- ---- an evaluation
module _ (s : Service) (j : List ℕ) (asked : Asked) (lent : List ℕ) where
  pub evaluates_refused : (refusal : Refusal) → evaluation_verdict s.state.last (group_of s j) asked.day asked.quarter asked.until lent ≡ Err refusal
      → Evaluates s j asked lent (Err refusal) lent
  unfolding call_on step
  evaluates_refused refusal v = record { answers = rw v; result = rw v }

  -- what an accepted evaluation has passed
  module _ (v : evaluation_verdict s.state.last (group_of s j) asked.day asked.quarter asked.until lent ≡ Ok tt) where
    pub evaluation_sound : Sound s.state.last (group_of s j)
    evaluation_sound = (evaluating _ _ _ _ _ _ v).sound

    pub evaluation_asked : Shareable s.registration × (quarter_exists asked.day asked.quarter ≡ true) × (3 * s.state.numbers.entries ≤ length j)
        × Right (entries s.state.numbers.entries j) × (size_of s.registration ≤ length lent)
    evaluation_asked =
        let k = evaluation_sound in
        let m = evaluating _ _ _ _ _ _ v in
        (undamaged_is_shareable _ k.registered, m.exists, fits_of _ _ _ k, right_of _ _ (few_points _ _ k) k, m.long)

    pub evaluates_accepted : (rounds : ℕ) (lent' : List ℕ)
        → ResultPut (result_from s.registration (values_in s.registration (entries s.state.numbers.entries j) asked.day asked.quarter asked.until)) lent lent' rounds
        → Evaluates s j asked lent (Ok rounds) lent'
    unfolding call_on step evaluated
    evaluates_accepted rounds lent' m =
        let own = evaluation_own (group_of s j) asked.day asked.quarter asked.until (undamaged_parts _ evaluation_sound.registered).differ in
        record { answers = rw (v, own, m.rounds); result = rw (v, own) m.list }
