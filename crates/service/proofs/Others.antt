-- What an accepted submission or clear leaves of the journal's numbers. Assumes nothing.
use Prim.Native.Nat.{ℕ, ◌+◌, ◌*◌, ◌≤◌}
use native.Mathlib.Omega.{arith}
use mathlib.Core.Path.{◌≡◌, sym, ap, ◌∙◌}
use mathlib.Core.Bool.{true, false}
use mathlib.Core.List.{List, [], ◌∷◌, ◌++◌}
use lib.ListN.{length, get_or, length-append}
use Rattle.std.specs.Prelude.{Ok}
use Rattle.lists.proofs.Cases.{by_test}
use Rattle.values.specs.declared.Measurement.{Measurement}
use Rattle.journal.specs.declared.Entry.{Entry}
use Rattle.journal.specs.Entries.{keep}
use Rattle.journal.specs.Stored.{entries, written}
use Rattle.journal.proofs.Kept.{length_keep}
use Rattle.journal.proofs.Stored.{length_entries, front_stays, emptied_zero, later_stay}
use Rattle.service.specs.declared.Service.{Service}
use Rattle.group.specs.Group.{Group, entry_of}
use Rattle.group.specs.Refusals.{repeats, submission_verdict, clear_verdict}
use Rattle.group.specs.Stamps.{next_stamp}
use Rattle.service.specs.Call.{Submission, Clear, refused}
use Rattle.service.specs.Calls.{submitted, cleared, step}
use Rattle.service.specs.Record.{group_of, emptied_of, call_on}
use Rattle.service.specs.Laws.{SubmissionLeavesOthers, ClearLeavesLater}
use Rattle.group.proofs.Admitted.{admitted}
use Rattle.group.proofs.Undamaged.{fits_of}
use Rattle.service.proofs.Accepted.{accepted_verdict}
use Rattle.service.proofs.ReadAgain.{same_seen}
use Rattle.service.proofs.Cores.{written_again}

module _ (s : Service) (j : List ℕ) (clock : ℕ) (m : Measurement) (e : refused (call_on s j (Submission clock m)).seen ≡ false) where
  abbrev last : ℕ
  last = s.state.last

  abbrev G : Group
  G = group_of s j

  abbrev count : ℕ
  count = s.state.numbers.entries

  -- the entries with the new one
  abbrev more : List Entry
  more = entries count j ++ (entry_of G (next_stamp clock last) m ∷ [])

  -- the verdict, and what follows from it: the entries that there were have room
  accepted : submission_verdict last G clock m ≡ Ok tt
  unfolding step
  accepted = accepted_verdict (submission_verdict last G clock m) last G [] (submitted last G clock m) (ap refused (sym (same_seen s j (Submission clock m))) ∙ e)

  fits : 3 * count ≤ length j
  fits = fits_of s.registration s.state.numbers j (admitted last G clock m accepted).sound

  more_by_one : length more ≡ count + 1
  more_by_one = omega (arith, length-append (entries count j) (entry_of G (next_stamp clock last) m ∷ []), length_entries count j)

  -- the journal of a repeat, and that with an entry more
  repeated : repeats last G m ≡ true → (call_on s j (Submission clock m)).journal ≡ j
  unfolding call_on step submitted
  repeated r = rw (accepted, r) (written_again s j fits)

  appended : repeats last G m ≡ false → (call_on s j (Submission clock m)).journal ≡ written more 0 j
  unfolding call_on step submitted
  appended r =
      let none : emptied_of count (length more) ≡ 0 = omega (arith, more_by_one) in
      rw (accepted, r, none)

  -- the entry count with an entry more
  counted : repeats last G m ≡ false → (call_on s j (Submission clock m)).service.state.numbers.entries ≡ count + 1
  unfolding call_on step submitted
  counted r = rw (accepted, r) more_by_one

  -- what stays where an entry is appended stays
  stays : (place : ℕ) → get_or (written more 0 j) place 0 ≡ get_or j place 0 → get_or (call_on s j (Submission clock m)).journal place 0 ≡ get_or j place 0
  stays place h = by_test (repeats last G m) (λ r. rw (repeated r)) (λ r. rw (appended r) h)

pub submission_leaves_others : SubmissionLeavesOthers
submission_leaves_others s j clock m e = (
  λ place h. stays s j clock m e place (front_stays s.state.numbers.entries _ 0 j place (fits s j clock m e) h),
  λ place h. stays s j clock m e place (later_stay (more s j clock m e) 0 j place (omega (arith, more_by_one s j clock m e))),
  λ h. by_test (repeats s.state.last (group_of s j) m) (repeated s j clock m e) (λ r. absurd (omega (arith, counted s j clock m e r))),
)

module _ (s : Service) (j : List ℕ) (day stamp : ℕ) (e : refused (call_on s j (Clear day stamp)).seen ≡ false) where
  -- the entries kept
  abbrev kept : List Entry
  kept = keep day stamp (group_of s j).entries

  -- the verdict
  clear_accepted : clear_verdict s.state.last (group_of s j) day stamp ≡ Ok tt
  unfolding step
  clear_accepted =
      accepted_verdict (clear_verdict s.state.last (group_of s j) day stamp) s.state.last (group_of s j) [] (cleared s.state.last (group_of s j) day stamp)
      (ap refused (sym (same_seen s j (Clear day stamp))) ∙ e)

  -- no more are kept than there were
  few : length kept ≤ s.state.numbers.entries
  few = omega (arith, length_keep day stamp (group_of s j).entries, length_entries s.state.numbers.entries j)

  -- the journal that is left, and its entry count
  left_journal : (call_on s j (Clear day stamp)).journal ≡ written kept (emptied_of s.state.numbers.entries (length kept)) j
  unfolding call_on step cleared
  left_journal = rw clear_accepted

  left_count : (call_on s j (Clear day stamp)).service.state.numbers.entries ≡ length kept
  unfolding call_on step cleared
  left_count = rw clear_accepted

pub clear_leaves_later : ClearLeavesLater
clear_leaves_later s j day stamp e =
    let es = kept s j day stamp e in
    let emptied = emptied_of s.state.numbers.entries (length es) in (
      λ place h. rw (left_journal s j day stamp e) (later_stay es emptied j place (omega (arith, few s j day stamp e))),
      λ place h l.
          rw (left_journal s j day stamp e)
          (emptied_zero es emptied j place (omega (arith, left_count s j day stamp e)) (omega (arith, few s j day stamp e))),
    )
