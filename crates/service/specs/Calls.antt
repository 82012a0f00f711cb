-- What each call does: its refusal, which alters nothing, or what an accepted call leaves. Assumes nothing.
use Rattle.std.specs.Prelude.{ℕ, ◌-◌, cond, List, [], ◌∷◌, ◌++◌, length}
use Rattle.answers.specs.Numbers.{Verdict}
use Rattle.std.specs.Prelude.{Ok, Err}
use Rattle.lists.specs.Place.{placed}
use Rattle.evaluation.specs.Layout.{result_of}
use Rattle.journal.specs.Readings.{shown, stamp_of}
use Rattle.journal.specs.declared.Entry.{Entry}
use Rattle.journal.specs.Entries.{keep}
use Rattle.evaluation.specs.Evaluation.{evaluation_of}
use Rattle.values.specs.declared.Measurement.{Measurement}
use Rattle.group.specs.Group.{Group, readings_of, readings_for, entry_of}
use Rattle.service.specs.Call.{Call, Submission, Clear, Evaluation, Seen, After}
use Rattle.group.specs.Refusals.{repeats, submission_verdict, clear_verdict, evaluation_verdict}
use Rattle.group.specs.Stamps.{next_stamp}

-- an accepted call that returns a number and was lent no list
abbrev pub returned : ℕ → Seen
returned number = record { verdict = Ok tt; number = number; result = [] }

-- a group with one entry more
abbrev pub with_entry : Group → Entry → Group
with_entry G e =
    record {
      registration = G.registration;
      keptstamp = G.keptstamp;
      keptday = G.keptday;
      entries = G.entries ++ (e ∷ []);
      room = G.room;
    }

-- a repeat stores nothing and returns the stamp of the reading shown; otherwise an entry is appended, whose stamp becomes the last stamp
unfoldable pub submitted : (last : ℕ) → Group → (clock : ℕ) → Measurement → After
submitted last G clock m =
    let new = next_stamp clock last in
    cond (repeats last G m)
    (record { seen = returned (stamp_of (shown last (readings_for G m))); last = last; group = G })
    (record { seen = returned new; last = new; group = with_entry G (entry_of G new m) })

-- a group with another kept day and kept stamp, and the entries that these keep
abbrev pub cleared_group : Group → (day stamp : ℕ) → Group
cleared_group G day stamp =
    record {
      registration = G.registration;
      keptstamp = stamp;
      keptday = day;
      entries = keep day stamp G.entries;
      room = G.room;
    }

-- a clear makes day and stamp K and P, keeps what they keep, and returns how many entries it dropped
unfoldable pub cleared : (last : ℕ) → Group → (day stamp : ℕ) → After
cleared last G day stamp =
    record {
      seen = returned (length G.entries - length (keep day stamp G.entries));
      last = last;
      group = cleared_group G day stamp;
    }

-- an evaluation puts its result into the list lent, whose later numbers stay, and returns the round count
unfoldable pub evaluated : (last : ℕ) → Group → (day quarter T : ℕ) → (lent : List ℕ) → After
evaluated last G day quarter T lent =
    let result = evaluation_of G.registration (readings_of G) day quarter T in
    record {
      seen = record { verdict = Ok tt; number = result.allocation.rounds; result = placed 0 (result_of result) lent };
      last = last;
      group = G;
    }

-- a refused call returns zeros and alters nothing
abbrev pub when_accepted : Verdict → (last : ℕ) → Group → (lent : List ℕ) → After → After
when_accepted (Ok _) last G lent accepted = accepted
when_accepted (Err refusal) last G lent accepted =
    record { seen = record { verdict = Err refusal; number = 0; result = lent }; last = last; group = G }

-- a call on a group under a last stamp
unfoldable pub step : (last : ℕ) → Group → Call → After
step last G (Submission clock m) =
    when_accepted (submission_verdict last G clock m) last G [] (submitted last G clock m)
step last G (Clear day stamp) = when_accepted (clear_verdict last G day stamp) last G [] (cleared last G day stamp)
step last G (Evaluation day quarter T lent) =
    when_accepted (evaluation_verdict last G day quarter T lent) last G lent (evaluated last G day quarter T lent)
