-- The record and the journal of a service: how a group stands in them, and what a call leaves there. Assumes nothing.
use Rattle.std.specs.Prelude.{ℕ, ◌-◌, List, length}
use Rattle.answers.specs.Numbers.{Verdict}
use Rattle.std.specs.Prelude.{Ok, Err}
use Rattle.registration.specs.declared.Registration.{Registration}
use Rattle.registration.specs.Damage.{empty}
use Rattle.journal.specs.Stored.{written}
use Rattle.group.specs.declared.Numbers.{Numbers}
use Rattle.group.specs.Group.{Group}
use Rattle.group.specs.Held.{group_in, numbers_of}
use Rattle.service.specs.declared.State.{State}
use Rattle.service.specs.declared.Service.{Service}
use Rattle.service.specs.Call.{Call, Seen, After}
use Rattle.service.specs.Calls.{step}

-- no entries, kept stamp 0, kept day 0
abbrev pub fresh_numbers : Numbers
fresh_numbers = record { kept_stamp = 0; kept_day = 0; entries = 0 }

-- and last stamp 0
abbrev pub fresh_state : State
fresh_state = record { last = 0; numbers = fresh_numbers }

-- a fresh service is made from a registration alone
abbrev pub fresh_service : Registration → Service
fresh_service r = record { registration = r; state = fresh_state }

-- the record with nothing but zeros
abbrev pub zero_service : Service
zero_service = fresh_service empty

-- the group that record and journal hold
abbrev pub group_of : Service → List ℕ → Group
group_of s j = group_in s.registration s.state.numbers j

-- the record's changing part, for a last stamp and a group
abbrev pub state_of : (last : ℕ) → Group → State
state_of last G = record { last = last; numbers = numbers_of G }

-- a record with another changing part: the registration stays
abbrev pub with_state : Service → State → Service
with_state s state = record { registration = s.registration; state = state }

-- what a call leaves: what is seen of it, the record and the journal
pub record Left : Type 0 where
  pub seen : Seen
  pub service : Service
  pub journal : List ℕ

-- how many entries are emptied where so many stood and so many are left: none where there are more than before
abbrev pub emptied_of : (stood left : ℕ) → ℕ
emptied_of stood left = stood - left

-- an accepted call writes the group back, and emptied numbers become 0; a refused one writes nothing
abbrev pub written_back : Verdict → Service → List ℕ → After → Left
written_back (Err refusal) s j after = record { seen = after.seen; service = s; journal = j }
written_back (Ok _) s j after =
    record {
      seen = after.seen;
      service = with_state s (state_of after.last after.group);
      journal = written after.group.entries (emptied_of s.state.numbers.entries (length after.group.entries)) j;
    }

-- a call on record and journal
unfoldable pub call_on : Service → List ℕ → Call → Left
call_on s j call =
    let after = step s.state.last (group_of s j) call in
    written_back after.seen.verdict s j after
