-- What a call leaves in record and journal is what it leaves of the group that they hold: what is written back is read again. Assumes nothing.
use Prim.Native.Nat.{ℕ}
use native.Mathlib.Omega.{arith}
use mathlib.Core.Path.{◌≡◌, refl, sym, ◌∙◌}
use mathlib.Core.List.{List}
use lib.ListN.{length}
use Rattle.answers.specs.Numbers.{Verdict}
use Rattle.std.specs.Prelude.{Ok, Err}
use Rattle.journal.specs.Stored.{written}
use Rattle.journal.proofs.Stored.{entries_written, length_entries, length_written}
use Rattle.service.specs.declared.Service.{Service}
use Rattle.service.specs.Call.{Call, After}
use Rattle.service.specs.Calls.{step}
use Rattle.service.specs.Record.{group_of, Left, emptied_of, written_back, call_on}
use Rattle.service.specs.Laws.{lent_by}
use Rattle.service.proofs.Leaves.{Fits, Leaves, leaves}

-- what is seen stays what it was, whether the group is written back or not
seen_kept : (verdict : Verdict) (s : Service) (j : List ℕ) (after : After) → (written_back verdict s j after).seen ≡ after.seen
seen_kept (Ok _) s j after = refl
seen_kept (Err refusal) s j after = refl

-- a call on record and journal shows what it shows on the group that they hold
pub same_seen : (s : Service) (j : List ℕ) (call : Call) → (call_on s j call).seen ≡ (step s.state.last (group_of s j) call).seen
unfolding call_on
same_seen s j call =
    let after = step s.state.last (group_of s j) call in
    seen_kept after.seen.verdict s j after

-- what is left in record and journal, of what is left of the group
pub record Through (s : Service) (j : List ℕ) (after : After) (left : Left) : Type 0 where
  pub seen : left.seen ≡ after.seen
  pub last : left.service.state.last ≡ after.last
  pub group : group_of left.service left.journal ≡ after.group
  pub registration : left.service.registration ≡ s.registration
  pub length_same : length left.journal ≡ length j

-- a call on record and journal that leaves this of the group in them
module _ (s : Service) (j : List ℕ) (after : After) where
  -- an accepted call
  through_accepted : Fits (group_of s j) after → Through s j after (written_back (Ok tt) s j after)
  through_accepted f =
      let es = after.group.entries in
      let emptied = emptied_of s.state.numbers.entries (length es) in
      let n = length_entries s.state.numbers.entries j in
      let l : length (written es emptied j) ≡ length j = length_written es emptied j (omega (arith, n, f.before, f.now)) in
      let r : s.registration ≡ after.group.registration = sym f.registration in
      let room : length (written es emptied j) ≡ after.group.room = l ∙ sym f.room in
      let again = entries_written es emptied j in
      record {
        seen = refl;
        last = refl;
        group = λ i. record {
          registration = r i;
          keptstamp = after.group.keptstamp;
          keptday = after.group.keptday;
          entries = again i;
          room = room i;
        };
        registration = refl;
        length_same = l;
      }

  -- a call of either verdict
  through_either : (verdict : Verdict) (lent : List ℕ) → Leaves verdict s.state.last (group_of s j) lent after
      → Through s j after (written_back verdict s j after)
  through_either (Ok _) lent f = through_accepted f
  through_either (Err refusal) lent k =
      record { seen = refl; last = sym k.last_same; group = sym k.group; registration = refl; length_same = refl }

-- every call, on whatever record and journal
pub through : (s : Service) (j : List ℕ) (call : Call) → Through s j (step s.state.last (group_of s j) call) (call_on s j call)
unfolding call_on
through s j call =
    let after = step s.state.last (group_of s j) call in
    through_either s j after after.seen.verdict (lent_by call) (leaves s.state.last (group_of s j) call)
