-- A refused call alters nothing; no call alters the journal's length or the registration; a clear sets nothing back. Assumes nothing.
use Prim.Native.Nat.{ℕ}
use mathlib.Core.Path.{◌≡◌, refl, sym, ap, ◌∙◌}
use mathlib.Core.Bool.{true, false≢true}
use mathlib.Core.List.{List, []}
use Rattle.answers.specs.Numbers.{Verdict}
use Rattle.std.specs.Prelude.{Ok, Err}
use Rattle.service.specs.declared.Service.{Service}
use Rattle.group.specs.Group.{Group}
use Rattle.service.specs.Call.{Seen, After, is_refused, refused}
use Rattle.group.specs.Refusals.{clear_verdict}
use Rattle.service.specs.Calls.{cleared, step}
use Rattle.service.specs.Record.{group_of, written_back, call_on}
use Rattle.service.specs.Laws.{lent_by, RefusedAltersNothing, LengthStays, ClearGoesOn}
use Rattle.service.proofs.Leaves.{Untouched, Leaves, leaves}
use Rattle.service.proofs.ReadAgain.{through}
use Rattle.service.proofs.Accepted.{accepted_verdict}
use Rattle.group.proofs.Admitted.{clearing}

-- a refused call writes nothing back
nothing_written : (verdict : Verdict) (s : Service) (j : List ℕ) (after : After) → is_refused verdict ≡ true
    → ((written_back verdict s j after).service ≡ s) × ((written_back verdict s j after).journal ≡ j)
nothing_written (Ok _) s j after e = absurd (false≢true e)
nothing_written (Err refusal) s j after e = (refl, refl)

-- and leaves the group untouched
untouched : (verdict : Verdict) (last : ℕ) (G : Group) (lent : List ℕ) (after : After) → is_refused verdict ≡ true
    → Leaves verdict last G lent after → Untouched last G lent after
untouched (Ok _) last G lent after e k = absurd (false≢true e)
untouched (Err refusal) last G lent after e k = k

-- so a refused call alters nothing
pub refused_alters_nothing : RefusedAltersNothing
unfolding call_on
refused_alters_nothing s j call e =
    let after = step s.state.last (group_of s j) call in
    let seen : (call_on s j call).seen ≡ after.seen = (through s j call).seen in
    let e' : is_refused after.seen.verdict ≡ true = ap refused (sym seen) ∙ e in
    let w = nothing_written after.seen.verdict s j after e' in
    let u = untouched after.seen.verdict s.state.last (group_of s j) (lent_by call) after e' (leaves s.state.last (group_of s j) call) in
    record {
      service = w.0;
      journal = w.1;
      result = ap (λ (a : Seen). a.result) seen ∙ u.result;
      number = ap (λ (a : Seen). a.number) seen ∙ u.number;
    }

-- what is written back is as long as what was there, and the registration is not written
pub length_stays : LengthStays
length_stays s j call = ((through s j call).length_same, (through s j call).registration)

-- an accepted clear has passed the tests that say so
pub clear_goes_on : ClearGoesOn
unfolding step cleared
clear_goes_on last G day stamp e =
    let v : clear_verdict last G day stamp ≡ Ok tt = accepted_verdict _ last G [] (cleared last G day stamp) e in
    let a = clearing last G day stamp v in
    rw v (a.not_cleared, a.from, a.to)
