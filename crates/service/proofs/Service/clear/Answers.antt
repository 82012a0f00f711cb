-- `service::Service::clear` meets its contract. Assumes nothing.
use Rattle.std.proofs.Common.{arith, ◌≡◌, sym, Ok}
use Rattle.std.proofs.lemmas.Result.{err_from_is_err_and}
use Rattle.journal.proofs.Stored.{length_entries}
use Rattle.journal.specs.Stored.{entries}
use Rattle.journal.proofs.Kept.{length_keep}
use Rattle.group.specs.Refusals.{clear_verdict}
use Rattle.group.proofs.Undamaged.{few_points, right_for, fits_of}
use Rattle.service.specs.Record.{group_of}
use Rattle.service.proofs.Cores.{clear_sound, clears_refused, clears_accepted}
use Rattle.service.proofs.Service.clear.Goals as goal
use Rattle.service.proofs.Service.clear.Goals.{In_ok-clear_verdict}

pub returns-in_err-clear_verdict : goal.returns-in_err-clear_verdict
returns-in_err-clear_verdict c =
    let p = err_from_is_err_and c.from_residual.result c.from_residual.ensures.1 in
    rw (p.1, p.2) (clears_refused _ _ _ _ _ (rw (c.group.ensures.0, c.group.ensures.1) at (sym c.in_err-clear_verdict.ensures)))

-- past the tests the call is accepted
accepted : (c : In_ok-clear_verdict) → clear_verdict c.args.self.now.state.last (group_of c.args.self.now c.args.journal.now) c.args.day c.args.stamp ≡ Ok tt
accepted c = rw (c.group.ensures.0, c.group.ensures.1) at (sym c.in_ok-clear_verdict.ensures)

pub points-points-requires : goal.points-points-requires
points-points-requires c = few_points _ _ (clear_sound _ _ _ _ (accepted (goal.at.points-points-requires c).In_ok-clear_verdict))

pub keep-entries-requires : goal.keep-entries-requires
keep-entries-requires c =
    let s = clear_sound _ _ _ _ (accepted (goal.at.keep-entries-requires c).In_ok-clear_verdict) in
    (fits_of _ _ _ s, rw c.points-points.ensures (right_for _ _ (few_points _ _ s) s))

pub overflow_sub-result : goal.overflow_sub-result
overflow_sub-result c =
    let a = c.args in
    let n = a.self.now.state.numbers.entries in
    omega (arith, c.keep-entries.ensures.number, length_keep a.day a.stamp (entries n a.journal.now), length_entries n a.journal.now)

pub returns : goal.returns
returns c = clears_accepted _ _ _ _ (accepted (goal.at.returns c).In_ok-clear_verdict) _ _ c.keep-entries.ensures
