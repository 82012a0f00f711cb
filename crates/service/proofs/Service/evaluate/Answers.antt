-- `service::Service::evaluate` meets its contract. Assumes nothing.
use Rattle.std.proofs.Common.{◌≡◌, sym, Ok}
use Rattle.std.proofs.lemmas.Grind.{merely}
use Rattle.std.proofs.lemmas.Result.{err_from_is_err_and}
use Rattle.group.specs.Refusals.{evaluation_verdict}
use Rattle.service.specs.Record.{group_of}
use Rattle.service.proofs.Cores.{evaluation_asked, evaluates_refused, evaluates_accepted}
use Rattle.service.proofs.Service.evaluate.Goals as goal
use Rattle.service.proofs.Service.evaluate.Goals.{In_ok-evaluation_verdict}

pub returns-in_err-evaluation_verdict : goal.returns-in_err-evaluation_verdict
returns-in_err-evaluation_verdict c =
    let p = err_from_is_err_and c.from_residual.result c.from_residual.ensures.1 in
    rw (p.1, p.2) (evaluates_refused _ _ _ _ _ (rw (c.group.ensures.0, c.group.ensures.1) at (sym c.in_err-evaluation_verdict.ensures)))

-- past the tests the call is accepted
accepted : (c : In_ok-evaluation_verdict) → let a = c.args in
    evaluation_verdict a.self.now.state.last (group_of a.self.now a.journal.now) a.asked.day a.asked.quarter a.asked.until a.list.now ≡ Ok tt
accepted c = rw (c.group.ensures.0, c.group.ensures.1) at (sym c.in_ok-evaluation_verdict.ensures)

pub entries-entries-requires : goal.entries-entries-requires
entries-entries-requires c = (evaluation_asked _ _ _ _ (accepted (goal.at.entries-entries-requires c).In_ok-evaluation_verdict)).2

pub invariant_of-lookup : goal.invariant_of-lookup
invariant_of-lookup c =
    let asked = evaluation_asked _ _ _ _ (accepted (goal.at.invariant_of-lookup c).In_ok-evaluation_verdict) in
    record { readable = merely (record { exists = asked.1; right = rw c.entries-entries.ensures asked.3 }) }

pub evaluate-rounds-requires : goal.evaluate-rounds-requires
evaluate-rounds-requires c =
    let asked = evaluation_asked _ _ _ _ (accepted (goal.at.evaluate-rounds-requires c).In_ok-evaluation_verdict) in
    (asked.0, asked.4)

pub returns : goal.returns
returns c = evaluates_accepted _ _ _ _ (accepted (goal.at.returns c).In_ok-evaluation_verdict) _ _ (rw c.entries-entries.ensures at c.evaluate-rounds.ensures)
