-- `service::Service::submit` meets its contract. Assumes nothing.
use Rattle.std.proofs.Common.{arith, ◌≡◌, sym, ap, ◌∙◌, Ok}
use Rattle.std.proofs.lemmas.Result.{err_from_is_err_and}
use Rattle.answers.proofs.Values.{refused_told, given_told}
use Rattle.journal.specs.declared.Entry.{Entry}
use Rattle.group.specs.Refusals.{submission_verdict}
use Rattle.group.specs.Working.{looked_of}
use Rattle.group.proofs.Looking.{repeat_told, new_told, look_same}
use Rattle.service.specs.Record.{group_of}
use Rattle.service.proofs.Cores.{submits_refused, submits_repeat, new_fits, submits_new}
use Rattle.service.proofs.Service.submit.Goals as goal
use Rattle.service.proofs.Service.submit.Goals.{In_ok-entry}

pub returns-in_err-entry : goal.returns-in_err-entry
returns-in_err-entry c =
    let p = err_from_is_err_and c.from_residual.result c.from_residual.ensures.1 in
    rw (p.1, p.2) (submits_refused _ _ _ _ _ (refused_told _ _ _ (look_same _ _ _ _ _ _ c.group.ensures c.in_err-entry.ensures)))

-- past the tests the call is accepted
accepted : (c : In_ok-entry) → let a = c.args in
    let G = group_of a.self.now a.journal.now in
    (submission_verdict a.self.now.state.last G a.clock a.measurement ≡ Ok tt) × (c.in_ok-entry.field-0 ≡ looked_of a.self.now.state.last G a.clock a.measurement)
accepted c = given_told _ _ _ (look_same _ _ _ _ _ _ c.group.ensures c.in_ok-entry.ensures)

pub returns-in-Repeat : goal.returns-in-Repeat
returns-in-Repeat c =
    let a = c.args in
    let v = accepted (goal.at.returns-in-Repeat c).In_ok-entry in
    let t = repeat_told a.self.now.state.last (group_of a.self.now a.journal.now) a.clock a.measurement c.in-Repeat.entry (sym c.in-Repeat.is ∙ v.1) in
    submits_repeat _ _ _ _ v.0 c.in-Repeat.entry.stamp t.0 (ap (λ (e : Entry). e.stamp) t.1)

pub put-requires : goal.put-requires
put-requires c =
    let a = c.args in
    let v = accepted (goal.at.put-requires c).In_ok-entry in
    let t = new_told a.self.now.state.last (group_of a.self.now a.journal.now) a.clock a.measurement c.in-New.entry (sym c.in-New.is ∙ v.1) in
    new_fits _ _ _ _ v.0 t.0

pub overflow_add-self : goal.overflow_add-self
overflow_add-self c =
    let a = c.args in
    let v = accepted (goal.at.overflow_add-self c).In_ok-entry in
    let t = new_told a.self.now.state.last (group_of a.self.now a.journal.now) a.clock a.measurement c.in-New.entry (sym c.in-New.is ∙ v.1) in
    omega (arith, new_fits _ _ _ _ v.0 t.0)

pub returns-in-New : goal.returns-in-New
returns-in-New c =
    let a = c.args in
    let v = accepted (goal.at.returns-in-New c).In_ok-entry in
    let t = new_told a.self.now.state.last (group_of a.self.now a.journal.now) a.clock a.measurement c.in-New.entry (sym c.in-New.is ∙ v.1) in
    submits_new _ _ _ _ v.0 t.0 _ c.in-New.entry t.1 c.put.ensures
