-- `lookup::Lookup::look_up` meets its contract: the reading, zero by the status, zero for lack of readings, or the mean. Assumes nothing.
use Rattle.std.proofs.Common.{arith, ltb-false, ltb-true}
use Rattle.lists.proofs.Cases.{by_test}
use Rattle.journal.specs.Stored.{entries_in}
use Rattle.lookup.specs.Substitutes.{not_active}
use Rattle.lookup.proofs.Substituted.{value_read, value_inactive, value_lacking, value_mean}
use Rattle.lookup.proofs.Lookup.look_up.Goals as goal

pub returns-in-Some : goal.returns-in-Some
returns-in-Some c =
    let a = c.args in
    value_read (entries_in a.self.now.entries.now) a.self.now.asked a.point a.status c.in-Some.magnitude (rw c.in-Some.is at c.requires.1)

pub returns-then-status-gt0 : goal.returns-then-status-gt0
returns-then-status-gt0 c =
    let a = c.args in
    value_inactive (entries_in a.self.now.entries.now) a.self.now.asked a.point a.status (rw c.in_default.is at c.requires.1)
    (by_test (not_active a.status) (λ t. t) (λ f. absurd (omega (arith, ltb-false))))

pub returns-in-Some-mean : goal.returns-in-Some-mean
returns-in-Some-mean c =
    let a = c.args in
    let weeks = c.earlier_weeks-weeks in
    let mean = c.in-Some-mean.ensures in
    value_mean (entries_in a.self.now.entries.now) a.self.now.asked a.point a.status (rw c.in_default.is at c.requires.1) weeks.result weeks.ensures
    (by_test (not_active a.status) (λ t. absurd (omega (arith, ltb-true))) (λ f. f)) c.in-Some-mean.magnitude mean.0 mean.1

pub returns-in-None : goal.returns-in-None
returns-in-None c =
    let a = c.args in
    let weeks = c.earlier_weeks-weeks in
    value_lacking (entries_in a.self.now.entries.now) a.self.now.asked a.point a.status (rw c.in_default.is at c.requires.1) weeks.result weeks.ensures
    (by_test (not_active a.status) (λ t. absurd (omega (arith, ltb-true))) (λ f. f)) (omega (arith, c.in-None.ensures))
