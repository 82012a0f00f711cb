-- `lookup::Lookup::earlier_weeks` meets its contract: what has been met and what is left give the earlier weeks' sum and number. Assumes nothing.
use Rattle.std.proofs.Common.{◌-◌, length, arith}
use Rattle.lookup.proofs.Passed.{next_bounds}
use Rattle.lookup.proofs.Apart.{first_bound}
use Rattle.lookup.proofs.NearEnd.{near_most}
use Rattle.lookup.proofs.Passing.{few, passing_none, passing_back, passing_near, passing_met, passing_all}
use Rattle.lookup.proofs.Opened.{readable_in}
use Rattle.lookup.proofs.Lookup.earlier_weeks.Goals as goal

pub near_end-end-requires : goal.near_end-end-requires
near_end-end-requires c =
    let a = c.args.self.now in
    let known = readable_in a in
    (omega arith, rw c.first_near-near.ensures (first_bound a.asked known.exists c.args.point c.requires))

pub loop-end-init : goal.loop-end-init
loop-end-init c =
    let a = c.args.self.now in
    let known = readable_in a in
    let none_met = passing_none a.entries.now a.asked c.args.point known.right known.exists in
    rw (c.near_end-end.ensures, c.first_near-near.ensures, c.all_sought-weeks.ensures) (passing_near a.entries.now a.asked c.args.point known.right (length a.entries.now) _ none_met)

pub pass-requires : goal.pass-requires
pass-requires c =
    let a = c.args.self.now in
    let known = readable_in a in
    let xs = a.entries.now in
    let l = c.loop-end in
    let most = few xs a.asked c.args.point l.end l.weeks l.invariant in
    let bounds = next_bounds xs (l.end - 1) (omega (arith, l.invariant.within)) known.right in
    (omega (arith, l.invariant.small, most), most, rw c.from.ensures bounds.1)

pub returns-then-weeks-eq-WEEKS : goal.returns-then-weeks-eq-WEEKS
returns-then-weeks-eq-WEEKS c =
    let a = c.args.self.now in
    let known = readable_in a in
    let xs = a.entries.now in
    let l = c.loop-end in
    let back = passing_back xs a.asked c.args.point known.right l.end l.weeks (omega arith) l.invariant c.pass.new.self (rw c.from.ensures at c.pass.ensures) in
    passing_met xs a.asked c.args.point (l.end - 1) c.pass.new.self back (omega (arith, c.if-weeks-eq-WEEKS.true))

pub near_end-end-requires-in-loop-end : goal.near_end-end-requires-in-loop-end
near_end-end-requires-in-loop-end c =
    let a = c.args.self.now in
    let known = readable_in a in
    let l = c.loop-end in
    (omega (arith, l.invariant.within), rw c.first_near-near.ensures (first_bound a.asked known.exists c.args.point c.requires))

pub loop-end-smaller : goal.loop-end-smaller
loop-end-smaller c =
    let l = c.loop-end in
    omega (arith, c.near_end-end-in-loop-end.ensures, near_most c.first_near-near.result c.args.self.now.entries.now (l.end - 1))

pub loop-end-preserved : goal.loop-end-preserved
loop-end-preserved c =
    let a = c.args.self.now in
    let known = readable_in a in
    let xs = a.entries.now in
    let l = c.loop-end in
    let back = passing_back xs a.asked c.args.point known.right l.end l.weeks (omega arith) l.invariant c.pass.new.self (rw c.from.ensures at c.pass.ensures) in
    rw (c.near_end-end-in-loop-end.ensures, c.first_near-near.ensures) (passing_near xs a.asked c.args.point known.right (l.end - 1) c.pass.new.self back)

pub returns : goal.returns
returns c =
    let a = c.args.self.now in
    let l = c.loop-end in
    passing_all a.entries.now a.asked c.args.point l.end l.weeks l.invariant (omega (arith, c.loop-end-test.false))
