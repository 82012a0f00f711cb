-- `lines::put_columns` meets its contract: column after column.
use mathlib.Core.Path.{sym, ◌∙◌}
use native.Mathlib.Omega.{arith}
use Rattle.std.proofs.Common.{rules}
use lib.ListN.{length, length-append}
use Rattle.columns.proofs.Laws.{columns_of_nil}
use Rattle.lists.proofs.Adding.{added_none}
use Rattle.lists.proofs.Chains.{taken_one}
use Rattle.lines.proofs.Writing.{next_fits, next_put}
use Rattle.lines.proofs.put_columns.Goals as goal

pub loop-width-init : goal.loop-width-init
loop-width-init g c = record { widths = search rules; numbers = search rules; put = rw columns_of_nil (added_none (omega arith)) }

pub put_number-requires : goal.put_number-requires
put_number-requires g c =
    let a = c.args in
    let at = c.loop-width in
    let w = taken_one a.widths.now _ (length at.yielded) c.in-Some.width.now 0 (sym c.in-Some.ensures.steps.0 ∙ at.invariant.widths) in
    omega (arith, w.here, next_fits a.widths.now a.numbers.now (omega arith) (length at.yielded) w.within, at.invariant.put.put.end, at.invariant.put.same_length)

pub loop-width-preserved : goal.loop-width-preserved
loop-width-preserved g c =
    let a = c.args in
    let at = c.loop-width in
    let w = taken_one a.widths.now _ (length at.yielded) c.in-Some.width.now 0 (sym c.in-Some.ensures.steps.0 ∙ at.invariant.widths) in
    let n = taken_one a.numbers.now _ (length at.yielded) c.in-Some.number.now 0 (sym c.in-Some.ensures.steps.1 ∙ at.invariant.numbers) in
    rw length-append (record {
      widths = w.left;
      numbers = n.left;
      put = next_put a.widths.now a.numbers.now (omega arith) (length at.yielded) w.within at.invariant.put (rw (w.here, n.here) at c.put_number.ensures);
    })
