-- `lines::read_columns` meets its contract: the numbers read so far, before those of the other columns, are all the numbers.
use mathlib.Core.Path.{◌≡◌, sym, ap, ◌∙◌}
use Rattle.std.specs.Prelude.{None, Some}
use native.Mathlib.Omega.{arith}
use lib.ListN.{get_or, take, length-set}
use Rattle.std.proofs.lemmas.List.{take_more_set}
use Rattle.columns.specs.Column.{number_in}
use Rattle.lines.proofs.Parts.{next_width, next_refused, next_read, all_read}
use Rattle.lines.proofs.read_columns.Goals as goal

pub returns-in_err-numbers : goal.returns-in_err-numbers
returns-in_err-numbers g c =
    let at = c.loop-i in
    let ws = c.args.widths.now in
    let e : number_in (take (get_or ws at.i 0) at.rest.now) ≡ None = ap number_in (sym c.split_at.ensures.front) ∙ sym c.read_number.ensures ∙ c.in_err-numbers.was in
    c.from_residual.ensures ∙ sym (next_refused ws at.rest.now at.i (omega arith) (take at.i at.numbers) e) ∙ at.invariant.2

pub loop-i-preserved : goal.loop-i-preserved
loop-i-preserved g c =
    let at = c.loop-i in
    let ws = c.args.widths.now in
    let n = c.in_ok-numbers.field-0 in
    let e : number_in (take (get_or ws at.i 0) at.rest.now) ≡ Some n = ap number_in (sym c.split_at.ensures.front) ∙ sym c.read_number.ensures ∙ c.in_ok-numbers.was in (
      length-set at.numbers at.i n ∙ at.invariant.0,
      omega (arith, next_width ws at.rest.now at.i (omega arith), c.split_at.ensures.back_len),
      rw (take_more_set at.numbers at.i n (omega arith), c.split_at.ensures.back) (sym (next_read ws at.rest.now at.i (omega arith) (take at.i at.numbers) n e) ∙ at.invariant.2),
    )

pub returns : goal.returns
returns g c =
    let at = c.loop-i in
    sym (all_read c.args.widths.now at.rest.now at.numbers at.i (omega arith) at.invariant.0) ∙ at.invariant.2
