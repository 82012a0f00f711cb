-- `columns::read_signed` meets its contract, by `Judged.antt` and the signs of `values`.
use Prim.Native.Nat.{◌^◌, ◌<◌}
use mathlib.Core.Path.{◌≡◌, refl, ap, ◌∙◌}
use mathlib.Core.Bool.{Bool, true, false, not, ◌&&◌}
use native.Mathlib.Omega.{arith}
use borrow.Author.Tests.{eq-eqb, ne_eqb}
use lib.Dec.{eqb}
use Rattle.std.specs.Prelude.{Some}
use Rattle.std.proofs.Common.{rules}
use Rattle.columns.specs.Column.{signed_if, signed_in}
use Rattle.columns.proofs.Judged.{too_wide, signed_refused, value_fits, signed_judged}
use Rattle.values.proofs.Signs.{stays, negation_fits, negation_read}
use Rattle.columns.proofs.read_signed.Goals as goal
use Rattle.columns.proofs.read_signed.Goals.{In_ok-value}

pub returns-then-column-gt-WIDEST : goal.returns-then-column-gt-WIDEST
returns-then-column-gt-WIDEST c = too_wide c.args.column.now (omega arith)

pub returns-in_err-value : goal.returns-in_err-value
returns-in_err-value c = c.from_residual.ensures ∙ signed_refused c.args.column.now _ c.contains-minus.ensures.value _ c.read_digits.ensures c.in_err-value.was

-- a number that was read fits either sign, and its sign and whether it is 0 say what the column is read as
fits : (c : In_ok-value) → c.in_ok-value.field-0 < 2 ^ 63
fits c = value_fits c.args.column.now _ c.contains-minus.ensures.value _ c.read_digits.ensures _ c.in_ok-value.was

judged : (c : In_ok-value) (sign none : Bool) → c.contains-minus.result ≡ sign → eqb c.in_ok-value.field-0 0 ≡ none
    → signed_if (not (sign && none)) sign c.in_ok-value.field-0 ≡ signed_in c.args.column.now
judged c = signed_judged c.args.column.now _ c.contains-minus.ensures.value _ c.read_digits.ensures _ c.in_ok-value.was

pub overflow_cast-value : goal.overflow_cast-value
overflow_cast-value c = record { sfits = fits c }

pub overflow_sub-result : goal.overflow_sub-result
overflow_sub-result c = negation_fits _ (fits (goal.at.overflow_sub-result c).In_ok-value)

pub returns-in-true-eq0 : goal.returns-in-true-eq0
returns-in-true-eq0 c = judged (goal.at.returns-in-true-eq0 c).In_ok-value true true (search rules) (eq-eqb _ _ (omega arith))

pub returns-in-true-default : goal.returns-in-true-default
returns-in-true-default c =
    let at = (goal.at.returns-in-true-default c).In_ok-value in
    ap Some (negation_read _ (fits at)) ∙ judged at true false (search rules) (ne_eqb _ _ c.in-true-default.is-1.1)

pub returns-in-false-default : goal.returns-in-false-default
returns-in-false-default c =
    let at = (goal.at.returns-in-false-default c).In_ok-value in
    ap Some (stays _ (fits at)) ∙ judged at false _ (search rules) refl
