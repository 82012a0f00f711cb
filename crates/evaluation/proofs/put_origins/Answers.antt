-- `evaluation::put_origins` meets its contract: the origins of the values passed have been put. Assumes nothing.
use Rattle.std.proofs.Common.{◌≡◌, get_or, ap, ◌∙◌, arith}
use Rattle.std.proofs.lemmas.List.{get_or_default}
use Rattle.lists.proofs.Adding.{added_none, added_then}
use Rattle.lookup.specs.declared.PointValue.{PointValue}
use Rattle.lookup.specs.Substitutes.{number_of_origin, zero_for_lack}
use Rattle.evaluation.proofs.Parts.{origins_more}
use Rattle.evaluation.proofs.put_origins.Goals as goal

pub loop-value-init : goal.loop-value-init
loop-value-init c = added_none (omega arith)

pub loop-value-preserved : goal.loop-value-preserved
loop-value-preserved c =
    let values = c.args.values.now in
    let i = c.loop-value.value-index in
    let number : c.from.result ≡ number_of_origin (get_or values i zero_for_lack).origin =
    c.from.ensures ∙ ap (λ (value : PointValue). number_of_origin value.origin) (get_or_default values i _ zero_for_lack (omega arith))
    in
    rw (origins_more values i zero_for_lack (omega arith), ← number) (added_then c.loop-value.invariant c.put.ensures)
