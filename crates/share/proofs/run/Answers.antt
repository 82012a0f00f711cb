-- `share::run` meets its contract: what is written is what `share` gives for what was read, and so for all that the reader had left. Assumes nothing.
use Rattle.std.proofs.Common.{rules, ◌∙◌}
use Rattle.std.proofs.lemmas.Result.{on_ok_weaker}
use Rattle.event_text.proofs.Sharing.{refused_line, opened_answers}
use Rattle.share.proofs.Whole.{written_whole}
use Rattle.share.proofs.run.Goals as goal

pub returns-in-Err : goal.returns-in-Err
returns-in-Err g c =
    let read = c.in_ok-count.ensures in
    let line = c.refusal_line.ensures.0 ∙ refused_line _ _ c.in-Err.ensures in
    on_ok_weaker c.write_all.result (λ w. written_whole _ _ _ _ _ _ _ (search rules) read.within read.bytes read.whole line w) c.write_all.ensures.bytes

pub returns-in-Ok : goal.returns-in-Ok
returns-in-Ok g c =
    let read = c.in_ok-count.ensures in
    on_ok_weaker c.answer_lines.result (λ w. written_whole _ _ _ _ _ _ _ (search rules) read.within read.bytes read.whole (opened_answers _ _ c.in-Ok.ensures) w)
    c.answer_lines.ensures
