-- The formats that callers put have the letters and widths of the lines' definitions. Assumes nothing.
use Rattle.std.proofs.Common.{refl}
use Rattle.event_writer.specs.Laws.{AnswerFormat, RoundsFormat}

pub answer_format : AnswerFormat
answer_format = (refl, refl)

pub rounds_format : RoundsFormat
rounds_format = (refl, refl)
