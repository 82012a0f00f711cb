-- What the formats that callers put promise, as statements; `proofs/Laws.antt` proves each. Assumes nothing.
use Rattle.std.specs.Prelude.{◌≡◌}
use Rattle.event_writer.specs.declared.TheConstants.{ANSWER, ROUNDS}
use Rattle.event_writer.specs.Answers.{letter_a, letter_r, widths_a, widths_r}

-- an A line has this letter and columns of these widths
abbrev pub AnswerFormat : Type 0
AnswerFormat = (ANSWER.letter ≡ letter_a) × (ANSWER.widths ≡ widths_a)

-- so has an R line
abbrev pub RoundsFormat : Type 0
RoundsFormat = (ROUNDS.letter ≡ letter_r) × (ROUNDS.widths ≡ widths_r)
