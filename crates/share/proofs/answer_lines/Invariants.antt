-- What the loop of `share::answer_lines` keeps. Assumes nothing.
use Rattle.std.proofs.Common.{ℕ, ◌≡◌, List, length, replicate}
use Rattle.std.specs.Io.KnownBytes.{Appends}
use Rattle.event_calls.specs.Promises.{answer_most}
use Rattle.event_text.specs.Share.{lines_of, answers_to, journal_numbers}
use Rattle.share.proofs.Written.{Written}
use Rattle.share.proofs.answer_lines.Given as goal

abbrev pub invariant-loop-rest : goal.invariant-loop-rest
invariant-loop-rest g l =
    (length l.journal ≡ journal_numbers)
    × (length l.out ≡ answer_most)
    × ((bytes : List ℕ) × Written (answers_to l.initial.service (replicate journal_numbers 0) (lines_of l.initial.rest)) l.service l.journal l.rest bytes
    × Appends (g.W.Write.contents l.initial.writer) (g.W.Write.contents l.writer) bytes)

abbrev pub decreases-loop-rest : goal.decreases-loop-rest
decreases-loop-rest g l = length l.rest
