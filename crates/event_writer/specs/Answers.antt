-- The lines of answers: their letters, the widths of their columns, and the numbers in these. Assumes nothing.
use Rattle.std.specs.Prelude.{ℕ, ◌+◌, ◌*◌, List, [], ◌∷◌, ◌++◌, get_or}
use Rattle.lists.specs.Tables.{joined}
use Rattle.lines.specs.Lines.{line_of}
use Rattle.registration.specs.declared.Registration.{Registration}
use Rattle.registration.specs.Rules.{count_at, source_at}
use Rattle.registration.specs.Pairs.{pairs_before}
use Rattle.evaluation.specs.Layout.{Shares, Withdrawals, Supplies, Origins, length_of, begin_of}

-- the letter A
abbrev pub letter_a : ℕ
letter_a = 65

-- the letter R
abbrev pub letter_r : ℕ
letter_r = 82

-- the letter S
abbrev pub letter_s : ℕ
letter_s = 83

-- the letter U
abbrev pub letter_u : ℕ
letter_u = 85

-- the letter V
abbrev pub letter_v : ℕ
letter_v = 86

-- the letter W
abbrev pub letter_w : ℕ
letter_w = 87

-- A: answer, stamp or dropped count
abbrev pub widths_a : List ℕ
widths_a = 4 ∷ 13 ∷ []

-- R: answer, rounds
abbrev pub widths_r : List ℕ
widths_r = 4 ∷ 2 ∷ []

-- S: consumer, producer, share
abbrev pub widths_s : List ℕ
widths_s = 4 ∷ 4 ∷ 10 ∷ []

-- U: consumer, remaining withdrawal; V: producer, remaining supply
abbrev pub widths_of_remaining : List ℕ
widths_of_remaining = 4 ∷ 10 ∷ []

-- W: point, origin
abbrev pub widths_w : List ℕ
widths_w = 4 ∷ 2 ∷ []

-- the answer to a submission, a clear, a malformed line or a refused registration
abbrev pub line_a : (answer number : ℕ) → List ℕ
line_a answer number = line_of letter_a widths_a (answer ∷ number ∷ [])

-- how many bytes an A line takes
abbrev pub bytes_of_answer : ℕ
bytes_of_answer = 19

-- the answer to an evaluation
abbrev pub line_r : (answer rounds : ℕ) → List ℕ
line_r answer rounds = line_of letter_r widths_r (answer ∷ rounds ∷ [])

-- how many bytes an R line takes
abbrev pub bytes_of_rounds : ℕ
bytes_of_rounds = 8

-- a consumer, by its number from 1, a producer's number, and the pair's share
abbrev pub line_s : (consumer producer share : ℕ) → List ℕ
line_s consumer producer share = line_of letter_s widths_s ((consumer + 1) ∷ producer ∷ share ∷ [])

-- a consumer, a producer or a point, by its number from 1, and what remains of its withdrawal or supply, or its origin
abbrev pub line_of_point : (letter : ℕ) → (widths : List ℕ) → (point number : ℕ) → List ℕ
line_of_point letter widths point number = line_of letter widths ((point + 1) ∷ number ∷ [])

-- the S lines of a consumer, whose shares stand in the result list from a place on: one line for each producer that it names, by priority
unfoldable pub lines_of_consumer : (source : ℕ → ℕ) → (consumer count at : ℕ) → (numbers : List ℕ) → List ℕ
lines_of_consumer source consumer count at numbers =
    joined (λ priority. line_s consumer (source priority) (get_or numbers (at + priority) 0)) count

-- the S lines: consumers in order, priorities within
unfoldable pub lines_s : Registration → (numbers : List ℕ) → List ℕ
lines_s r numbers =
    joined (λ consumer. lines_of_consumer (source_at r consumer) consumer (count_at r consumer) (pairs_before r consumer) numbers) r.consumers

-- the U, V or W lines: so many numbers of the result list from a place on
unfoldable pub lines_of_points : (letter : ℕ) → (widths : List ℕ) → (at count : ℕ) → (numbers : List ℕ) → List ℕ
lines_of_points letter widths at count numbers = joined (λ point. line_of_point letter widths point (get_or numbers (at + point) 0)) count

-- a result list, line by line and part by part: pair shares, remaining withdrawals, remaining supplies, origins
unfoldable pub lines_of_result : Registration → (numbers : List ℕ) → List ℕ
lines_of_result r numbers =
    lines_s r numbers
    ++ (lines_of_points letter_u widths_of_remaining (begin_of r Withdrawals) (length_of r Withdrawals) numbers
    ++ (lines_of_points letter_v widths_of_remaining (begin_of r Supplies) (length_of r Supplies) numbers
    ++ lines_of_points letter_w widths_w (begin_of r Origins) (length_of r Origins) numbers))

-- how many bytes these lines take: 20 for each share, 16 for each remaining withdrawal and supply, 8 for each origin
abbrev pub bytes_of_result : Registration → ℕ
bytes_of_result r = 20 * length_of r Shares + 16 * (length_of r Withdrawals + length_of r Supplies) + 8 * length_of r Origins
