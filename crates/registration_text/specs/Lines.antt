-- The lines of a registration: their letters, the widths of their columns, and the numbers in these. Assumes nothing.
use Rattle.std.specs.Prelude.{ℕ, zero, suc, ◌+◌, List, [], ◌∷◌, ◌++◌}
use Rattle.lines.specs.Lines.{line_of}
use Rattle.registration.specs.declared.Registration.{Registration}
use Rattle.registration.specs.Rules.{code_at, status_at, count_at, source_at, key_at}

-- the letter G
abbrev pub letter_g : ℕ
letter_g = 71

-- the letter D
abbrev pub letter_d : ℕ
letter_d = 68

-- the letter O
abbrev pub letter_o : ℕ
letter_o = 79

-- G: producers, consumers, iteration
abbrev pub widths_g : List ℕ
widths_g = 4 ∷ 4 ∷ 2 ∷ []

-- D: code, status
abbrev pub widths_d : List ℕ
widths_d = 19 ∷ 2 ∷ []

-- O, the fixed part: code, status, count
abbrev pub widths_o : List ℕ
widths_o = 19 ∷ 2 ∷ 2 ∷ []

-- O, the rest: for each producer named its number and the key
unfoldable pub widths_of_pairs : ℕ → List ℕ
widths_of_pairs zero = []
widths_of_pairs (suc count) = 4 ∷ 6 ∷ widths_of_pairs count

-- the numbers and keys at so many priorities from one on
unfoldable pub pairs_from : (source key : ℕ → ℕ) → ℕ → ℕ → List ℕ
pairs_from source key priority zero = []
pairs_from source key priority (suc count) = source priority ∷ key priority ∷ pairs_from source key (suc priority) count

-- the line of the group
abbrev pub line_g : Registration → List ℕ
line_g r = line_of letter_g widths_g (r.producers ∷ r.consumers ∷ r.iteration ∷ [])

-- the line of a producer
abbrev pub line_d : Registration → ℕ → List ℕ
line_d r producer = line_of letter_d widths_d (code_at r producer ∷ status_at r producer ∷ [])

-- the line of a consumer, whose point comes after the producers'
abbrev pub line_o : Registration → ℕ → List ℕ
line_o r consumer =
    let point = r.producers + consumer in
    let count = count_at r consumer in
    line_of letter_o (widths_o ++ widths_of_pairs count)
    (code_at r point ∷ status_at r point ∷ count ∷ pairs_from (source_at r consumer) (key_at r consumer) 0 count)
