-- A line: a letter, numbers in columns of given widths, and LF. Assumes nothing.
use Rattle.std.specs.Prelude.{ℕ, ◌+◌, Bool, cond, ◌&&◌, List, [], ◌∷◌, ◌++◌, length, get_or, drop, eqb, Option, None}
use Rattle.columns.specs.Fields.{total, columns_of, numbers_in}

-- what is written: the letter, the numbers in their columns, and LF
abbrev pub line_of : ℕ → List ℕ → List ℕ → List ℕ
line_of letter widths numbers = letter ∷ (columns_of widths numbers ++ (10 ∷ []))

-- the letter, so many bytes, LF, and nothing else
abbrev pub is_framed : ℕ → ℕ → List ℕ → Bool
is_framed letter size line = eqb (length line) (size + 2) && eqb (get_or line 0 0) letter && eqb (get_or line (size + 1) 0) 10

-- what is read: the numbers of a line that has this letter, columns of these widths, LF, and nothing else
unfoldable pub line_in : ℕ → List ℕ → List ℕ → Option (List ℕ)
line_in letter widths line = cond (is_framed letter (total widths) line) (numbers_in widths (drop 1 line)) None
