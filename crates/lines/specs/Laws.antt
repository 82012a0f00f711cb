-- What lines promise, as statements; `proofs/Laws.antt` proves each, what concerns columns once over the letter and the widths. Assumes nothing.
use Rattle.std.specs.Prelude.{ℕ, ◌≡◌, true, List, ◌++◌, Some}
use Rattle.columns.specs.Fields.{fitting}
use Rattle.lines.specs.Line.{first_line, after_line}
use Rattle.lines.specs.Lines.{line_of, line_in}

-- a text is its first line and what follows
abbrev pub LinesJoin : Type 0
LinesJoin = (text : List ℕ) → first_line text ++ after_line text ≡ text

-- a line of numbers that fit is read back
abbrev pub LineReadBack : Type 0
LineReadBack =
    (letter : ℕ) (widths numbers : List ℕ) → fitting widths numbers ≡ true → line_in letter widths (line_of letter widths numbers) ≡ Some numbers

-- a line that is read as numbers is the line of these numbers, and they fit
abbrev pub LineWrittenAgain : Type 0
LineWrittenAgain =
    (letter : ℕ) (widths line numbers : List ℕ) → line_in letter widths line ≡ Some numbers
    → (line ≡ line_of letter widths numbers) × (fitting widths numbers ≡ true)

-- a text that begins with a line has it for its first line, whatever follows
abbrev pub LineFirst : Type 0
LineFirst =
    (letter : ℕ) (widths numbers rest : List ℕ) → (letter ≡ 10 → ⊥)
    → (first_line (line_of letter widths numbers ++ rest) ≡ line_of letter widths numbers)
    × (after_line (line_of letter widths numbers ++ rest) ≡ rest)
