-- The lines of events: their letters, the widths of their columns, and what a line asks for. Assumes nothing.
use Rattle.std.specs.Prelude.{ℕ, ◌+◌, cond, List, [], ◌∷◌, get_or, take, drop, eqb, Option, None, Some, ℤ}
use Rattle.columns.specs.Column.{signed_in}
use Rattle.columns.specs.Fields.{total, numbers_in}
use Rattle.lines.specs.Lines.{is_framed, line_in}
use Rattle.event_reader.specs.declared.Event.{Event}
use Rattle.event_reader.specs.declared.Event.TheVariants.{Submission, Clear, Evaluation}

-- the letter M
abbrev pub letter_m : ℕ
letter_m = 77

-- the letter C
abbrev pub letter_c : ℕ
letter_c = 67

-- the letter E
abbrev pub letter_e : ℕ
letter_e = 69

-- M: clock, code, date, quarter; then the value, which may have a minus
abbrev pub widths_m : List ℕ
widths_m = 13 ∷ 19 ∷ 9 ∷ 4 ∷ []

-- M: value
abbrev pub width_of_value : ℕ
width_of_value = 10

-- C: date, stamp
abbrev pub widths_c : List ℕ
widths_c = 9 ∷ 13 ∷ []

-- E: date, quarter, T
abbrev pub widths_e : List ℕ
widths_e = 9 ∷ 4 ∷ 13 ∷ []

-- a submission, if its numbers and its value are in their columns
abbrev pub submission_from : Option (List ℕ) → Option ℤ → Option Event
submission_from None value = None
submission_from (Some numbers) None = None
submission_from (Some numbers) (Some value) =
    Some (Submission (record {
      clock = get_or numbers 0 0;
      code = get_or numbers 1 0;
      date = get_or numbers 2 0;
      quarter = get_or numbers 3 0;
      value = value;
    }))

-- what an M line asks for: the letter, four numbers, the value, LF, and nothing else
unfoldable pub submission_in : List ℕ → Option Event
submission_in line =
    cond (is_framed letter_m (total widths_m + width_of_value) line)
    (submission_from (numbers_in widths_m (drop 1 line)) (signed_in (take width_of_value (drop (1 + total widths_m) line))))
    None

-- a clear, if its numbers are in their columns
abbrev pub clear_from : Option (List ℕ) → Option Event
clear_from None = None
clear_from (Some numbers) = Some (Clear (record { date = get_or numbers 0 0; stamp = get_or numbers 1 0 }))

-- what a C line asks for
unfoldable pub clear_in : List ℕ → Option Event
clear_in line = clear_from (line_in letter_c widths_c line)

-- an evaluation, if its numbers are in their columns
abbrev pub evaluation_from : Option (List ℕ) → Option Event
evaluation_from None = None
evaluation_from (Some numbers) = Some (Evaluation (record { date = get_or numbers 0 0; quarter = get_or numbers 1 0; until = get_or numbers 2 0 }))

-- what an E line asks for
unfoldable pub evaluation_in : List ℕ → Option Event
evaluation_in line = evaluation_from (line_in letter_e widths_e line)

-- the first byte of a line, 0 where it has none
abbrev pub letter_of : List ℕ → ℕ
letter_of line = get_or line 0 0

-- what a line asks for, by its letter; a line of any other letter, or with none, asks for nothing
unfoldable pub event_in : List ℕ → Option Event
event_in line =
    cond (eqb (letter_of line) letter_m) (submission_in line)
    (cond (eqb (letter_of line) letter_c) (clear_in line)
    (cond (eqb (letter_of line) letter_e) (evaluation_in line) None))
