-- What the lines promise, as a statement; `proofs/Laws.antt` proves it. Assumes nothing.
use Rattle.std.specs.Prelude.{ℕ, ◌<◌, ◌≡◌, length, get_or, take, Some}
use Rattle.columns.specs.Column.{number_in}
use Rattle.calendar.specs.Changeovers.{changeover_day}
use Rattle.changeovers.specs.Text.{changeover_line}

-- each line has seven bytes: six that are read as the entry by the rule for columns, so with a leading space, and LF
abbrev pub LinesReadBack : Type 0
LinesReadBack =
    (place : ℕ) → place < 152
    → (length (changeover_line place) ≡ 7) × (number_in (take 6 (changeover_line place)) ≡ Some (changeover_day place)) × (get_or (changeover_line place) 6 0 ≡ 10)
