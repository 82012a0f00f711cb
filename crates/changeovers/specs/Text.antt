-- What the program writes: the entries of the table, one to a line. Assumes nothing.
use Rattle.std.specs.Prelude.{ℕ, false, List, [], ◌∷◌, ◌++◌}
use Rattle.lists.specs.Tables.{joined}
use Rattle.columns.specs.Column.{column_of}
use Rattle.calendar.specs.Changeovers.{changeover_count, changeover_day}

-- the line of a day: right-justified in 6, and LF
unfoldable pub day_line : ℕ → List ℕ
day_line day = column_of false 6 day ++ (10 ∷ [])

-- the line of a place: that of its entry
abbrev pub changeover_line : ℕ → List ℕ
changeover_line place = day_line (changeover_day place)

-- how many bytes a line has
abbrev pub line_bytes : ℕ
line_bytes = 7

-- the lines of all entries
abbrev pub changeover_text : List ℕ
changeover_text = joined changeover_line changeover_count

-- how many bytes they have together
abbrev pub text_bytes : ℕ
text_bytes = 1064
