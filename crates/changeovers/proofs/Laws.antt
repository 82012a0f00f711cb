-- Each line is read back: an entry is a day of the calendar, and leaves a place for the leading space. Assumes nothing.
use mathlib.Core.Path.{◌≡◌}
use mathlib.Core.Bool.{false}
use mathlib.Core.List.{[], ◌∷◌}
use native.Mathlib.Omega.{arith}
use lib.ListN.{length}
use lib.Seq.{take_at, get_or_at}
use Rattle.columns.specs.Column.{column_of}
use Rattle.columns.proofs.Laws.{length_column, number_read_back}
use Rattle.calendar.specs.Changeovers.{changeover_day}
use Rattle.calendar.proofs.Laws.{entries_are_days}
use Rattle.changeovers.specs.Text.{day_line}
use Rattle.changeovers.specs.Laws.{LinesReadBack}
use Rattle.changeovers.proofs.Lengths.{length_line}

pub lines_read_back : LinesReadBack
unfolding day_line
lines_read_back place h =
    let day = changeover_day place in
    let column = column_of false 6 day in
    let long : length column ≡ 6 = length_column false 6 day in
    let read = number_read_back 6 day (omega arith) (omega arith) (omega (arith, entries_are_days place h)) in
    (length_line day, rw (take_at column (10 ∷ []) 6 long) read, get_or_at column 10 [] 0 6 long)
