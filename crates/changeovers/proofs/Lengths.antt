-- How many bytes the lines have. Assumes nothing.
use Prim.Native.Nat.{ℕ}
use mathlib.Core.Path.{◌≡◌}
use lib.ListN.{length, length-append}
use Rattle.lists.proofs.TableLaws.{length_even}
use Rattle.columns.proofs.Laws.{length_column}
use Rattle.calendar.specs.Changeovers.{changeover_count, changeover_day}
use Rattle.changeovers.specs.Text.{day_line, changeover_line, line_bytes, changeover_text, text_bytes}

pub length_line : (day : ℕ) → length (day_line day) ≡ line_bytes
unfolding day_line
length_line day = simp (length-append, length_column)

pub length_text : length changeover_text ≡ text_bytes
length_text = length_even changeover_line line_bytes changeover_count (λ place. length_line (changeover_day place))
