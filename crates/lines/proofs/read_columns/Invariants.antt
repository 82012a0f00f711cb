-- What the loop of `lines::read_columns` keeps: a number for each width, room for the columns still to be read, and their numbers, which are the last ones.
use Prim.Native.Nat.{◌≤◌}
use mathlib.Core.Path.{◌≡◌}
use lib.ListN.{length, take, drop}
use Rattle.columns.specs.Fields.{total, numbers_in}
use Rattle.lines.proofs.Parts.{after_these}
use Rattle.lines.proofs.read_columns.Given as goal

abbrev pub invariant-loop-i : goal.invariant-loop-i
invariant-loop-i g l =
    (length l.numbers ≡ length l.widths) × (total (drop l.i l.widths) ≤ length l.rest) × (after_these (take l.i l.numbers) (numbers_in (drop l.i l.widths) l.rest) ≡ numbers_in l.widths l.bytes)
