-- What the loop of `registration_reader::letters::read_pairs` keeps: a place for each pair, room for the pairs still to be read, and their numbers, which are the last ones.
-- Assumes nothing.
use Prim.Native.Nat.{◌-◌, ◌*◌, ◌≤◌}
use mathlib.Core.Path.{◌≡◌}
use lib.ListN.{length}
use Rattle.columns.specs.Fields.{numbers_in}
use Rattle.lines.proofs.Parts.{after_these}
use Rattle.registration.specs.Rules.{source_in, key_in}
use Rattle.registration_text.specs.Lines.{widths_of_pairs, pairs_from}
use Rattle.registration_reader.proofs.letters.read_pairs.Given as goal

abbrev pub invariant-loop-pair : goal.invariant-loop-pair
invariant-loop-pair l =
    (length l.pair-items ≡ l.count) × (10 * (l.count - l.pair-index) ≤ length l.rest)
    × (after_these (pairs_from (source_in l.pair-items) (key_in l.pair-items) 0 l.pair-index) (numbers_in (widths_of_pairs (l.count - l.pair-index)) l.rest)
    ≡ numbers_in (widths_of_pairs l.count) l.bytes)
