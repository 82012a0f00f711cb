-- What the loop of `registration_reader::letters::put_pairs` keeps. Assumes nothing.
use Prim.Native.Nat.{◌-◌}
use mathlib.Core.Path.{◌≡◌}
use lib.ListN.{length}
use Rattle.registration.specs.Rules.{source_in, key_in}
use Rattle.registration_text.specs.Reader.{with_pairs}
use Rattle.registration_reader.proofs.letters.put_pairs.Given as goal

abbrev pub invariant-loop-priority : goal.invariant-loop-priority
invariant-loop-priority l =
    with_pairs l.initial.registration l.consumer (source_in l.pairs) (key_in l.pairs) 0 (length l.pairs)
    ≡ with_pairs l.registration l.consumer (source_in l.pairs) (key_in l.pairs) l.priority (length l.pairs - l.priority)
