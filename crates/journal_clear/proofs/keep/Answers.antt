-- `journal_clear::keep` meets its contract: what is left after the marks is what a clear keeps. Assumes nothing.
use native.Mathlib.Omega.{arith}
use mathlib.Core.Path.{◌≡◌, ◌∙◌}
use Prim.Native.Nat.{◌*◌, ◌-◌, ◌/◌}
use lib.ListN.{length, take, drop, replicate}
use Rattle.std.proofs.Common.{rules}
use lib.Seq.{length-take-le}
use Rattle.journal.proofs.Stored.{entries_take}
use Rattle.journal_clear.proofs.Whole.{cut, cleared}
use Rattle.journal_clear.proofs.keep.Goals as goal

pub mark-requires : goal.mark-requires
mark-requires c =
    let size : length (take (3 * c.args.count) c.args.journal.now) ≡ 3 * c.args.count = length-take-le _ _ c.requires.0 in
    let many : length (take (3 * c.args.count) c.args.journal.now) / 3 ≡ c.args.count = omega arith in
    rw (many, entries_take _ _ c.requires.0) c.requires.1

pub returns : goal.returns
returns c =
    let first = c.args.journal.now in
    let size : length (take (3 * c.args.count) first) ≡ 3 * c.args.count = length-take-le _ _ c.requires.0 in
    let many : length (take (3 * c.args.count) first) / 3 ≡ c.args.count = omega arith in
    let still : length c.mark.new.numbers ≡ length (take (3 * c.args.count) first) = c.mark.auto.numbers in
    let moved : length c.compact-kept.new.numbers ≡ 3 * c.args.count = c.compact-kept.auto.numbers ∙ still ∙ size in
    let marks = rw many at c.mark.ensures in
    let compacted = rw (still, many) at c.compact-kept.ensures in
    let zeros : c.fill.new.self ≡ replicate (length c.compact-kept.new.numbers - 3 * c.compact-kept.result) 0 = search rules in
    rw (cut c.compact-kept.new.numbers c.fill.new.self (drop (3 * c.args.count) first) (3 * c.compact-kept.result) (omega (arith, compacted.few)))
    (cleared _ _ _ _ _ _ _ _ _ c.requires.0 c.requires.1 marks moved compacted zeros)
