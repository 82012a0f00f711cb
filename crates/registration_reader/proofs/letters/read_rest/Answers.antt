-- `registration_reader::letters::read_rest` meets its contract: a line that ends where it must has its pairs after the fixed part. Assumes nothing.
use Prim.Native.Nat.{◌+◌, ◌*◌}
use mathlib.Core.Path.{◌≡◌}
use native.Mathlib.Omega.{arith}
use borrow.Author.Tests.{eq-eqb}
use lib.ListN.{length, get_or}
use Rattle.lines.proofs.Parts.{tail_part}
use Rattle.registration_text.specs.Reader.{rest_in}
use Rattle.registration_reader.proofs.letters.read_rest.Goals as goal

pub returns-clause-numbers : goal.returns-clause-numbers
unfolding rest_in
returns-clause-numbers c =
    let line = c.args.line.now in
    let count = c.args.count in
    let size : length line ≡ 10 * count + 25 = omega arith in
    let place : 24 + 10 * count ≡ 10 * count + 24 = omega arith in
    let end : get_or line (10 * count + 24) 0 ≡ 10 = rw place at c.if-line-end-ne-LINE_FEED.false in
    rw (eq-eqb (length line) (10 * count + 25) size, eq-eqb (get_or line (10 * count + 24) 0) 10 end) (rw tail_part at c.read_pairs.ensures.numbers)
