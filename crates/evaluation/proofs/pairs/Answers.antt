-- `evaluation::pairs` meets its contract: the sum of bytes. Assumes nothing.
use Rattle.std.proofs.Common.{◌≡◌, ℕ, ◌<◌, get_or, sum, rules, Fits, w8}
use Rattle.evaluation.proofs.Parts.{sum_bytes}
use Rattle.evaluation.proofs.pairs.Goals as goal

pub returns : goal.returns
returns c =
    let counts = c.args.counts.now in
    let all : c.sum.result ≡ sum counts = search rules in
    let byte : (i : ℕ) → get_or counts i 0 < 256 = λ i. let f : Fits w8 (get_or counts i 0) = search rules in f.fits in
    (all, rw all (sum_bytes counts byte))
