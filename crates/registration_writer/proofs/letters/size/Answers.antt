-- `registration_writer::letters::size` meets its contract: the lengths of the lines are summed. Assumes nothing.
use Prim.Native.Nat.{ℕ, ◌+◌, ◌*◌, ◌<◌, ◌≤◌}
use mathlib.Core.Path.{◌≡◌}
use mir.Syntax.{w8}
use mir.Val.{Fits}
use native.Mathlib.Omega.{arith}
use Rattle.std.proofs.Common.{rules, tests}
use lib.ListN.{length, get_or, take}
use Rattle.std.specs.List.{sum_by}
use Rattle.std.proofs.lemmas.Iterator.{YieldsList-from_slice, YieldsList-from_map}
use Rattle.std.proofs.lemmas.Iterator.Consumers.{fits_by_from_yields_list}
use Rattle.lists.proofs.Below.{sum_bound}
use Rattle.registration_writer.proofs.Sizes.{length_o, length_text, sum_o}
use Rattle.registration_text.specs.Writer.{text_of}
use Rattle.registration_writer.proofs.letters.size.Goals as goal
use Rattle.registration_writer.proofs.letters.size.Goals.{After-map, After-sum-consumers}

-- the bytes of a consumer's line, by how many producers it names
abbrev bytes : ℕ → ℕ
bytes count = 25 + 10 * count

-- they are summed over the counts of the consumers, of which each is a byte
total : (c : After-map) → let r = c.args.registration.now in
    (sum_by bytes (take r.consumers r.counts) ≤ 164800) × (length (text_of r) ≡ 12 + 23 * r.producers + sum_by bytes (take r.consumers r.counts))
total c =
    let r = c.args.registration.now in
    let size : length r.counts ≡ 64 = search rules in
    let sum = sum_o r.counts r.consumers (omega arith) in
    let byte : (i : ℕ) → get_or r.counts i 0 < 256 = λ i. let f : Fits w8 (get_or r.counts i 0) = search rules in f.fits in
    (omega (arith, sum_bound (length_o r.counts) 2575 r.consumers (λ i h. omega (arith, byte i))), omega (arith, length_text r))

pub sum-consumers-requires-clause-fits : goal.sum-consumers-requires-clause-fits
sum-consumers-requires-clause-fits c =
    fits_by_from_yields_list bytes (take c.args.registration.now.consumers c.args.registration.now.counts) c.map.result _
    (YieldsList-from_map _ bytes (YieldsList-from_slice (take c.args.registration.now.consumers c.args.registration.now.counts) (cc)) c.map.ensures.closure
    (λ x r q k. search (rules, tests)))
    (omega (arith, total (goal.at.sum-consumers-requires-clause-fits c).After-map))

sum_is : (c : After-sum-consumers) → c.sum-consumers.result ≡ sum_by bytes (take c.args.registration.now.consumers c.args.registration.now.counts)
sum_is c = search rules

pub overflow_add-result-2 : goal.overflow_add-result-2
overflow_add-result-2 c = omega (arith, sum_is c, total (goal.at.overflow_add-result-2 c).After-map)

pub returns : goal.returns
returns c = omega (arith, sum_is c, total (goal.at.returns c).After-map)
