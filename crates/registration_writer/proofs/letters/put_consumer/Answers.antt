-- `registration_writer::letters::put_consumer` meets its contract: the fixed part, the pairs and LF are put one after the other. Assumes nothing.
use Prim.Native.Nat.{ℕ, ◌+◌, ◌*◌, ◌≤◌, ◌<◌}
use mathlib.Core.Path.{◌≡◌, refl, ◌∙◌}
use mathlib.Core.List.{[], ◌∷◌}
use native.Mathlib.Omega.{arith}
use borrow.Author.Rules.{rules}
use lib.ListN.{length, take, get_or}
use lib.Seq.{length-take-le}
use Rattle.std.proofs.lemmas.List.{get_or-take}
use Rattle.columns.specs.Fields.{columns_of}
use Rattle.columns.proofs.Laws.{length_columns}
use Rattle.lists.specs.Pages.{Added}
use Rattle.lists.proofs.Adding.{added_then, no_piece, piece_fits, piece_more, all_pieces}
use Rattle.lines.proofs.Writing.{line_in_parts}
use Rattle.registration.specs.Rules.{code_at, status_at, count_at, source_at, key_at, pair_at, no_pair}
use Rattle.registration_text.specs.Lines.{letter_o, widths_o, widths_of_pairs, pairs_from}
use Rattle.registration_writer.proofs.Sizes.{pair_columns, pairs_joined, length_pair, length_pairs}
use Rattle.registration_writer.proofs.letters.put_consumer.Goals as goal
use Rattle.registration_writer.proofs.letters.put_consumer.Goals.{After-put_columns, After-from-3}

-- the fixed part has been put, and there is room for the pairs and LF
fixed_put : (c : After-put_columns) → let r = c.args.registration.now in let point = r.producers + c.args.consumer in
    Added (letter_o ∷ columns_of widths_o (code_at r point ∷ status_at r point ∷ count_at r c.args.consumer ∷ [])) c.args.page.now c.put_columns.new.page
fixed_put c = rw (c.from.ensures, c.from-2.ensures) at (added_then c.put.ensures c.put_columns.ensures)

room_left : (c : After-put_columns) → let count = count_at c.args.registration.now c.args.consumer in
    c.put_columns.new.page.end + (10 * count + 1) ≤ length c.put_columns.new.page.space.now
room_left c =
    let r = c.args.registration.now in
    let point = r.producers + c.args.consumer in
    omega (arith, (fixed_put c).put.end, (fixed_put c).same_length, length_columns widths_o (code_at r point ∷ status_at r point ∷ count_at r c.args.consumer ∷ []) refl)

-- there are as many pairs as the consumer's count says, and each is that of its priority
as_many : (c : After-from-3) → length (take c.from-3.result c.pairs.result) ≡ count_at c.args.registration.now c.args.consumer
as_many c =
    let five : length c.pairs.result ≡ 5 = search rules in
    length-take-le c.from-3.result c.pairs.result (omega arith) ∙ c.from-3.ensures

pair_is : (c : After-from-3) (k : ℕ) → k < count_at c.args.registration.now c.args.consumer
    → get_or (take c.from-3.result c.pairs.result) k no_pair ≡ pair_at c.args.registration.now c.args.consumer k
pair_is c k h = get_or-take c.from-3.result c.pairs.result k no_pair (omega arith) ∙ c.pairs.ensures k (omega arith)

pub loop-pair-init : goal.loop-pair-init
loop-pair-init c = no_piece _ (omega arith)

pub put_columns-requires-in-loop-pair : goal.put_columns-requires-in-loop-pair
put_columns-requires-in-loop-pair c =
    let at = (goal.at.put_columns-requires-in-loop-pair c).After-from-3 in
    let source = source_at c.args.registration.now c.args.consumer in
    let key = key_at c.args.registration.now c.args.consumer in
    let count = count_at c.args.registration.now c.args.consumer in
    let room = room_left (goal.at.put_columns-requires-in-loop-pair c).After-put_columns in
    let fits = piece_fits (pair_columns source key) c.loop-pair.invariant count (omega (arith, as_many at)) (omega (arith, length_pairs source key count)) in
    (omega arith, (omega arith, rw length_pair at fits))

pub loop-pair-preserved : goal.loop-pair-preserved
loop-pair-preserved c =
    let at = (goal.at.loop-pair-preserved c).After-from-3 in
    piece_more _ c.loop-pair.invariant (rw (pair_is at c.loop-pair.pair-index (omega (arith, as_many at))) at c.put_columns-in-loop-pair.ensures)

pub put-requires-2 : goal.put-requires-2
put-requires-2 c =
    let at = (goal.at.put-requires-2 c).After-from-3 in
    let r = c.args.registration.now in
    let pairs = length_pairs (source_at r c.args.consumer) (key_at r c.args.consumer) c.loop-pair.pair-index in
    omega (arith, as_many at, room_left (goal.at.put-requires-2 c).After-put_columns, c.loop-pair.invariant.put.end, c.loop-pair.invariant.same_length)

pub returns : goal.returns
returns c =
    let r = c.args.registration.now in
    let point = r.producers + c.args.consumer in
    let source = source_at r c.args.consumer in
    let key = key_at r c.args.consumer in
    let count = count_at r c.args.consumer in
    let size = as_many (goal.at.returns c).After-from-3 in
    line_in_parts letter_o widths_o (code_at r point ∷ status_at r point ∷ count ∷ []) (widths_of_pairs count) (pairs_from source key 0 count) refl
    (fixed_put (goal.at.returns c).After-put_columns)
    (rw pairs_joined (all_pieces _ c.loop-pair.invariant (omega arith) (omega arith)))
    c.put-2.ensures
