-- `event_writer::put_shares` meets its contract: the lines of the consumers passed have been put, and their shares have been split off.
use Prim.Native.Nat.{◌+◌, ◌≤◌, ◌<◌}
use mathlib.Core.Path.{◌≡◌, ap, ◌∙◌}
use native.Mathlib.Omega.{arith}
use lib.ListN.{length, take, drop, length-drop}
use lib.Seq.{get_or-take, drop-drop, length-take-le}
use Rattle.lists.proofs.Below.{sum_none, sum_next}
use Rattle.lists.proofs.Adding.{no_piece, piece_fits, piece_more, all_pieces}
use Rattle.registration.specs.Rules.{count_at, source_at}
use Rattle.registration.specs.Pairs.{pairs_before}
use Rattle.evaluation.proofs.Parts.{shares_there}
use Rattle.event_writer.proofs.Lengths.{consumers_joined, length_of_consumer, length_of_shares, shares_of_part}
use Rattle.event_writer.proofs.put_shares.Goals as goal
use Rattle.event_writer.proofs.put_shares.Goals.{After-from}

-- the consumer is one of the registration's, and its count is the one that stands there
within : (c : After-from) → c.loop-consumer.consumer < c.args.registration.now.consumers
within c =
    let r = c.args.registration.now in
    let l : length (take r.consumers r.counts) ≡ r.consumers = length-take-le r.consumers r.counts (omega (arith, c.requires.consumers_bound)) in
    omega (arith, l)

counted : (c : After-from) → c.from.result ≡ count_at c.args.registration.now c.loop-consumer.consumer
counted c = c.from.ensures ∙ get_or-take _ _ _ 0 (within c)

-- its shares are left
left : (c : After-from) → c.from.result ≤ length c.loop-consumer.rest.now
left c =
    let r = c.args.registration.now in
    omega (arith, counted c, shares_there r c.loop-consumer.consumer (within c), ap length c.loop-consumer.invariant.0, length-drop (pairs_before r c.loop-consumer.consumer) c.args.numbers.now, c.requires.registration_in_bounds.0)

pub loop-consumer-init : goal.loop-consumer-init
loop-consumer-init c = (rw (sum_none (count_at c.args.registration.now)), no_piece _ (omega (arith, c.requires.registration_in_bounds.1)))

pub split_at-requires : goal.split_at-requires
split_at-requires c = left (goal.at.split_at-requires c).After-from

pub put_consumer-requires : goal.put_consumer-requires
put_consumer-requires c =
    let r = c.args.registration.now in
    let s = (goal.at.put_consumer-requires c).After-from in
    let i = c.loop-consumer.consumer in
    let count : length c.split_at.result.0.now ≡ count_at r i = c.split_at.ensures.front_len ∙ counted s in
    let few = c.requires.by_index i (within s) in
    let whole = rw consumers_joined at (length_of_shares r c.args.numbers.now) in
    let fits = piece_fits _ c.loop-consumer.invariant.1 r.consumers (within s) (omega (arith, whole, c.requires.registration_in_bounds.1)) in
    let size = rw length_of_consumer at fits in
    (omega (arith, within s, c.requires.consumers_bound), omega (arith, count, few), rw count size)

pub loop-consumer-preserved : goal.loop-consumer-preserved
loop-consumer-preserved c =
    let r = c.args.registration.now in
    let s = (goal.at.loop-consumer-preserved c).After-from in
    let i = c.loop-consumer.consumer in
    let from = pairs_before r i in
    let next : pairs_before r (i + 1) ≡ from + count_at r i = sum_next (count_at r) i in
    let count : length c.split_at.result.0.now ≡ count_at r i = c.split_at.ensures.front_len ∙ counted s in
    let part : c.split_at.result.0.now ≡ take (count_at r i) (drop from c.args.numbers.now) = rw (counted s, c.loop-consumer.invariant.0) at c.split_at.ensures.front in
    let rest : c.split_at.result.1.now ≡ drop (count_at r i) (drop from c.args.numbers.now) = rw (counted s, c.loop-consumer.invariant.0) at c.split_at.ensures.back in (
      rw next (rest ∙ drop-drop (count_at r i) from c.args.numbers.now),
      piece_more _ c.loop-consumer.invariant.1 (rw (← shares_of_part (source_at r i) i from (count_at r i) c.args.numbers.now) (rw (count, part) at c.put_consumer.ensures)),
    )

pub returns : goal.returns
returns c =
    let r = c.args.registration.now in
    let l : length (take r.consumers r.counts) ≡ r.consumers = length-take-le r.consumers r.counts (omega (arith, c.requires.consumers_bound)) in
    rw consumers_joined (all_pieces _ c.loop-consumer.invariant.1 (omega (arith, l)) (omega (arith, l)))
