-- `allocation::Allocated::make_round` meets its contract: consumer by consumer, and priority by priority within its turn. Assumes nothing.
use Prim.Native.Nat.{ℕ, ◌+◌, ◌-◌, ◌<◌}
use mathlib.Core.Path.{◌≡◌, refl, sym, ap, ◌∙◌}
use mathlib.Core.List.{List}
use native.Mathlib.Omega.{arith}
use lib.ListN.{length, get_or, take}
use lib.Seq.{length-take-le}
use Rattle.std.proofs.Common.{rules}
use Rattle.registration.specs.declared.Registration.{Registration}
use Rattle.registration.specs.declared.Pair.{Pair}
use Rattle.registration.specs.Rules.{count_at, pair_at, no_pair}
use Rattle.values.specs.Values.{magnitude_most}
use Rattle.allocation.specs.Input.{Shareable}
use Rattle.allocation.specs.Rounds.{share_of, offer_of}
use Rattle.allocation.proofs.Shareable.{few_points, count_most, pair_of}
use Rattle.allocation.proofs.Named.{one_of, there, right}
use Rattle.allocation.proofs.Turns.{passed_at, passed_none, passed_here, passed_other, passed_most, passed_turn, offer_small, fallen_same, fallen_none, fallen_turn, fallen_all, left_none, share_here, left_here, share_for, Step, fallen_next, share_within, given_none, given_next, given_all, own_none, own_next}
use Rattle.allocation.proofs.ArrayRound.{taken_within, round_made}
use Rattle.allocation.proofs.Allocated.make_round.Goals as goal
use Rattle.allocation.proofs.Allocated.make_round.Goals.{After-pairs, After-share_of-share}

-- a priority of a consumer's turn: what is taken from the producer that it names
step : (r : Registration) (start : List ℕ) (consumer priority : ℕ) → Shareable r → consumer < r.consumers → priority < count_at r consumer
    → Step r.counts r.sources r.keys start r.producers r.consumers (passed_at r.counts consumer priority) (passed_at r.counts consumer (priority + 1)) consumer priority
step r start consumer priority p h k =
    let pair = pair_of p consumer priority h k in
    record {
      few = few_points p;
      one_of = h;
      here = passed_here r.counts consumer priority;
      there = passed_here r.counts consumer (priority + 1);
      others = passed_other r.counts consumer (priority + 1) priority;
      within = passed_most r.counts consumer (priority + 1) (omega (arith, k));
      least = pair.source_least;
      most = pair.source_most;
      total = taken_within p start;
    }

-- the priority is one of the consumer's
one : (c : After-share_of-share) → c.loop-priority.priority < count_at c.args.registration.now c.loop-consumer.consumer
one c = one_of c.requires.0 c.pairs.result c.loop-consumer-test.true c.from-count.ensures c.pairs.ensures c.loop-priority-test.true

-- the pair there is the registration's
pair : (c : After-share_of-share)
    → get_or (take c.from-count.result c.pairs.result) c.loop-priority.priority no_pair ≡ pair_at c.args.registration.now c.loop-consumer.consumer c.loop-priority.priority
pair c = there c.requires.0 c.pairs.result c.loop-consumer-test.true c.from-count.ensures c.pairs.ensures c.loop-priority-test.true

-- so the turn goes on by it
taken : (c : After-share_of-share) → let r = c.args.registration.now in let consumer = c.loop-consumer.consumer in let priority = c.loop-priority.priority in
    Step r.counts r.sources r.keys c.args.self.now.left r.producers r.consumers (passed_at r.counts consumer priority) (passed_at r.counts consumer (priority + 1)) consumer priority
taken c = step _ _ _ _ c.requires.0 c.loop-consumer-test.true (one c)

-- and the share is the definition's
share : (c : After-share_of-share) → let r = c.args.registration.now in
    c.share_of-share.result ≡ share_for r.counts r.sources r.keys c.args.self.now.left r.producers r.consumers c.loop-consumer.consumer c.loop-priority.priority
share c =
    share_here _ _ _ c.loop-priority.invariant.withdrawal
    (c.share_of-share.ensures
    ∙ ap (λ (pair : Pair). share_of c.loop-priority.withdrawal (offer_of pair.key (get_or c.args.self.now.left (pair.source - 1) 0))) (pair c))

pub loop-consumer-init : goal.loop-consumer-init
loop-consumer-init c =
    record {
      few = few_points c.requires.0;
      fallen = fallen_same _ _ _ _ _ _ (fallen_none _ _ _ _ _ _ (search rules)) (λ k h. passed_none c.args.registration.now.counts k);
      given = given_none _ _ _ _ _ _ _;
      rounds = refl;
    }

pub slice_bounds-pair-items-end-in-loop-consumer : goal.slice_bounds-pair-items-end-in-loop-consumer
slice_bounds-pair-items-end-in-loop-consumer c =
    let size : length c.pairs.result ≡ 5 = search rules in
    let most = count_most c.requires.0 c.loop-consumer.consumer c.loop-consumer-test.true in
    sym (length-take-le c.from-count.result c.pairs.result (omega (arith, c.from-count.ensures)))

pub loop-priority-init : goal.loop-priority-init
loop-priority-init c =
    record {
      few = c.loop-consumer.invariant.few;
      withdrawal = sym (left_none _ _);
      fallen = c.loop-consumer.invariant.fallen;
      own = own_none _ _ _ _ _ _ _ _;
      rounds = c.loop-consumer.invariant.rounds;
    }

pub overflow_sub-self : goal.overflow_sub-self
overflow_sub-self c =
    let at = (goal.at.overflow_sub-self c).After-share_of-share in
    rw (pair at, share at) (share_within _ _ _ _ _ _ c.loop-priority.invariant.fallen (taken at))

pub overflow_add-self-in-loop-priority : goal.overflow_add-self-in-loop-priority
overflow_add-self-in-loop-priority c =
    let k = c.loop-priority.priority in
    let h = c.loop-consumer-test.true in
    let here = one (goal.at.overflow_add-self-in-loop-priority c).After-share_of-share in
    let bounds = right c.requires.0 c.pairs.result h c.from-count.ensures c.pairs.ensures c.loop-priority-test.true in
    let supply = c.requires.1 ((get_or (take c.from-count.result c.pairs.result) k no_pair).source - 1) (omega (arith, bounds.source_least, bounds.source_most)) in
    let five : k < 5 = omega (arith, here, count_most c.requires.0 c.loop-consumer.consumer h) in
    let now = c.loop-priority.invariant.own.waiting k (omega arith) five in
    let then = c.loop-consumer.invariant.given.waiting c.loop-consumer.consumer k (omega arith) five in
    let small = offer_small _ _ magnitude_most bounds.key_most supply in
    omega (arith, now, then, c.requires.2 c.loop-consumer.consumer k h here, c.share_of-share.ensures, small)

pub loop-priority-preserved : goal.loop-priority-preserved
loop-priority-preserved c =
    let at = (goal.at.loop-priority-preserved c).After-share_of-share in
    let inv = c.loop-priority.invariant in
    let consumer = c.loop-consumer.consumer in
    let size : length c.args.self.now.shares ≡ 320 = search rules in
    let most = count_most c.requires.0 consumer c.loop-consumer-test.true in
    let here = one at in
    rw (pair at) (record {
      few = inv.few;
      withdrawal = left_here _ _ _ inv.withdrawal (share at);
      fallen = fallen_next _ _ _ _ _ _ inv.fallen (taken at) c.share_of-share.result (share at);
      own = own_next _ _ _ _ _ _ inv.own (c.loop-consumer.invariant.given.size ∙ size) (omega (arith, few_points c.requires.0)) (omega arith) c.share_of-share.result (share at);
      rounds = inv.rounds;
    })

pub loop-consumer-preserved : goal.loop-consumer-preserved
loop-consumer-preserved c =
    let l = c.loop-priority in
    let r = c.args.registration.now in
    let p = c.requires.0 in
    let size : length c.pairs.result ≡ 5 = search rules in
    let most = count_most p c.loop-consumer.consumer c.loop-consumer-test.true in
    let taken = length-take-le c.from-count.result c.pairs.result (omega (arith, c.from-count.ensures)) in
    let last : l.priority ≡ count_at r c.loop-consumer.consumer = omega (arith, c.from-count.ensures) in
    record {
      few = l.invariant.few;
      fallen =
          fallen_same _ _ _ _ _ _ (fallen_turn _ _ _ _ _ _ l.invariant.fallen l.withdrawal (omega arith) (l.invariant.withdrawal ∙ rw last))
          (λ k h. rw last (passed_turn r.counts c.loop-consumer.consumer k));
      given = given_next _ _ _ _ _ _ (λ k h. count_most p k (omega arith)) c.loop-consumer.invariant.given l.invariant.own (omega arith);
      rounds = l.invariant.rounds;
    }

pub returns : goal.returns
returns c =
    let l = c.loop-consumer in
    let last : l.consumer ≡ c.args.registration.now.consumers = omega arith in
    round_made c.requires.0 _ refl (fallen_all _ _ _ _ _ _ l.invariant.fallen last) (given_all _ _ _ _ _ _ l.invariant.given last) l.invariant.rounds
