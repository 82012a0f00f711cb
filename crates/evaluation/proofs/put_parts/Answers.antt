-- `evaluation::put_parts` meets its contract: the parts are put in turn. Assumes nothing.
use Rattle.std.proofs.Common.{◌≡◌, ◌+◌, length, get_or, rules, arith, ◌∙◌}
use Rattle.lists.specs.Pages.{Room}
use Rattle.lists.specs.Tables.{table}
use Rattle.lists.proofs.Adding.{added_then, lent_put}
use Rattle.lists.proofs.TableLaws.{length_table}
use Rattle.registration.specs.Rules.{points, place_at}
use Rattle.allocation.proofs.Pairs.{pairs_length}
use Rattle.allocation.proofs.Shareable.{few_points}
use Rattle.evaluation.proofs.Parts.{front_table, back_table}
use Rattle.evaluation.proofs.put_parts.Goals as goal
use Rattle.evaluation.proofs.put_parts.Goals.{After-put_shares}

-- the remaining withdrawals and the remaining supplies
withdrawals : (c : After-put_shares) → let r = c.args.registration.now in
    c.split_at.result.1.now ≡ table (λ i. get_or c.args.allocated.now.left (r.producers + i) 0) r.consumers
withdrawals c =
    let r = c.args.registration.now in
    let left = c.args.allocated.now.left in
    let size : length left ≡ 64 = search rules in
    let few = few_points c.requires.0 in
    c.split_at.ensures.back ∙ rw c.points-points.ensures (back_table left r.producers r.consumers (omega arith))

supplies : (c : After-put_shares) → let r = c.args.registration.now in
    c.split_at.result.0.now ≡ table (λ i. get_or c.args.allocated.now.left i 0) r.producers
supplies c =
    let r = c.args.registration.now in
    let left = c.args.allocated.now.left in
    let size : length left ≡ 64 = search rules in
    let few = few_points c.requires.0 in
    c.split_at.ensures.front ∙ rw c.points-points.ensures (front_table left r.producers r.consumers (omega arith))

-- how many they are, and that after the shares there is room for them and for the origins
sizes : (c : After-put_shares) → let r = c.args.registration.now in
    (length c.split_at.result.1.now ≡ r.consumers) × (length c.split_at.result.0.now ≡ r.producers)
    × Room (r.consumers + r.producers + points r) c.put_shares.new.page
sizes c =
    let r = c.args.registration.now in
    let shares = pairs_length r (place_at c.args.allocated.now.shares) in (
      rw (withdrawals c) (length_table _ r.consumers),
      rw (supplies c) (length_table _ r.producers),
      omega (arith, c.requires.2, c.put_shares.ensures.put.end, c.put_shares.ensures.same_length),
    )

pub put-requires : goal.put-requires
put-requires c = let s = sizes (goal.at.put-requires c).After-put_shares in omega arith

pub put-requires-2 : goal.put-requires-2
put-requires-2 c =
    let s = sizes (goal.at.put-requires-2 c).After-put_shares in
    omega (arith, c.put.ensures.put.end, c.put.ensures.same_length)

pub put_origins-requires : goal.put_origins-requires
put_origins-requires c =
    let s = sizes (goal.at.put_origins-requires c).After-put_shares in
    omega (arith, c.requires.1, c.put.ensures.put.end, c.put.ensures.same_length, c.put-2.ensures.put.end, c.put-2.ensures.same_length)

pub returns : goal.returns
returns c =
    let at = (goal.at.returns c).After-put_shares in
    let first = rw (withdrawals at) at c.put.ensures in
    let second = rw (supplies at) at c.put-2.ensures in
    (lent_put (added_then c.put_shares.ensures (added_then first (added_then second c.put_origins.ensures))) (search rules)).list
