-- `evaluation::evaluate` meets its contract: what is looked up, allocated and put is the result of the readings. Assumes nothing.
use Rattle.std.proofs.Common.{take, rules}
use Rattle.registration.specs.Rules.{points}
use Rattle.journal.specs.Stored.{entries_in}
use Rattle.allocation.proofs.Shareable.{few_points}
use Rattle.lookup.specs.Working.{AllOf}
use Rattle.lookup.proofs.Opened.{readable_in}
use Rattle.evaluation.proofs.Evaluated.{all_within, evaluated}
use Rattle.evaluation.proofs.evaluate.Goals as goal
use Rattle.evaluation.proofs.evaluate.Goals.{After-values-values}

-- the values looked up are those of the group's points
looked_up : (c : After-values-values) → let r = c.args.registration.now in
    AllOf (entries_in c.args.lookup.entries.now) c.args.lookup.asked (take (points r) r.statuses) c.values-values.result
looked_up c = rw c.points-points.ensures at c.values-values.ensures

pub allocate-allocated-requires : goal.allocate-allocated-requires
allocate-allocated-requires c =
    let all = looked_up (goal.at.allocate-allocated-requires c).After-values-values in (
      c.requires.0,
      all_within c.args.registration.now c.values-values.result (search rules) (few_points c.requires.0) all (search rules)
          c.magnitudes.result c.magnitudes.ensures (readable_in c.args.lookup).right,
    )

pub returns : goal.returns
returns c =
    let all = looked_up (goal.at.returns c).After-values-values in
    evaluated c.args.registration.now c.values-values.result (search rules) (few_points c.requires.0) all (search rules)
    c.magnitudes.result c.magnitudes.ensures c.allocate-allocated.result c.allocate-allocated.ensures
    (rw c.points-points.ensures at c.put_parts.ensures)
