-- `registration_damage::unused_zero` meets its contract: what is left of each array after the numbers used. Assumes nothing.
use Rattle.std.proofs.Common.{rules, arith}
use Rattle.registration.proofs.Unused.{unused_left}
use Rattle.registration_damage.proofs.unused_zero.Goals as goal

pub returns-then-all_zero-3 : goal.returns-then-all_zero-3
returns-then-all_zero-3 c =
    rw (unused_left c.args.registration.now _ c.points-points.ensures (omega arith) (search rules) (search rules) (search rules)) (search rules)

pub returns-else-all_zero-3 : goal.returns-else-all_zero-3
returns-else-all_zero-3 c =
    rw (unused_left c.args.registration.now _ c.points-points.ensures (omega arith) (search rules) (search rules) (search rules)) (search rules)
