-- `event_writer::put_result` meets its contract: S, U, V and W lines put in turn are the lines of the result.
use mathlib.Core.Path.{refl}
use native.Mathlib.Omega.{arith}
use Rattle.event_writer.proofs.Lengths.{length_of_shares, withdrawals_length, supplies_length, origins_length, withdrawals_lines, supplies_lines, result_put}
use Rattle.event_writer.proofs.put_result.Goals as goal

pub put_points-requires : goal.put_points-requires
put_points-requires c =
    let r = c.args.registration.now in
    let n = c.args.numbers.now in
    let l = length_of_shares r n in
    let m = withdrawals_length r c.layout_of-layout.result c.layout_of-layout.ensures n c.requires.registration_in_bounds.0 in
    (refl, omega (arith, m, c.requires.consumers_bound), omega (arith, l, m, c.requires.registration_in_bounds.1))

pub put_points-requires-2 : goal.put_points-requires-2
put_points-requires-2 c =
    let r = c.args.registration.now in
    let n = c.args.numbers.now in
    let layout = c.layout_of-layout.result in
    let laid = c.layout_of-layout.ensures in
    let room = c.requires.registration_in_bounds.0 in
    let l = length_of_shares r n in
    let m = supplies_length r layout laid n room in
    let u = withdrawals_lines r layout laid n room in
    (refl, omega (arith, m, c.requires.consumers_bound), omega (arith, l, m, u, c.requires.registration_in_bounds.1))

pub put_points-requires-3 : goal.put_points-requires-3
put_points-requires-3 c =
    let r = c.args.registration.now in
    let n = c.args.numbers.now in
    let layout = c.layout_of-layout.result in
    let laid = c.layout_of-layout.ensures in
    let room = c.requires.registration_in_bounds.0 in
    let l = length_of_shares r n in
    let m = origins_length r layout laid n room in
    let u = withdrawals_lines r layout laid n room in
    let v = supplies_lines r layout laid n room in
    (refl, omega (arith, m, c.requires.consumers_bound), omega (arith, l, m, u, v, c.requires.registration_in_bounds.1))

pub returns : goal.returns
returns c =
    result_put c.args.registration.now c.layout_of-layout.result c.layout_of-layout.ensures c.args.numbers.now c.requires.registration_in_bounds.0
    c.put_shares.ensures c.put_points.ensures c.put_points-2.ensures c.put_points-3.ensures
