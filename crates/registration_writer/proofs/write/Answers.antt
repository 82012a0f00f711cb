-- `registration_writer::write` meets its contract: an undamaged registration's lines have room, and make its text. Assumes nothing.
use Prim.Native.Nat.{◌+◌, ◌*◌, ◌≤◌}
use mathlib.Core.Path.{◌≡◌, sym, ◌∙◌}
use mathlib.Core.Bool.{false}
use native.Mathlib.Omega.{arith}
use borrow.Author.Rules.{rules}
use lib.ListN.{length}
use Rattle.std.proofs.lemmas.Result.{err_from_is_err_and}
use Rattle.lists.proofs.Adding.{lent_put}
use Rattle.registration.specs.Damage.{is_damaged}
use Rattle.registration_text.specs.Writer.{lines_o}
use Rattle.registration_writer.proofs.Sizes.{length__g, text_parts}
use Rattle.registration_writer.proofs.WholeText.{sound, few_points, few_sources, length_producers, text_added, refused_damaged, refused_short, accepted}
use Rattle.registration_writer.proofs.write.Goals as goal
use Rattle.registration_writer.proofs.write.Goals.{In_ok-soundness, After-size-size}

undamaged : (c : In_ok-soundness) → is_damaged c.args.registration.now ≡ false
undamaged c = sound _ (sym c.soundness.ensures ∙ c.in_ok-soundness.was)

-- a buffer that is not too short has room for the lines
room : (c : After-size-size) → c.size-size.result ≤ length c.args.out.now → let r = c.args.registration.now in
    12 + (23 * r.producers + length (lines_o r 0 r.consumers)) ≤ length c.args.out.now
room c h = omega (arith, c.size-size.ensures, text_parts c.args.registration.now)

pub returns-in_err-soundness : goal.returns-in_err-soundness
returns-in_err-soundness c =
    let p = err_from_is_err_and c.from_residual.result c.from_residual.ensures.1 in
    rw (p.1, p.2) (refused_damaged _ _ _ (sym c.soundness.ensures ∙ c.in_err-soundness.was))

pub size-size-requires : goal.size-size-requires
size-size-requires c = few_points _ (undamaged c)

pub returns-then-out-size : goal.returns-then-out-size
returns-then-out-size c = refused_short _ _ (undamaged (goal.at.returns-then-out-size c).In_ok-soundness) (omega (arith, c.size-size.ensures))

pub put_group-requires : goal.put_group-requires
put_group-requires c = omega (arith, room (goal.at.put_group-requires c).After-size-size c.if-out-size.false)

pub put_producers-requires : goal.put_producers-requires
put_producers-requires c =
    let r = c.args.registration.now in
    let fits = room (goal.at.put_producers-requires c).After-size-size c.if-out-size.false in
    (omega (arith, few_points r (undamaged (goal.at.put_producers-requires c).In_ok-soundness)), omega (arith, length__g r))

pub put_consumers-requires : goal.put_consumers-requires
put_consumers-requires c =
    let r = c.args.registration.now in
    let sound = undamaged (goal.at.put_consumers-requires c).In_ok-soundness in
    let fits = room (goal.at.put_consumers-requires c).After-size-size c.if-out-size.false in
    record { points_bound = few_points r sound; by_index = few_sources r sound; room = omega (arith, length__g r, length_producers r) }

pub returns : goal.returns
returns c =
    let r = c.args.registration.now in
    accepted r _ (undamaged (goal.at.returns c).In_ok-soundness) (omega (arith, c.size-size.ensures))
    (lent_put (text_added r c.put_group.ensures c.put_producers.ensures c.put_consumers.ensures) (search rules))
