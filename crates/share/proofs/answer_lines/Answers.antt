-- `share::answer_lines` meets its contract and ends, since each turn takes a line off the text. Between two turns the bytes computed so far and the answers
-- still to come make up all the answers: `Written` in the loop's invariant. Assumes nothing of its own.
use Rattle.std.proofs.Common.{rules, ◌<◌, refl, subst, [], length, arith}
use Rattle.std.proofs.lemmas.Grind.{common_steps}
use Rattle.std.proofs.KnownBytes.{Appends-nil, Appends-trans}
use Rattle.std.specs.Io.KnownBytes.{Appends}
use Rattle.event_text.proofs.Cutting.{shorter}
use Rattle.share.proofs.Turns.{always_answered, replied, one_more, all_written}
use Rattle.share.proofs.answer_lines.Goals as goal

pub loop-rest-init : goal.loop-rest-init
loop-rest-init g c = (refl, refl, ([], record { whole = refl }, Appends-nil _))

pub unwrap-bytes-requires : goal.unwrap-bytes-requires
unwrap-bytes-requires g c = always_answered _ _ _ _ (omega (arith, c.loop-rest.invariant.1)) _ _ _ _ c.answer.ensures.answers

pub loop-rest-smaller : goal.loop-rest-smaller
loop-rest-smaller g c =
    let some : 0 < length c.loop-rest.rest.now = grind (arith, common_steps) in
    rw c.split_line.ensures.rest (shorter c.loop-rest.rest.now some)

pub loop-rest-preserved : goal.loop-rest-preserved
loop-rest-preserved g c =
    let inv = c.loop-rest.invariant in
    let some : 0 < length c.loop-rest.rest.now = grind (arith, common_steps) in
    let reply = replied _ _ _ _ (omega (arith, inv.1)) _ _ _ c.unwrap-bytes.result (rw c.unwrap-bytes.ensures at c.answer.ensures.answers) in
    let more = one_more _ _ _ _ _ inv.2.1 some _ _ c.split_line.ensures.line c.split_line.ensures.rest _ _ _ _ _ reply in
    (search rules, search rules, (_, more, Appends-trans _ _ _ _ _ inv.2.2 c.in_ok-write_all.ensures.bytes))

pub returns : goal.returns
returns g c =
    let inv = c.loop-rest.invariant in
    subst (Appends _ _) (all_written _ _ _ _ _ inv.2.1 (grind (arith, common_steps))) inv.2.2
