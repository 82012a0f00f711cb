-- `registration_writer::letters::put_producers` meets its contract: the D lines are put one after the other. Assumes nothing.
use native.Mathlib.Omega.{arith}
use Rattle.std.proofs.Common.{rules, ◌≡◌, ◌∙◌, sym, length, take}
use mathlib.Core.Logic.{⊎_elim}
use Prim.Native.Nat.{◌≤◌}
use lib.ListN.{length-append}
use lib.Seq.{length-take-le}
use Rattle.std.proofs.lemmas.List.{get_or-take}
use Rattle.lists.proofs.Adding.{no_piece, piece_fits, piece_more, all_pieces}
use Rattle.lists.proofs.Chains.{Taken, taken_one, taken_all}
use Rattle.registration_writer.proofs.Sizes.{lines__d, length__d, length_lines__d}
use Rattle.registration_writer.proofs.letters.put_producers.Goals as goal
use Rattle.registration_writer.proofs.letters.put_producers.Goals.{After-from}

-- the code and the status of the next producer
code : (c : After-from) → Taken (take c.args.registration.now.producers c.args.registration.now.codes) c.next.new.self.a.rest.now (length c.loop-code.yielded) c.in-Some.code.now 0
code c = taken_one _ _ _ _ _ (sym c.in-Some.ensures.steps.0 ∙ c.loop-code.invariant.codes)

status : (c : After-from) → Taken c.args.registration.now.statuses c.next.new.self.b.rest.now (length c.loop-code.yielded) c.in-Some.status.now 0
status c = taken_one _ _ _ _ _ (sym c.in-Some.ensures.steps.1 ∙ c.loop-code.invariant.statuses)

-- as many codes as there are producers
as_many : (c : After-from) → length (take c.args.registration.now.producers c.args.registration.now.codes) ≡ c.args.registration.now.producers
as_many c =
    let r = c.args.registration.now in
    let size : length r.codes ≡ 64 = search rules in
    length-take-le r.producers r.codes (omega arith)

pub loop-code-init : goal.loop-code-init
loop-code-init c = record { codes = search rules; statuses = search rules; within = omega arith; put = no_piece _ (omega arith) }

pub put-requires : goal.put-requires
put-requires c =
    let r = c.args.registration.now in
    let size = as_many c in
    let here = (code c).within in
    let fits = rw (length__d r) at (piece_fits _ c.loop-code.invariant.put r.producers (omega arith) (omega (arith, length_lines__d r r.producers))) in
    (omega arith, (omega arith, fits))

pub loop-code-preserved : goal.loop-code-preserved
loop-code-preserved c =
    let at = (goal.at.loop-code-preserved c).After-from in
    let r = c.args.registration.now in
    let size = as_many at in
    let p = code at in
    let s = status at in
    let code_is = p.here ∙ get_or-take r.producers r.codes (length c.loop-code.yielded) 0 (omega (arith, p.within)) in
    rw length-append (record {
      codes = p.left;
      statuses = s.left;
      within = omega (arith, p.within);
      put = piece_more _ c.loop-code.invariant.put (rw (c.from.ensures, s.here, code_is) at c.put.ensures);
    })

-- all producers have been passed: both lists have come to their end, and there are at most 64 producers
passed : (c : goal.In-None) → c.args.registration.now.producers ≤ length c.loop-code.yielded
passed c =
    let r = c.args.registration.now in
    let at = c.loop-code.invariant in
    let codes : length r.codes ≡ 64 = search rules in
    let statuses : length r.statuses ≡ 64 = search rules in
    let size = length-take-le r.producers r.codes (omega arith) in
    ⊎_elim
    (λ e. omega (arith, taken_all (take r.producers r.codes) _ (length c.loop-code.yielded) at.codes e.1.0))
    (λ e. omega (arith, taken_all r.statuses _ (length c.loop-code.yielded) at.statuses e.1.0))
    c.in-None.ensures.steps

pub returns : goal.returns
returns c = rw lines__d (all_pieces _ c.loop-code.invariant.put c.loop-code.invariant.within (passed c))
