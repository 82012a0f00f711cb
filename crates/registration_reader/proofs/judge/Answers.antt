-- `registration_reader::judge` meets its contract: the codes of the group's points are the first of the list. Assumes nothing.
use mathlib.Core.Path.{◌≡◌, ap, ◌∙◌}
use Prim.Native.Nat.{◌≤◌}
use native.Mathlib.Omega.{arith}
use borrow.Author.Rules.{rules}
use lib.ListN.{length}
use Rattle.answers.proofs.Refusals.{refusals}
use Rattle.lists.specs.Below.{differ}
use Rattle.lists.proofs.Chains.{differ_take}
use Rattle.registration.specs.Rules.{code_at, codes_differ}
use Rattle.registration_text.specs.Reader.{verdict_of_all}
use Rattle.registration_reader.proofs.judge.Goals as goal
use Rattle.registration_reader.proofs.judge.Goals.{After-differ}

differs : (c : After-differ) → c.differ.result ≡ codes_differ c.args.registration.now
differs c =
    let codes = c.args.registration.now.codes in
    let size : length codes ≡ 64 = search rules in
    let most : c.points.result ≤ length codes = omega arith in
    c.differ.ensures ∙ differ_take codes c.points.result most ∙ ap (differ (code_at c.args.registration.now)) c.points.ensures

pub returns-then-not-differ : goal.returns-then-not-differ
unfolding verdict_of_all
returns-then-not-differ c = let d = differs (goal.at.returns-then-not-differ c).After-differ in grind (arith, refusals)

pub returns-then-not-keys_right : goal.returns-then-not-keys_right
unfolding verdict_of_all
returns-then-not-keys_right c = let d = differs (goal.at.returns-then-not-keys_right c).After-differ in grind (arith, refusals)

pub returns : goal.returns
unfolding verdict_of_all
returns c = let d = differs (goal.at.returns c).After-differ in grind (arith, refusals)
