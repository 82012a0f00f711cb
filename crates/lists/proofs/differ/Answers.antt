-- `lists::differ` meets its contract: the chain is a test of each number with its index. Assumes nothing.
use Prim.Native.Nat.{ℕ}
use mathlib.Core.Path.{◌∙◌}
use mathlib.Core.Bool.{not}
use borrow.Author.Tests.{tests}
use Rattle.std.proofs.Common.{rules}
use Rattle.std.proofs.lemmas.Iterator.{YieldsList-from_slice}
use Rattle.std.proofs.lemmas.Iterator.Consumers.{YieldsList-from_enumerate}
use Rattle.std.proofs.lemmas.Iterator.Search.{all_from_yields_List}
use Rattle.std.specs.List.{list_any}
use lib.Dec.{eqb}
use lib.ListN.{take}
use Rattle.lists.proofs.Chains.{differ_indexed}
use Rattle.lists.proofs.differ.Goals as goal

pub returns : goal.returns
returns c =
    let numbers = c.args.numbers.now in
    all_from_yields_List (λ (p : ℕ × ℕ). not (list_any (λ (number : ℕ). eqb number p.1) (take p.0 numbers))) _ _ _ c.all.ensures.ran
    (YieldsList-from_enumerate (YieldsList-from_slice numbers cc) cc)
    (λ x b q k. search (rules, tests))
    ∙ differ_indexed numbers
