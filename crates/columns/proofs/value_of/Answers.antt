-- `columns::value_of` meets its contract: the digits so far make a number below that power of ten, and each turn is one of the definition's.
use Prim.Native.Nat.{ℕ, ◌+◌, ◌*◌, ◌^◌, ◌≤◌, ◌<◌}
use mathlib.Core.Path.{◌≡◌, ap, ◌∙◌}
use mathlib.Core.List.{List, [], ◌∷◌}
use native.Mathlib.Omega.{arith}
use denote.Ref.{Bor}
use lib.ListN.{length, length-append}
use Rattle.std.specs.Iterator.{Yields}
use Rattle.std.proofs.Common.{rules, Iter}
use Rattle.std.proofs.lemmas.Fn.{serves_by, fronts}
use Rattle.std.proofs.lemmas.Iterator.{YieldsList-from_slice}
use Rattle.std.proofs.lemmas.Iterator.Consumers.{fold_from_yields_List}
use Rattle.columns.specs.Column.{digit_of}
use Rattle.columns.proofs.Values.{tens, most, digit_small, value_fold}
use Rattle.columns.proofs.value_of.Goals as goal

-- how many bytes have been taken and how many are left
taken : (xs : List (Bor ℕ)) (s t : Iter ℕ) → Yields fronts s xs t → length s.rest.now ≡ length xs + length t.rest.now
taken [] s t y = omega (arith, ap (λ (k : Iter ℕ). length k.rest.now) y)
taken (x ∷ xs) s t y = omega (arith, ap length y.1, taken xs y.0 t y.2)

pub fold-requires-clause-callable : goal.fold-requires-clause-callable
fold-requires-clause-callable c =
    serves_by _ (λ xs q. q.1 < 10 ^ length xs)
    (λ xs q x v j r.
    let e : v.1 ≡ q.1 * 10 + digit_of x.now = search rules in
    rw length-append (omega (arith, tens (length xs), digit_small x.now)))
    _ _ _ _ (omega arith)
    (λ xs t q x u y e j.
    let n : length xs ≤ 18 = omega (arith, taken xs c.iter.result t y, ap length e, ap length c.iter.ensures.rest) in
    let b : q.1 * 10 + 9 < 2 ^ 64 = omega (arith, most (length xs) 18 n) in
    search rules)

pub returns : goal.returns
returns c =
    fold_from_yields_List _ (λ (v : ℕ) (byte : ℕ). v * 10 + digit_of byte) _ _ c.fold.ensures.ran (YieldsList-from_slice c.args.column.now cc)
    (λ a x b q k. search rules)
    ∙ value_fold 0 c.args.column.now
