-- What holds of each number below n, by its index, said of the list of the first n. Assumes nothing.
use Prim.Native.Nat.{ℕ, zero, suc, ◌+◌, ◌-◌, ◌≤◌, ◌<◌}
use lib.Dec.{ltb, eqb}
use mathlib.Core.Path.{◌≡◌, refl, sym, ap, ◌∙◌}
use mathlib.Core.Bool.{Bool, true, false, not, ◌&&◌, ◌||◌}
use mathlib.Core.List.{List, [], ◌∷◌}
use native.Mathlib.Nat.{zero-add}
use native.Mathlib.Numerals.{add-one}
use native.Mathlib.Omega.{arith}
use lib.ListN.{length, take, drop, get_or, length-drop}
use Rattle.std.specs.List.{list_all, list_any, range_with_len, enumerate_from}
use Rattle.std.proofs.lemmas.List.{take_all}
use Rattle.std.proofs.lemmas.List.Folds.{list_all_more, list_any_more}
use Rattle.std.proofs.lemmas.List.FromFn.{length-range_with_len, get_or-range_with_len, length-enumerate_from, get_or-enumerate_from}
use borrow.Author.Tests.{le-ltb}
use Rattle.std.proofs.lemmas.List.{get_or-take, get_or-drop}
use lib.Seq.{take-suc, length-take-le}
use Rattle.lists.specs.Below.{every, differ}
use Rattle.lists.specs.Tables.{joined, table}
use Rattle.lists.proofs.Below.{every_same, every_then, from_begin, differ_same}

nor : (a b : Bool) → not (a || b) ≡ not a && not b
nor true b = refl
nor false b = refl

module _ {A : Type 0} (test : A → Bool) (list : List A) (past : A) where
  -- a test of each of the first n elements
  pub every_take : (n : ℕ) → n ≤ length list → every (λ i. test (get_or list i past)) n ≡ list_all test (take n list)
  unfolding every
  every_take zero h = refl
  every_take (suc n) h = rw (every_take n (omega arith)) (sym (rw add-one at (list_all_more test list n past (omega arith))))

  -- where none of them passes
  pub none_take : (n : ℕ) → n ≤ length list → every (λ i. not (test (get_or list i past))) n ≡ not (list_any test (take n list))
  unfolding every
  none_take zero h = refl
  none_take (suc n) h =
      rw (none_take n (omega arith)) (sym (ap not (rw add-one at (list_any_more test list n past (omega arith))) ∙ nor (list_any test (take n list)) (test (get_or list n past))))

  -- and of each element of a list
  pub every_whole : every (λ i. test (get_or list i past)) (length list) ≡ list_all test list
  every_whole = every_take (length list) (omega arith) ∙ rw (take_all (length list) list (omega arith))

-- a test of each element from place n on
pub every_drop : {A : Type 0} (test : A → Bool) (list : List A) (past : A) (n : ℕ) → n ≤ length list
    → every (λ i. ltb i n || test (get_or list i past)) (length list) ≡ list_all test (drop n list)
every_drop test list past n h =
    let more = length list - n in
    let rest : length (drop n list) ≡ more = length-drop n list in
    let size : n + more ≡ length list = omega arith in
    let f = λ (i : ℕ). ltb i n || test (get_or list i past) in
    let later : every (λ i. f (n + i)) more ≡ list_all test (drop n list) =
    every_same (λ i. f (n + i)) (λ i. test (get_or (drop n list) i past)) more
    (λ i l. rw (le-ltb (n + i) n (omega arith)) (ap test (sym (get_or-drop n list i past))))
    ∙ rw rest at (every_whole test (drop n list) past) in
    ap (every f) (sym size) ∙ every_then f n more ∙ rw (from_begin n (λ i. test (get_or list i past))) later

-- the first n numbers: as a table, and whether they differ
module _ (list : List ℕ) where
  pub table_take : (n : ℕ) → n ≤ length list → table (λ i. get_or list i 0) n ≡ take n list
  unfolding joined
  table_take zero h = refl
  table_take (suc n) h = rw (table_take n (omega arith)) (sym (take-suc list n 0 h))

  pub differ_take : (n : ℕ) → n ≤ length list → differ (λ i. get_or (take n list) i 0) (length (take n list)) ≡ differ (λ i. get_or list i 0) n
  differ_take n h = rw (length-take-le n list h) (differ_same _ _ n (λ i l. get_or-take n list i 0 l))

-- whether no number of a list stands among those before its index
pub differ_indexed : (list : List ℕ)
    → list_all (λ (p : ℕ × ℕ). not (list_any (λ (number : ℕ). eqb number p.1) (take p.0 list))) (enumerate_from 0 list) ≡ differ (λ i. get_or list i 0) (length list)
unfolding differ
differ_indexed list =
    let test = λ (p : ℕ × ℕ). not (list_any (λ (number : ℕ). eqb number p.1) (take p.0 list)) in
    let size : length (enumerate_from 0 list) ≡ length list = length-enumerate_from 0 list in
    sym (every_whole test (enumerate_from 0 list) (0, 0))
    ∙ rw size (every_same _ _ (length list) (λ i h. rw (get_or-enumerate_from, zero-add) (sym (none_take (λ number. eqb number (get_or list i 0)) list 0 i (omega arith)))))

-- where the first n elements of a list have been taken: one more is left there, or none is
pub record Taken {A : Type 0} (list rest : List A) (n : ℕ) (x past : A) : Type 0 where
  pub within : n < length list
  pub here : x ≡ get_or list n past
  pub left : rest ≡ drop (n + 1) list

pub taken_one : {A : Type 0} (list rest : List A) (n : ℕ) (x past : A) → x ∷ rest ≡ drop n list → Taken list rest n x past
taken_one [] rest zero x past e = cc
taken_one [] rest (suc n) x past e = cc
taken_one (y ∷ ys) rest zero x past e = record { within = omega arith; here = cc; left = cc }
taken_one (y ∷ ys) rest (suc n) x past e =
    let t = taken_one ys rest n x past e in
    record { within = omega (arith, t.within); here = t.here; left = rw (add-one (suc n)) (rw (add-one n) at t.left) }

pub taken_all : {A : Type 0} (list rest : List A) (n : ℕ) → rest ≡ drop n list → length rest ≡ 0 → length list ≤ n
taken_all list rest n e z = omega (arith, simp length-drop at (ap length e))

-- a test of each number below n is one of each number of a range
pub every_range : (test : ℕ → Bool) (n : ℕ) → every test n ≡ list_all test (range_with_len 0 n)
every_range test n =
    let numbers = range_with_len 0 n in
    let size : length numbers ≡ n = length-range_with_len 0 n in
    every_same test (λ i. test (get_or numbers i 0)) n (λ i h. ap test (sym (get_or-range_with_len 0 n i 0 h ∙ zero-add i)))
    ∙ rw size at (every_whole test numbers 0)
