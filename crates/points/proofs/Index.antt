-- The first place of a code in a list: what stands there, that codes with one are one, and that of codes that differ each first stands at its own.
-- Assumes nothing.
use Prim.Native.Nat.{ℕ, zero, suc, ◌≤◌, ◌<◌}
use native.Mathlib.Omega.{arith}
use native.Mathlib.Nat.{not-suc-le-zero, le_of_suc-le-suc}
use mathlib.Core.Path.{◌≡◌, refl, sym, ap, ◌∙◌}
use mathlib.Core.Bool.{true, not, true≢false}
use mathlib.Core.List.{List, [], ◌∷◌}
use lib.Dec.{ltb, eqb}
use lib.ListN.{length, get_or}
use borrow.Author.Tests.{ltb-true, ltb-false, eqb-true, eq-eqb}
use Rattle.lists.specs.Below.{every, differ}
use Rattle.lists.specs.Tables.{table}
use Rattle.lists.proofs.Cases.{by_test}
use Rattle.lists.proofs.Below.{every_at}
use Rattle.lists.proofs.TableLaws.{length_table, table_at}
use Rattle.points.specs.Points.{index_of}

-- a code that is in a list stands at its index
pub index_found : (code : ℕ) (xs : List ℕ) → index_of code xs < length xs → get_or xs (index_of code xs) 0 ≡ code
unfolding index_of
index_found code [] h = absurd (not-suc-le-zero h)
index_found code (x ∷ xs) h =
    by_test (eqb code x) (λ e. rw e (sym (eqb-true code x e))) (λ e. rw e (index_found code xs (le_of_suc-le-suc (rw e at h))))

-- so codes with one index are one code
pub index_same : (b c : ℕ) (xs : List ℕ) → index_of b xs < length xs → index_of b xs ≡ index_of c xs → b ≡ c
index_same b c xs h e =
    let k : index_of c xs < length xs = omega arith in
    sym (index_found b xs h) ∙ ap (λ (i : ℕ). get_or xs i 0) e ∙ index_found c xs k

-- the first place of what stands at a place is not later
index_within : (xs : List ℕ) (i : ℕ) → i < length xs → index_of (get_or xs i 0) xs ≤ i
unfolding index_of
index_within [] i h = absurd (not-suc-le-zero h)
index_within (x ∷ xs) zero h = rw (eq-eqb x x refl) (omega arith)
index_within (x ∷ xs) (suc i) h =
    by_test (eqb (get_or xs i 0) x)
    (λ t. rw t (omega arith))
    (λ t. let r = index_within xs i (le_of_suc-le-suc h) in rw t (omega arith))

-- where the values of a function differ, each first stands at its own place
pub index_own : (f : ℕ → ℕ) (n i : ℕ) → differ f n ≡ true → i < n → index_of (f i) (table f n) ≡ i
unfolding differ
index_own f n i d h =
    let l = length_table f n in
    let at = table_at f n i h in
    let k = index_of (f i) (table f n) in
    let w : k ≤ i = rw at at (index_within (table f n) i (omega (arith, l))) in
    by_test (ltb k i)
    (λ t.
    let m : k < i = ltb-true k i t in
    let e : f k ≡ f i = sym (table_at f n k (omega arith)) ∙ index_found (f i) (table f n) (omega (arith, l)) in
    absurd (true≢false (sym (every_at (λ k. not (eqb (f k) (f i))) i k (every_at (λ i. every (λ k. not (eqb (f k) (f i))) i) n i d h) m) ∙ ap not (eq-eqb (f k) (f i) e))))
    (λ t. let m : i ≤ k = ltb-false k i t in omega arith)
