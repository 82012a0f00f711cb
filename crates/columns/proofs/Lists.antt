-- Columns one after the other: which numbers fit, how long the columns are together, and columns after columns. Assumes nothing.
use Prim.Native.Nat.{ℕ, suc, ◌+◌, ◌-◌, ◌^◌, ◌≤◌, ◌<◌}
use mathlib.Core.Path.{◌≡◌, refl, sym, ap, ◌∙◌}
use mathlib.Core.Bool.{true, false, ◌&&◌}
use mathlib.Core.List.{List, [], ◌∷◌, ◌++◌, append_assoc}
use native.Mathlib.Omega.{arith}
use borrow.Author.Tests.{leb-true, ltb-true, le-leb, lt-ltb}
use lib.Dec.{leb, ltb}
use lib.ListN.{length, length-append}
use Rattle.std.specs.Prelude.{sum}
use Rattle.std.proofs.lemmas.List.Sums.{sum_by-cons}
use Rattle.columns.specs.Column.{widest}
use Rattle.columns.specs.Fields.{total, columns_of, fitting}
use Rattle.columns.proofs.Clauses.{fitting_cons}
use Rattle.columns.proofs.Fill.{length_column}
use Rattle.lists.proofs.Below.{both}

-- one more number that fits, and what that it fits says
pub fits_more : (w n : ℕ) (ws ns : List ℕ) → 2 ≤ w → w ≤ widest → n < 10 ^ (w - 1) → fitting ws ns ≡ true → fitting (w ∷ ws) (n ∷ ns) ≡ true
fits_more w n ws ns h l m t = rw (fitting_cons, le-leb 2 w h, le-leb w widest l, lt-ltb n (10 ^ (w - 1)) m, t)

pub fits_first : (w n : ℕ) (ws ns : List ℕ) → fitting (w ∷ ws) (n ∷ ns) ≡ true → (2 ≤ w) × (w ≤ widest) × (n < 10 ^ (w - 1)) × (fitting ws ns ≡ true)
fits_first w n ws ns t =
    let a = both (leb 2 w && leb w widest && ltb n (10 ^ (w - 1))) (fitting ws ns) (sym (fitting_cons w n ws ns) ∙ t) in
    let b = both (leb 2 w && leb w widest) (ltb n (10 ^ (w - 1))) a.0 in
    let d = both (leb 2 w) (leb w widest) b.0 in
    (leb-true 2 w d.0, leb-true w widest d.1, ltb-true n (10 ^ (w - 1)) b.1, a.1)

-- numbers that fit are as many as the widths
pub fitting_length : (ws ns : List ℕ) → fitting ws ns ≡ true → length ws ≡ length ns
unfolding fitting
fitting_length [] [] t = refl
fitting_length [] (n ∷ ns) t = let z : false ≡ true = t in cc
fitting_length (w ∷ ws) [] t = let z : false ≡ true = t in cc
fitting_length (w ∷ ws) (n ∷ ns) t = ap suc (fitting_length ws ns (fits_first w n ws ns t).3)

pub length_columns : (ws ns : List ℕ) → length ws ≡ length ns → length (columns_of ws ns) ≡ total ws
unfolding columns_of
length_columns [] ns l = refl
length_columns (w ∷ ws) [] l = absurd (omega arith)
length_columns (w ∷ ws) (n ∷ ns) l = rw (length-append, length_column false w n, length_columns ws ns (omega arith))

pub columns_append : (ws ns vs ms : List ℕ) → length ws ≡ length ns → columns_of (ws ++ vs) (ns ++ ms) ≡ columns_of ws ns ++ columns_of vs ms
unfolding columns_of
columns_append [] [] vs ms l = refl
columns_append [] (n ∷ ns) vs ms l = absurd (omega arith)
columns_append (w ∷ ws) [] vs ms l = absurd (omega arith)
columns_append (w ∷ ws) (n ∷ ns) vs ms l = rw (columns_append ws ns vs ms (omega arith), append_assoc)

-- the total is std's sum
pub total_sum : (ws : List ℕ) → total ws ≡ sum ws
total_sum [] = refl
total_sum (w ∷ ws) = ap (λ (n : ℕ). w + n) (total_sum ws) ∙ sym (sum_by-cons (λ (x : ℕ). x) w ws)
