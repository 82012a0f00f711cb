-- The clauses of each recursive definition, as equations. Assumes nothing.
use Prim.Native.Nat.{ℕ, suc, ◌+◌, ◌-◌, ◌*◌, ◌/◌, ◌%◌, ◌^◌}
use mathlib.Core.Path.{◌≡◌, refl}
use mathlib.Core.Bool.{Bool, true, false, not, ◌&&◌, ◌||◌}
use mathlib.Core.List.{List, [], ◌∷◌, ◌++◌}
use Rattle.std.specs.Prelude.{Some}
use lib.Dec.{leb, ltb, eqb}
use lib.ListN.{take, drop}
use Rattle.columns.specs.Column.{byte_before, lead_of, column_of, digit_of, value_from, same_bytes, has_minus, number_in, widest}
use Rattle.columns.specs.Fields.{columns_of, with_first, numbers_in, fitting}

pub lead_of_suc : (minus : Bool) (w n : ℕ) → lead_of minus (suc w) n ≡ lead_of (minus && not (eqb n 0)) w (n / 10) ++ (byte_before minus n ∷ [])
unfolding lead_of
lead_of_suc minus w n = refl

pub column_of_suc : (minus : Bool) (w n : ℕ) → column_of minus (suc w) n ≡ lead_of minus w (n / 10) ++ ((48 + n % 10) ∷ [])
unfolding column_of
column_of_suc minus w n = refl

pub value_from_cons : (v byte : ℕ) (bytes : List ℕ) → value_from v (byte ∷ bytes) ≡ value_from (v * 10 + digit_of byte) bytes
unfolding value_from
value_from_cons v byte bytes = refl

pub same_bytes_cons : (x y : ℕ) (xs ys : List ℕ) → same_bytes (x ∷ xs) (y ∷ ys) ≡ (eqb x y && same_bytes xs ys)
same_bytes_cons x y xs ys = refl

pub has_minus_cons : (byte : ℕ) (bytes : List ℕ) → has_minus (byte ∷ bytes) ≡ (eqb byte 45 || has_minus bytes)
has_minus_cons byte bytes = refl

pub columns_of_nil : (ns : List ℕ) → columns_of [] ns ≡ []
unfolding columns_of
columns_of_nil ns = refl

pub columns_of_cons : (w n : ℕ) (ws ns : List ℕ) → columns_of (w ∷ ws) (n ∷ ns) ≡ column_of false w n ++ columns_of ws ns
unfolding columns_of
columns_of_cons w n ws ns = refl

pub numbers_in_nil : (bytes : List ℕ) → numbers_in [] bytes ≡ Some []
unfolding numbers_in
numbers_in_nil bytes = refl

pub numbers_in_cons : (w : ℕ) (ws bytes : List ℕ) → numbers_in (w ∷ ws) bytes ≡ with_first (number_in (take w bytes)) (numbers_in ws (drop w bytes))
unfolding numbers_in
numbers_in_cons w ws bytes = refl

pub fitting_nil : fitting [] [] ≡ true
unfolding fitting
fitting_nil = refl

pub fitting_cons : (w n : ℕ) (ws ns : List ℕ) → fitting (w ∷ ws) (n ∷ ns) ≡ (leb 2 w && leb w widest && ltb n (10 ^ (w - 1)) && fitting ws ns)
unfolding fitting
fitting_cons w n ws ns = refl
