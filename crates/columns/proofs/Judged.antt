-- What the tests of a column come to, as the readers make them. Assumes nothing.
use Prim.Native.Nat.{ℕ, ◌^◌, ◌-◌, ◌≤◌, ◌<◌}
use mathlib.Core.Path.{◌≡◌, refl, sym, ◌∙◌}
use mathlib.Core.Bool.{Bool, true, false, not, ◌&&◌}
use mathlib.Core.List.{List}
use native.Mathlib.Omega.{arith}
use borrow.Author.Tests.{eqb-true, leb-true, lt-leb}
use lib.Dec.{leb, eqb}
use lib.ListN.{length, get_or}
use Rattle.std.specs.Prelude.{Option, None, Some}
use Rattle.columns.specs.Column.{value_from, is_column, has_minus, number_if, signed_if, signed_in, space_byte, widest}
use Rattle.lists.proofs.Below.{both}
use Rattle.columns.proofs.Values.{value_room, most}

-- a column is not too wide, and begins with a space
abbrev pub begins : List ℕ → Bool
begins column = leb (length column) widest && eqb (get_or column 0 0) space_byte

-- the value of such a column, whatever its other bytes are, fits an i64 with either sign
pub begun_fits : (column : List ℕ) → begins column ≡ true → value_from 0 column < 10 ^ 18
begun_fits column b =
    let s = both (leb (length column) widest) _ b in
    let l : length column ≤ widest = leb-true _ _ s.0 in
    let v = (value_room column (eqb-true _ _ s.1)).1 in
    omega (arith, most (length column - 1) 18 (omega arith))

-- a number that is given was in its column
number_given : (t : Bool) (v n : ℕ) → number_if t v ≡ Some n → (t ≡ true) × (v ≡ n)
number_given true v n e = (refl, cc)
number_given false v n e = let z : ◌≡◌ {A = ℕ} 0 1 = cc in absurd (omega arith)

not_given : (t : Bool) (v : ℕ) → number_if t v ≡ None → t ≡ false
not_given true v e = let z : ◌≡◌ {A = ℕ} 0 1 = cc in absurd (omega arith)
not_given false v e = refl

-- a column that is too wide is no value's, whatever stands in it
pub too_wide : (column : List ℕ) → widest < length column → None ≡ signed_in column
unfolding signed_in
too_wide column h = rw (lt-leb (length column) widest h)

-- the number in a column, with a minus or not as the column has one
module _ (column : List ℕ) (minus : Bool) (m : minus ≡ has_minus column) (answer : Option ℕ)
    (a : answer ≡ number_if (is_column minus column) (value_from 0 column)) where
  pub signed_refused : answer ≡ None → None ≡ signed_in column
  unfolding signed_in
  signed_refused e =
      let t : is_column minus column ≡ false = not_given (is_column minus column) (value_from 0 column) (sym a ∙ e) in
      let u : is_column (has_minus column) column ≡ false = rw m at t in
      rw u

  module _ (n : ℕ) (e : answer ≡ Some n) where
    given : (is_column minus column ≡ true) × (value_from 0 column ≡ n)
    given = number_given (is_column minus column) (value_from 0 column) n (sym a ∙ e)

    -- it fits an i64 with either sign
    pub value_fits : n < 2 ^ 63
    value_fits =
        let b = both (leb (length column) widest && eqb (get_or column 0 0) space_byte) _ given.0 in
        let s = both (leb (length column) widest) _ b.0 in
        let l : length column ≤ widest = leb-true _ _ s.0 in
        let v = (value_room column (eqb-true _ _ s.1)).1 in
        omega (arith, given.1, most (length column - 1) 18 (omega arith))

    pub signed_judged : (sign none : Bool) → minus ≡ sign → eqb n 0 ≡ none → signed_if (not (sign && none)) sign n ≡ signed_in column
    unfolding signed_in
    signed_judged sign none s z =
        let h : has_minus column ≡ sign = sym m ∙ s in
        let u : is_column sign column ≡ true = rw s at given.0 in
        rw (h, u, given.1, z)
