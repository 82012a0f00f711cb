-- The number that a column's digits make: byte by byte, of what is written of n, and how large it can be. Assumes nothing.
use Prim.Native.Nat.{ℕ, zero, suc, ◌+◌, ◌-◌, ◌*◌, ◌/◌, ◌%◌, ◌^◌, ◌≤◌, ◌<◌}
use mathlib.Core.Path.{◌≡◌, refl, ◌∙◌}
use mathlib.Core.Bool.{Bool, true, false, cond, not, ◌&&◌}
use mathlib.Core.List.{List, [], ◌∷◌, ◌++◌}
use native.Mathlib.Omega.{arith}
use native.Mathlib.Nat.{pow-suc, pow-le-pow_right}
use native.Mathlib.Numerals.{add-one, sub-one}
use borrow.Author.Tests.{le-ltb, ltb-false}
use lib.Dec.{eqb, ltb, lit<, eqb-suc-zero}
use lib.ListN.{length, get_or}
use Rattle.std.specs.List.{fold}
use Rattle.columns.specs.Column.{byte_before, lead_of, column_of, digit_of, value_from, space_byte}

-- the number is a fold of the bytes
pub value_fold : (v : ℕ) (bytes : List ℕ) → fold (λ (n : ℕ) (byte : ℕ). n * 10 + digit_of byte) v bytes ≡ value_from v bytes
unfolding value_from
value_fold v [] = refl
value_fold v (byte ∷ bytes) = value_fold (v * 10 + digit_of byte) bytes

pub tens : (i : ℕ) → 10 ^ (i + 1) ≡ 10 ^ i * 10
tens i = rw (add-one, pow-suc)

pub most : (i k : ℕ) → i ≤ k → 10 ^ i ≤ 10 ^ k
most i k h = pow-le-pow_right (lit< tt) h

pub digit_small : (byte : ℕ) → digit_of byte ≤ 9
digit_small byte = go (ltb byte 48) (ltb 57 byte) refl
  where
    go : (s t : Bool) → ltb 57 byte ≡ t → cond s 0 (cond t 0 (byte - 48)) ≤ 9
    go true t e = omega arith
    go false true e = omega arith
    go false false e = omega (arith, ltb-false 57 byte e)

value_bound : (bytes : List ℕ) (k v : ℕ) → v < k → value_from v bytes < k * 10 ^ length bytes
unfolding value_from
value_bound [] k v h = omega arith
value_bound (byte ∷ bytes) k v h =
    let d : digit_of byte ≤ 9 = digit_small byte in
    let i : value_from (v * 10 + digit_of byte) bytes < k * 10 * 10 ^ length bytes = value_bound bytes (k * 10) (v * 10 + digit_of byte) (omega arith) in
    rw (pow-suc 10 (length bytes)) (omega arith)

-- a space in front leaves one place less to the digits
pub value_room : (column : List ℕ) → get_or column 0 0 ≡ space_byte → (1 ≤ length column) × (value_from 0 column < 10 ^ (length column - 1))
unfolding value_from
value_room [] e = absurd (omega arith)
value_room (byte ∷ bytes) e =
    let i : value_from 0 bytes < 1 * 10 ^ length bytes = value_bound bytes 1 0 (omega arith) in
    (omega arith, rw (e, sub-one) (omega arith))

value_snoc : (v : ℕ) (bytes : List ℕ) (byte : ℕ) → value_from v (bytes ++ (byte ∷ [])) ≡ value_from v bytes * 10 + digit_of byte
unfolding value_from
value_snoc v [] byte = refl
value_snoc v (x ∷ bytes) byte = value_snoc (v * 10 + digit_of x) bytes byte

digit_last : (n : ℕ) → digit_of (48 + n % 10) ≡ n % 10
digit_last n = rw (le-ltb (48 + n % 10) 48 (omega arith), le-ltb 57 (48 + n % 10) (omega arith)) (omega arith)

digit_before : (minus : Bool) (n : ℕ) → digit_of (byte_before minus n) ≡ n % 10
digit_before true zero = refl
digit_before false zero = refl
digit_before minus (suc n) = rw eqb-suc-zero (digit_last (suc n))

pub tenth : (w n : ℕ) → n < 10 ^ suc w → n / 10 < 10 ^ w
tenth w n h = let p : 10 ^ suc w ≡ 10 ^ w * 10 = pow-suc 10 w in omega arith

value_lead : (minus : Bool) (w n : ℕ) → n < 10 ^ w → value_from 0 (lead_of minus w n) ≡ n
unfolding lead_of value_from
value_lead minus zero n h = omega arith
value_lead minus (suc w) n h =
    let due = minus && not (eqb n 0) in
    value_snoc 0 (lead_of due w (n / 10)) (byte_before minus n) ∙ rw (value_lead due w (n / 10) (tenth w n h), digit_before minus n) (omega arith)

-- a column holds the number that is written
pub value_column : (minus : Bool) (w n : ℕ) → n < 10 ^ w → value_from 0 (column_of minus w n) ≡ n
unfolding column_of value_from
value_column minus zero n h = omega arith
value_column minus (suc w) n h =
    value_snoc 0 (lead_of minus w (n / 10)) (48 + n % 10) ∙ rw (value_lead minus w (n / 10) (tenth w n h), digit_last n) (omega arith)
