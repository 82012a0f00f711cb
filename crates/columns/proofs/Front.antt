-- The first byte of what is written: a space where the value leaves a place for it, and only there. Assumes nothing.
use Prim.Native.Nat.{ℕ, zero, suc, ◌+◌, ◌-◌, ◌*◌, ◌/◌, ◌%◌, ◌^◌, ◌≤◌, ◌<◌}
use mathlib.Core.Path.{◌≡◌, sym, ap, ◌∙◌}
use mathlib.Core.Bool.{Bool, true, false}
use mathlib.Core.List.{List, [], ◌∷◌, ◌++◌}
use native.Mathlib.Omega.{arith}
use native.Mathlib.Nat.{pow-suc}
use lib.Dec.{eqb-suc-zero}
use lib.ListN.{length, get_or, get_or-append}
use Rattle.columns.specs.Column.{lead_of, column_of, space_byte}
use Rattle.columns.proofs.Fill.{length_lead}
use Rattle.columns.proofs.Values.{tenth, most}

-- the first byte is that of the bytes before the last one
lead_first : (minus : Bool) (w n byte : ℕ) → get_or (lead_of minus (suc w) n ++ (byte ∷ [])) 0 0 ≡ get_or (lead_of minus (suc w) n) 0 0
lead_first minus w n byte = get_or-append (lead_of minus (suc w) n) _ 0 0 (rw length_lead (omega arith))

space_lead : (w n : ℕ) → n < 10 ^ w → get_or (lead_of false (suc w) n) 0 0 ≡ space_byte
unfolding lead_of
space_lead zero n h = let e : n ≡ 0 = omega arith in rw e
space_lead (suc w) n h = lead_first false w (n / 10) _ ∙ space_lead w (n / 10) (tenth w n h)

some_ten : (w : ℕ) → 0 < 10 ^ w
some_ten w = omega (arith, most 0 w (omega arith))

space_minus : (w n : ℕ) → n < 10 ^ w → get_or (lead_of true (suc (suc w)) n) 0 0 ≡ space_byte
unfolding lead_of
space_minus zero n h = let e : n ≡ 0 = omega arith in rw e
space_minus (suc w) zero h = lead_first false (suc w) 0 _ ∙ space_lead (suc w) 0 h
space_minus (suc w) (suc n) h = rw eqb-suc-zero (lead_first true (suc w) (suc n / 10) _ ∙ space_minus w (suc n / 10) (tenth w (suc n) h))

pub space_number : (w n : ℕ) → n < 10 ^ suc w → get_or (column_of false (suc (suc w)) n) 0 0 ≡ space_byte
unfolding column_of
space_number w n h = lead_first false w (n / 10) _ ∙ space_lead w (n / 10) (tenth w n h)

pub space_negative : (w n : ℕ) → n < 10 ^ suc w → get_or (column_of true (suc (suc (suc w))) n) 0 0 ≡ space_byte
unfolding column_of
space_negative w n h = lead_first true (suc w) (n / 10) _ ∙ space_minus w (n / 10) (tenth w n h)

-- ---- the other way

room_lead : (w n : ℕ) → get_or (lead_of true (suc w) n) 0 0 ≡ space_byte → (1 ≤ w) × (n < 10 ^ (w - 1))
unfolding lead_of
room_lead zero zero e = absurd (omega arith)
room_lead zero (suc n) e = let z : 48 + suc n % 10 ≡ space_byte = simp eqb-suc-zero at e in absurd (omega arith)
room_lead (suc w) zero e = (omega arith, some_ten (suc w - 1))
room_lead (suc w) (suc n) e =
    let z : get_or (lead_of true (suc w) (suc n / 10) ++ _) 0 0 ≡ space_byte = simp eqb-suc-zero at e in
    let i = room_lead w (suc n / 10) (sym (lead_first true w (suc n / 10) _) ∙ z) in
    let p : 10 ^ suc (w - 1) ≡ 10 ^ (w - 1) * 10 = pow-suc 10 (w - 1) in
    let q : suc w - 1 ≡ suc (w - 1) = omega arith in
    (omega arith, rw q (omega arith))

-- a space in front of a column with a minus leaves two places less to the digits
pub room_negative : (w n : ℕ) → get_or (column_of true w n) 0 0 ≡ space_byte → n < 10 ^ (w - 2)
unfolding column_of lead_of
room_negative zero n e = absurd (omega arith)
room_negative (suc zero) n e = absurd (omega arith)
room_negative (suc (suc w)) n e =
    let i = room_lead w (n / 10) (sym (lead_first true w (n / 10) _) ∙ e) in
    let p : 10 ^ suc (w - 1) ≡ 10 ^ (w - 1) * 10 = pow-suc 10 (w - 1) in
    let q : suc (suc w) - 2 ≡ suc (w - 1) = omega arith in
    rw q (omega arith)

-- a column that begins with a space has two places or more
pub two_places : (column : List ℕ) (minus : Bool) (n : ℕ) → column_of minus (length column) n ≡ column → get_or column 0 0 ≡ space_byte → 2 ≤ length column
unfolding column_of lead_of
two_places [] minus n e f = absurd (omega arith)
two_places (x ∷ []) minus n e f = let z : 48 + n % 10 ≡ x = ap (λ (l : List ℕ). get_or l 0 0) e in absurd (omega arith)
two_places (x ∷ y ∷ column) minus n e f = omega arith
