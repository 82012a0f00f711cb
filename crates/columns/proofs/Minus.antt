-- Whether a minus stands in what is written of a value. Assumes nothing.
use Prim.Native.Nat.{ℕ, zero, suc, ◌+◌, ◌/◌, ◌%◌, ◌^◌, ◌<◌}
use mathlib.Core.Path.{◌≡◌, refl, ap, ◌∙◌}
use mathlib.Core.Bool.{Bool, true, false, ◌||◌, or-false, or-true}
use mathlib.Core.List.{List, [], ◌∷◌, ◌++◌}
use native.Mathlib.Omega.{arith}
use borrow.Author.Tests.{ne_eqb}
use lib.Dec.{eqb, eqb-suc-zero}
use Rattle.std.proofs.lemmas.List.Folds.{list_any-append}
use Rattle.columns.specs.Column.{byte_before, lead_of, column_of, has_minus}
use Rattle.columns.proofs.Values.{tenth}

minus_snoc : (bytes : List ℕ) (byte : ℕ) → has_minus (bytes ++ (byte ∷ [])) ≡ (has_minus bytes || eqb byte 45)
minus_snoc bytes byte = list_any-append (λ (b : ℕ). eqb b 45) bytes (byte ∷ []) ∙ ap (λ (t : Bool). has_minus bytes || t) (or-false (eqb byte 45))

no_digit : (n : ℕ) → eqb (48 + n % 10) 45 ≡ false
no_digit n = ne_eqb (48 + n % 10) 45 (λ e. omega arith)

no_space : (n : ℕ) → eqb (byte_before false n) 45 ≡ false
no_space zero = refl
no_space (suc n) = rw eqb-suc-zero (no_digit (suc n))

no_lead : (w n : ℕ) → has_minus (lead_of false w n) ≡ false
unfolding lead_of
no_lead zero n = refl
no_lead (suc w) n = minus_snoc (lead_of false w (n / 10)) (byte_before false n) ∙ rw (no_lead w (n / 10), no_space n)

pub no_minus : (w n : ℕ) → has_minus (column_of false w n) ≡ false
unfolding column_of
no_minus zero n = refl
no_minus (suc w) n = minus_snoc (lead_of false w (n / 10)) (48 + n % 10) ∙ rw (no_lead w (n / 10), no_digit n)

one_lead : (w n : ℕ) → n < 10 ^ w → has_minus (lead_of true (suc w) n) ≡ true
unfolding lead_of
one_lead zero n h = let e : n ≡ 0 = omega arith in rw e
one_lead (suc w) zero h = minus_snoc (lead_of false (suc w) 0) 45 ∙ or-true (has_minus (lead_of false (suc w) 0))
one_lead (suc w) (suc n) h = rw eqb-suc-zero (minus_snoc (lead_of true (suc w) (suc n / 10)) (48 + suc n % 10) ∙ rw (one_lead w (suc n / 10) (tenth w (suc n) h)))

-- the minus stands in the column where the value leaves a place for it
pub one_minus : (w n : ℕ) → n < 10 ^ suc w → has_minus (column_of true (suc (suc w)) n) ≡ true
unfolding column_of
one_minus w n h = minus_snoc (lead_of true (suc w) (n / 10)) (48 + n % 10) ∙ rw (one_lead w (n / 10) (tenth w n h))
