-- The sign of an i64, and the negation of a number, as the machine has them in its bits. Assumes nothing.
use Prim.Native.Nat.{ℕ, zero, suc, ◌<◌, ◌^◌}
use mathlib.Core.Path.{◌≡◌, refl, sym, ap, subst, ◌∙◌}
use native.Mathlib.Omega.{arith}
use borrow.Author.Tests.{le-ltb}
use lib.IntN.{ℤ, pos, negsuc, neg_ℤ, ◌-ℤ◌, +ℤ_idl}
use lib.Signed.{lt_z}
use mir.Syntax.{w64}
use mir.Val.{SFits, to_z, of_z}
use mir.ValLaws.{to_z-of_z}
use Rattle.values.specs.Values.{is_negative}

neg_fits : (n : ℕ) → n < 2 ^ 63 → SFits w64 (neg_ℤ (pos n))
neg_fits zero h = record { sfits = h }
neg_fits (suc n) h = record { sfits = omega arith }

-- a number that fits, read as a signed one, and its negation
module _ (n : ℕ) (h : n < 2 ^ 63) where
  pub stays : to_z w64 n ≡ pos n
  stays = to_z-of_z w64 (pos n) (record { sfits = h })

  negation : pos 0 -ℤ to_z w64 n ≡ neg_ℤ (pos n)
  negation = ap (λ (y : ℤ). pos 0 -ℤ y) stays ∙ +ℤ_idl _

  pub negation_fits : SFits w64 (pos 0 -ℤ to_z w64 n)
  negation_fits = subst (SFits w64) (sym negation) (neg_fits n h)

  pub negation_read : to_z w64 (of_z w64 (pos 0 -ℤ to_z w64 n)) ≡ neg_ℤ (pos n)
  negation_read = to_z-of_z w64 _ negation_fits ∙ negation

-- the machine's test against 0
pub negative_is : (z : ℤ) → SFits w64 z → lt_z (to_z w64 (of_z w64 z)) (pos 0) ≡ is_negative z
negative_is z f = ap (λ (y : ℤ). lt_z y (pos 0)) (to_z-of_z w64 z f) ∙ go z
  where
    go : (z : ℤ) → lt_z z (pos 0) ≡ is_negative z
    go (pos n) = le-ltb n 0 (omega arith)
    go (negsuc n) = refl
