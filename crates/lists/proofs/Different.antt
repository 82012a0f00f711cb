-- Numbers that differ, each from 1 to some greatest one, are no more than that. Assumes nothing.
use Prim.Native.Nat.{ℕ, zero, suc, ◌-◌, ◌≤◌, ◌<◌}
use mathlib.Core.Path.{◌≡◌, refl}
use mathlib.Core.Bool.{Bool, true, false, cond}
use native.Mathlib.Nat.{not-suc-le-zero}
use native.Mathlib.Omega.{arith}
use lib.Dec.{ltb}
use borrow.Author.Tests.{ltb-true, ltb-false, not-true, eqb-false}
use Rattle.lists.specs.Below.{differ}
use Rattle.lists.proofs.Below.{every_at}

-- none of the values below n equals an earlier one
abbrev Different : (ℕ → ℕ) → ℕ → Type 0
Different f n = (i k : ℕ) → i < n → k < i → f k ≡ f i → ⊥

different : (f : ℕ → ℕ) (n : ℕ) → differ f n ≡ true → Different f n
unfolding differ
different f n e i k h l = eqb-false (f k) (f i) (not-true _ (every_at _ i k (every_at _ n i e h) l))

-- a number once another one is taken out: it is one lower where it stands above that one
abbrev without : (gone number : ℕ) → ℕ
without gone number = cond (ltb gone number) (number - 1) number

-- it is below one fewer
without_below : (gone number most : ℕ) → (number ≡ gone → ⊥) → gone < suc most → number < suc most → without gone number < most
without_below gone number most other h l = go (ltb gone number) refl
  where
    go : (b : Bool) → ltb gone number ≡ b → cond b (number - 1) number < most
    go true t = omega (arith, ltb-true gone number t)
    go false t = omega (arith, ltb-false gone number t)

-- and different numbers stay different
without_same : (gone a b : ℕ) → (a ≡ gone → ⊥) → (b ≡ gone → ⊥) → without gone a ≡ without gone b → a ≡ b
without_same gone a b p q e = go (ltb gone a) (ltb gone b) refl refl e
  where
    go : (s t : Bool) → ltb gone a ≡ s → ltb gone b ≡ t → cond s (a - 1) a ≡ cond t (b - 1) b → a ≡ b
    go true true s t e = omega (arith, ltb-true gone a s, ltb-true gone b t)
    go true false s t e = omega (arith, ltb-true gone a s, ltb-false gone b t)
    go false true s t e = omega (arith, ltb-false gone a s, ltb-true gone b t)
    go false false s t e = e

-- so there are at most as many different values as there are numbers for them: the last one is taken out of both
few : (n most : ℕ) (f : ℕ → ℕ) → Different f n → ((i : ℕ) → i < n → f i < most) → n ≤ most
few zero most f d within = omega arith
few (suc n) zero f d within = absurd (not-suc-le-zero (within n (omega arith)))
few (suc n) (suc most) f d within =
    let fewer =
    few n most (λ i. without (f n) (f i))
    (λ i k h l e.
    d i k (omega arith) l (without_same (f n) (f k) (f i) (d n k (omega arith) (omega arith)) (d n i (omega arith) h) e))
    (λ i h. without_below (f n) (f i) most (d n i (omega arith) h) (within n (omega arith)) (within i (omega arith))) in
    omega (arith, fewer)

pub few_differ : (f : ℕ → ℕ) (n most : ℕ) → differ f n ≡ true → ((i : ℕ) → i < n → (1 ≤ f i) × (f i ≤ most)) → n ≤ most
few_differ f n most e within =
    few n most (λ i. f i - 1)
    (λ i k h l s. different f n e i k h l (omega (arith, within i h, within k (omega arith))))
    (λ i h. omega (arith, within i h))
