-- One digit altered alters the last digit of the weighted sum, since no weight times a difference of digits is divisible by 10. Assumes nothing.
use Prim.Native.Nat.{ℕ, zero, suc, ◌+◌, ◌-◌, ◌*◌, ◌/◌, ◌%◌, ◌≤◌, ◌<◌}
use mathlib.Core.Path.{◌≡◌, refl, sym, ap, ◌∙◌}
use mathlib.Core.Bool.{true, false, not}
use lib.Dec.{ltb, eqb}
use borrow.Author.Tests.{ltb-true, ltb-false, eqb-false, not-true}
use Rattle.lists.specs.Below.{every}
use Rattle.lists.proofs.Below.{every_at}
use native.Mathlib.Nat.{mul-add}
use native.Mathlib.Omega.{arith}
use Rattle.lists.proofs.Cases.{by_test}
use Rattle.registration.specs.Code.{weighted, is_code}
use Rattle.registration.specs.Laws.{digit}
use Rattle.registration.proofs.CodeTest.{digit_last, digit_next, code_parts}

-- every difference of two digits, 1 to 9, shows in the last digit of its product with this weight
abbrev Shows : ℕ → Type 0
Shows weight = every (λ d. not (eqb (weight * (d + 1) % 10) 0)) 9 ≡ true

-- the digits of two numbers agree below n but at one place
abbrev AgreeBut : (a b n place : ℕ) → Type 0
AgreeBut a b n place = (k : ℕ) → k < n → (k ≡ place → ⊥) → digit k a ≡ digit k b

-- equal digits have equal sums
weighted_same : (digits weight a b : ℕ) → ((k : ℕ) → k < digits → digit k a ≡ digit k b) → weighted digits weight a ≡ weighted digits weight b
unfolding weighted
weighted_same zero weight a b same = refl
weighted_same (suc digits) weight a b same =
    let last : a % 10 ≡ b % 10 = sym (digit_last a) ∙ same 0 (omega arith) ∙ digit_last b in
    rw (last, weighted_same digits (4 - weight) (a / 10) (b / 10) (λ k h. digit_next k a ∙ same (suc k) (omega arith) ∙ sym (digit_next k b)))

-- two different digits by a weight that shows their difference, beside equal sums
product_shows : (weight x y rest : ℕ) → Shows weight → x < y → y ≤ 9 → (weight * x + rest) % 10 ≡ (weight * y + rest) % 10 → ⊥
product_shows weight x y rest shows h l e =
    let d = y - x - 1 in
    let sum : x + (d + 1) ≡ y = omega arith in
    let product : weight * y ≡ weight * x + weight * (d + 1) = rw (← mul-add, sum) in
    eqb-false (weight * (d + 1) % 10) 0 (not-true _ (every_at _ 9 d shows (omega arith))) (omega arith)

-- the same whichever digit is the greater
digit_shows : (weight x y rest : ℕ) → Shows weight → (x ≡ y → ⊥) → x ≤ 9 → y ≤ 9 → (weight * x + rest) % 10 ≡ (weight * y + rest) % 10 → ⊥
digit_shows weight x y rest shows differ h l e =
    by_test (ltb x y)
    (λ t. product_shows weight x y rest shows (ltb-true x y t) l e)
    (λ t. let m = ltb-false x y t in product_shows weight y x rest shows (omega (arith, differ)) h (sym e))

-- so sums of digits that agree but at one place differ in their last digit
weighted_differs : (digits weight a b place : ℕ) → weight ≤ 4 → Shows weight → Shows (4 - weight) → place < digits
    → (digit place a ≡ digit place b → ⊥) → AgreeBut a b digits place → weighted digits weight a % 10 ≡ weighted digits weight b % 10 → ⊥
unfolding weighted
weighted_differs zero weight a b place w s t h altered others e = omega arith
weighted_differs (suc digits) weight a b zero w s t h altered others e =
    let rest = weighted_same digits (4 - weight) (a / 10) (b / 10) (λ k l. digit_next k a ∙ others (suc k) (omega arith) (omega arith) ∙ sym (digit_next k b)) in
    digit_shows weight (a % 10) (b % 10) (weighted digits (4 - weight) (b / 10)) s
    (λ i. altered (digit_last a ∙ i ∙ sym (digit_last b))) (omega arith) (omega arith) (rw rest at e)
weighted_differs (suc digits) weight a b (suc place) w s t h altered others e =
    let last : a % 10 ≡ b % 10 = sym (digit_last a) ∙ others 0 (omega arith) (omega arith) ∙ digit_last b in
    let back : 4 - (4 - weight) ≡ weight = omega arith in
    weighted_differs digits (4 - weight) (a / 10) (b / 10) place (omega arith) t (rw back s) (omega arith)
    (λ i. altered (sym (digit_next place a) ∙ i ∙ digit_next place b))
    (λ k l n. digit_next k a ∙ others (suc k) (omega arith) (omega arith) ∙ sym (digit_next k b))
    (omega (arith, ap (λ (d : ℕ). weight * d) last))

-- nor are both sums with the check digit divisible by 10
check_differs : (digits weight a b place : ℕ) → (weighted digits weight (a / 10) + a % 10) % 10 ≡ 0 → (weighted digits weight (b / 10) + b % 10) % 10 ≡ 0
    → weight ≤ 4 → Shows weight → Shows (4 - weight) → place < suc digits
    → (digit place a ≡ digit place b → ⊥) → AgreeBut a b (suc digits) place → ⊥
check_differs digits weight a b zero p q w s t h altered others =
    let rest = weighted_same digits weight (a / 10) (b / 10) (λ k l. digit_next k a ∙ others (suc k) (omega arith) (omega arith) ∙ sym (digit_next k b)) in
    altered (digit_last a ∙ omega (arith, rest) ∙ sym (digit_last b))
check_differs digits weight a b (suc place) p q w s t h altered others =
    let last : a % 10 ≡ b % 10 = sym (digit_last a) ∙ others 0 (omega arith) (omega arith) ∙ digit_last b in
    weighted_differs digits weight (a / 10) (b / 10) place w s t (omega arith)
    (λ i. altered (sym (digit_next place a) ∙ i ∙ digit_next place b))
    (λ k l n. digit_next k a ∙ others (suc k) (omega arith) (omega arith) ∙ sym (digit_next k b)) (omega arith)

-- so of two numbers with one digit different at most one is a true code
pub one_digit_false : (code other place : ℕ) → is_code code ≡ true → place < 18 → (digit place other ≡ digit place code → ⊥)
    → AgreeBut other code 18 place → is_code other ≡ false
unfolding every
one_digit_false code other place t h altered others =
    by_test (is_code other)
    (λ u.
    absurd
    (check_differs _ _ other code place (code_parts other u).2 (code_parts code t).2 (omega arith) refl refl h altered others))
    (λ u. u)
