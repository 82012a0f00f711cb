-- The test on a code, digit by digit. Assumes nothing.
use Prim.Native.Nat.{ℕ, zero, suc, ◌+◌, ◌-◌, ◌*◌, ◌/◌, ◌%◌, ◌≤◌}
use mathlib.Core.Path.{◌≡◌, refl, ◌∙◌}
use mathlib.Core.Bool.{true, ◌&&◌}
use native.Mathlib.Nat.{div-one, div-div-eq-div-mul, pow-succ'}
use native.Mathlib.Omega.{arith}
use lib.Dec.{leb, eqb}
use borrow.Author.Tests.{leb-true, le-leb, eqb-true, eq-eqb}
use Rattle.lists.proofs.Below.{both}
use Rattle.registration.specs.Code.{weighted, check_sum, is_code}
use Rattle.registration.specs.Laws.{digit, TrueCode}

-- the digit at the right, and those left of it
pub digit_last : (n : ℕ) → digit 0 n ≡ n % 10
digit_last n = rw (div-one n)

pub digit_next : (k n : ℕ) → digit k (n / 10) ≡ digit (suc k) n
digit_next k n = rw (div-div-eq-div-mul, ← pow-succ')

-- the three parts of the test
pub code_parts : (code : ℕ) → is_code code ≡ true → (100000000000000000 ≤ code) × (code ≤ 999999999999999999) × (check_sum code % 10 ≡ 0)
unfolding is_code
code_parts code t =
    let a = both (leb 100000000000000000 code && leb code 999999999999999999) (eqb (check_sum code % 10) 0) t in
    let b = both (leb 100000000000000000 code) (leb code 999999999999999999) a.0 in
    (leb-true _ _ b.0, leb-true _ _ b.1, eqb-true _ _ a.1)

-- the weighted sum of numbers given one by one
unfoldable by_digits : (digits weight : ℕ) → (ℕ → ℕ) → ℕ
by_digits zero weight d = 0
by_digits (suc digits) weight d = weight * d 0 + by_digits digits (4 - weight) (λ k. d (suc k))

weighted_is : (digits weight n : ℕ) (d : ℕ → ℕ) → ((k : ℕ) → digit k n ≡ d k) → weighted digits weight n ≡ by_digits digits weight d
unfolding weighted by_digits
weighted_is zero weight n d same = refl
weighted_is (suc digits) weight n d same =
    let last : n % 10 ≡ d 0 = rw (digit_last n) at (same 0) in
    rw (last, weighted_is digits (4 - weight) (n / 10) (λ k. d (suc k)) (λ k. digit_next k n ∙ same (suc k)))

-- the same of the digits left of the last one
weighted_left : (digits weight n : ℕ) → weighted digits weight (n / 10) ≡ by_digits digits weight (λ k. digit (suc k) n)
weighted_left digits weight n = weighted_is digits weight (n / 10) (λ k. digit (suc k) n) (λ k. digit_next k n)

-- the sum that a law writes out, of numbers given one by one
abbrev written : (ℕ → ℕ) → ℕ
written d =
    d 0 + 3 * d 1 + 1 * d 2 + 3 * d 3 + 1 * d 4 + 3 * d 5 + 1 * d 6 + 3 * d 7 + 1 * d 8 + 3 * d 9 + 1 * d 10 + 3 * d 11 + 1 * d 12 + 3 * d 13
    + 1 * d 14 + 3 * d 15 + 1 * d 16 + 3 * d 17

-- the weights of the definition are those written out
weights : (d : ℕ → ℕ) → by_digits 17 3 (λ k. d (suc k)) + d 0 ≡ written d
unfolding by_digits
weights d = omega arith

-- the sum with each digit by its weight
check_sum_lem : (code : ℕ) → check_sum code ≡ written (λ k. digit k code)
check_sum_lem code = rw (weighted_left, ← digit_last code) (weights (λ k. digit k code))

-- what the test accepts is a true code, and it accepts every true code
pub accepted_true : (code : ℕ) → is_code code ≡ true → TrueCode code
accepted_true code t =
    let parts = code_parts code t in
    record { least = parts.0; most = parts.1; check = rw (check_sum_lem code) at parts.2 }

pub true_accepted : (code : ℕ) → TrueCode code → is_code code ≡ true
unfolding is_code
true_accepted code c =
    let sum : check_sum code % 10 ≡ 0 = rw (check_sum_lem code) c.check in
    rw (le-leb _ _ c.least, le-leb _ _ c.most) (eq-eqb _ _ sum)
