-- A bit of a word that is set, and the other bits; a key of the table that is seen. Assumes nothing.
use Prim.Native.Nat.{ℕ, zero, suc, ◌+◌, ◌*◌, ◌-◌, ◌/◌, ◌%◌, ◌^◌, ◌≤◌, ◌<◌}
use mathlib.Core.Path.{◌≡◌, refl, ◌∙◌}
use mathlib.Core.List.{List}
use native.Mathlib.Omega.{arith}
use native.Mathlib.Nat.{mod-lt, div-eq_of_lt, div_self, one-mul}
use lib.Dec.{ltb, eqb}
use lib.ListN.{length, get_or, set}
use lib.Seq.{get_or-set_same, get_or-set_other}
use lib.Pow.{pow_pos, pow-lt, pow-add, shl-shr, shl_exact}
use lib.Bits.{bit_or, or_shr, or_mod, or_zero_r, shifted_even}
use borrow.Author.Tests.{ltb-true, ltb-false, eqb-true, eqb-false}
use Rattle.lists.proofs.Cases.{by_test}
use Rattle.journal_clear.specs.Seen.{Saw}

or_one : (x : ℕ) → x < 2 → bit_or x 1 ≡ 1
or_one zero h = refl
or_one (suc zero) h = refl
or_one (suc (suc x)) h = absurd (omega arith)

bit_set : (w s : ℕ) → bit_or w (2 ^ s) / 2 ^ s % 2 ≡ 1
bit_set w s =
    let d : 2 ^ s / 2 ^ s ≡ 1 = div_self (pow_pos s) in
    let h : w / 2 ^ s % 2 < 2 = mod-lt (w / 2 ^ s) (omega arith) in
    rw (or_shr w (2 ^ s) s, d, or_mod (w / 2 ^ s) 1 1) (or_one (w / 2 ^ s % 2) h)

-- a power of two has no bit below its own
lower_bit : (s t m : ℕ) → s ≡ suc m + t → 2 ^ s / 2 ^ t % 2 ≡ 0
lower_bit s t m e =
    let d : 2 ^ s / 2 ^ t ≡ 1 * 2 ^ suc m = rw (e, pow-add 2 (suc m) t, shl-shr (2 ^ suc m) t, one-mul) in
    rw (d, shifted_even 1 m)

-- nor any other
other_bit : (s t : ℕ) → (t ≡ s → ⊥) → 2 ^ s / 2 ^ t % 2 ≡ 0
other_bit s t n =
    by_test (ltb s t)
    (λ q. let d : 2 ^ s / 2 ^ t ≡ 0 = div-eq_of_lt (pow-lt (ltb-true s t q)) in rw d)
    (λ q.
    let h : t ≤ s = ltb-false s t q in
    let k : t < s = by_test (eqb t s) (λ e. absurd (n (eqb-true t s e))) (λ e. omega (arith, eqb-false t s e)) in
    lower_bit s t (s - t - 1) (omega arith))

bit_other : (w s t : ℕ) → (t ≡ s → ⊥) → bit_or w (2 ^ s) / 2 ^ t % 2 ≡ w / 2 ^ t % 2
bit_other w s t n =
    rw (or_shr w (2 ^ s) t, or_mod (w / 2 ^ t) (2 ^ s / 2 ^ t) 1) (rw (other_bit s t n, or_zero_r))

-- a key is seen once its bit is set
pub sees : (seen : List ℕ) (k : ℕ) → k / 64 < length seen → Saw seen k (set seen (k / 64) (bit_or (get_or seen (k / 64) 0) (2 ^ (k % 64))))
sees seen k h =
    let w = get_or seen (k / 64) 0 in
    let v = bit_or w (2 ^ (k % 64)) in
    record {
      now = rw (get_or-set_same seen (k / 64) v 0 h, bit_set w (k % 64));
      others = λ i n.
          by_test (eqb (i / 64) (k / 64))
          (λ q.
          let e : i / 64 ≡ k / 64 = eqb-true (i / 64) (k / 64) q in
          let m : i % 64 ≡ k % 64 → ⊥ = λ r. n (omega arith) in
          rw (e, get_or-set_same seen (k / 64) v 0 h, bit_other w (k % 64) (i % 64) m))
          (λ q. rw (get_or-set_other seen (k / 64) (i / 64) v 0 (eqb-false (i / 64) (k / 64) q)));
    }

-- the code's shift loses no bit
pub shifted : (k : ℕ) → 1 * 2 ^ (k % 64) % 18446744073709551616 ≡ 2 ^ (k % 64)
shifted k = shl_exact {a = 1} 1 (k % 64) 64 (omega arith) (omega (arith, mod-lt k {m = 64} (omega arith))) ∙ one-mul (2 ^ (k % 64))
