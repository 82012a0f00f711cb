-- The nearest whole number by the quotient and what is left over; a mean is that of a sum and a number of values. Assumes nothing.
use Rattle.std.proofs.Common.{◌≡◌, ℕ, ◌+◌, ◌-◌, ◌*◌, ◌/◌, ◌%◌, ◌<◌, ◌≤◌, List, length, refl, ap, ◌∙◌, mod-lt, mul_comm, add-mul, mul_left_comm, arith}
use native.Mathlib.Nat.{mul-div-le, lt-mul-div-succ, div-add-mod, div-eq_of_lt-le}
use Rattle.lookup.specs.Mean.{sum_of, nearest, mean_of}

-- the mean of values is of their sum and their number
pub mean_by : (values : List ℕ) → mean_of values ≡ nearest (sum_of values) (length values)
mean_by values = ap (λ (count : ℕ). nearest (sum_of values) count) (omega arith)

-- twice a product, its factors in another order
doubled : (q c : ℕ) → q * (2 * c) ≡ 2 * (c * q)
doubled q c = mul_left_comm q 2 c ∙ rw (mul_comm q c)

-- the nearest whole number by its quotient
nearest_is : (sum count : ℕ) → nearest sum count ≡ (2 * sum + count) / (2 * count)
unfolding nearest
nearest_is sum count = refl

module _ (sum count : ℕ) (some : 1 ≤ count) where
  -- at most half a unit above the sum divided by the count, and less than half a unit below it
  pub nearest_by_halves : (2 * (count * nearest sum count) ≤ 2 * sum + count) × (2 * sum < 2 * (count * nearest sum count) + count)
  nearest_by_halves =
      rw (nearest_is sum count) (omega (arith, mul-div-le (2 * sum + count) (2 * count), lt-mul-div-succ (2 * sum + count) {b = 2 * count} (omega arith)))

  -- the quotient, where what is left over is less than half the count
  pub nearest_down : sum % count < count - sum % count → nearest sum count ≡ sum / count
  nearest_down h =
      nearest_is sum count
      ∙ div-eq_of_lt-le (2 * count) (omega (arith, doubled (sum / count) count, div-add-mod sum count))
      (rw add-mul (omega (arith, doubled (sum / count) count, div-add-mod sum count)))

  -- one more, where it is half the count or more
  pub nearest_up : count - sum % count ≤ sum % count → nearest sum count ≡ sum / count + 1
  nearest_up h =
      nearest_is sum count
      ∙ div-eq_of_lt-le (2 * count)
      (rw add-mul (omega (arith, doubled (sum / count) count, div-add-mod sum count)))
      (rw (add-mul, add-mul) (omega (arith, doubled (sum / count) count, div-add-mod sum count, mod-lt sum {m = count} some)))
