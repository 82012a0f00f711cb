-- What users of a registration rely on, stated of its definitions; the proofs stand in proofs/Laws.antt. Assumes nothing.
use Rattle.std.specs.Prelude.{ℕ, ◌+◌, ◌*◌, ◌/◌, ◌%◌, ◌^◌, ◌≤◌, ◌<◌, ◌≡◌, true, false, ◌↔◌}
use Rattle.registration.specs.declared.Registration.{Registration}
use Rattle.registration.specs.Code.{is_code}
use Rattle.registration.specs.Rules.{key_at, point_counts_right, consumers_right, keys_of}
use Rattle.registration.specs.Pairs.{of_producer}
use Rattle.registration.specs.Damage.{unused_zero}

-- the digit of a number at a place, counted from the right from 0
abbrev pub digit : (place number : ℕ) → ℕ
digit place number = number / 10 ^ place % 10

-- 18 digits, the first not 0, of which the sum by the weights 3, 1, 3, .. from the digit left of the last one leftward, plus the last, is divisible by 10
pub record TrueCode (code : ℕ) : Type 0 where
  pub least : 100000000000000000 ≤ code
  pub most : code ≤ 999999999999999999
  pub check :
      (digit 0 code + 3 * digit 1 code + 1 * digit 2 code + 3 * digit 3 code + 1 * digit 4 code + 3 * digit 5 code + 1 * digit 6 code
      + 3 * digit 7 code + 1 * digit 8 code + 3 * digit 9 code + 1 * digit 10 code + 3 * digit 11 code + 1 * digit 12 code + 3 * digit 13 code
      + 1 * digit 14 code + 3 * digit 15 code + 1 * digit 16 code + 3 * digit 17 code) % 10 ≡ 0

-- the test on a code accepts exactly those
abbrev pub CodeTestIs : Type 0
CodeTestIs = (code : ℕ) → (is_code code ≡ true) ↔ TrueCode code

-- a true code with exactly one digit altered is a false one
abbrev pub OneDigitErrors : Type 0
OneDigitErrors =
    (code other place : ℕ) → is_code code ≡ true → place < 18 → (digit place other ≡ digit place code → ⊥)
    → ((k : ℕ) → k < 18 → (k ≡ place → ⊥) → digit k other ≡ digit k code) → is_code other ≡ false

-- a producer's keys, which the rule on keys sums over all places, are those of the pairs by which it shares: so it is wherever the rules on points, on what
-- consumers name and on unused numbers are kept, whatever the keys sum to
abbrev pub KeysByPair : Type 0
KeysByPair =
    (r : Registration) → point_counts_right r.producers r.consumers ≡ true → consumers_right r ≡ true → unused_zero r ≡ true
    → (producer : ℕ) → keys_of r.sources r.keys producer ≡ of_producer r (key_at r) producer
