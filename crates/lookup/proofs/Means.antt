-- The mean of the earlier weeks is never above the greatest magnitude. Assumes nothing.
use Rattle.std.proofs.Common.{ℕ, ◌+◌, ◌*◌, ◌<◌, ◌≤◌, leb, List, [], ◌∷◌, map, length, mul-le-mul, arith, leb-false, leb-true}
use Rattle.std.specs.Prelude.{Option, None, Some}
use Rattle.lists.proofs.Cases.{by_test}
use Rattle.journal.specs.Value.{Value}
use Rattle.values.specs.Values.{magnitude_most}
use Rattle.lookup.specs.Mean.{sum_of, nearest}
use Rattle.lookup.specs.Substitutes.{existing, mean_value, four_weeks}
use Rattle.lookup.proofs.Nearest.{mean_by, nearest_by_halves}

-- a mean of numbers up to the greatest magnitude is not above it
nearest_within : (sum count : ℕ) → 1 ≤ count → sum ≤ magnitude_most * count → nearest sum count ≤ magnitude_most
nearest_within sum count one h =
    by_test (leb (nearest sum count) magnitude_most) (leb-true (nearest sum count) magnitude_most)
    (λ f.
    let over : magnitude_most + 1 ≤ nearest sum count = leb-false (nearest sum count) magnitude_most f in
    let product : count * (magnitude_most + 1) ≤ count * nearest sum count = mul-le-mul (omega arith) over in
    absurd (omega (arith, nearest_by_halves sum count one)))

-- a value that need not exist is at most the greatest magnitude
abbrev pub Small : Option Value → Type 0
Small None = Unit {0}
Small (Some value) = value.magnitude ≤ magnitude_most

-- the sum of the values is at most the greatest magnitude for each
abbrev SumWithin : List (Option Value) → Type 0
SumWithin values = sum_of (existing values) ≤ magnitude_most * length (existing values)

within_none : SumWithin []
unfolding existing sum_of
within_none = omega arith

within_cons : (value : Option Value) (values : List (Option Value)) → Small value → SumWithin values → SumWithin (value ∷ values)
unfolding existing sum_of
within_cons None values h s = s
within_cons (Some value) values h s = omega (arith, s)

-- so the mean of values that exist is within, and so is the zero where none exists
mean_of_within : (values : List ℕ) → sum_of values ≤ magnitude_most * length values → (mean_value values).magnitude ≤ magnitude_most
mean_of_within [] h = omega arith
mean_of_within (value ∷ values) h =
    rw (mean_by (value ∷ values)) (nearest_within (sum_of (value ∷ values)) (length (value ∷ values)) (omega arith) h)

-- and so is that of the earlier weeks
pub mean_within : (week : ℕ → Option Value) → ((n : ℕ) → n < 5 → Small (week n)) → (mean_value (existing (map week four_weeks))).magnitude ≤ magnitude_most
mean_within week small =
    mean_of_within (existing (map week four_weeks))
    (within_cons (week 1) _ (small 1 (omega arith))
    (within_cons (week 2) _ (small 2 (omega arith))
    (within_cons (week 3) _ (small 3 (omega arith))
    (within_cons (week 4) _ (small 4 (omega arith)) within_none))))
