-- The mean of the values that exist, which stands in for a missing reading. Assumes nothing.
use Rattle.std.specs.Prelude.{ℕ, ◌+◌, ◌*◌, ◌/◌, List, [], ◌∷◌, length}

-- the sum of the values
unfoldable pub sum_of : List ℕ → ℕ
sum_of [] = 0
sum_of (value ∷ values) = value + sum_of values

-- a sum divided by a count, rounded to the nearest whole number, halves up
unfoldable pub nearest : (sum count : ℕ) → ℕ
nearest sum count = (2 * sum + count) / (2 * count)

-- the mean of values, of which there is one at least
abbrev pub mean_of : List ℕ → ℕ
mean_of values = nearest (sum_of values) (length values)
