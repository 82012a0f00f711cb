-- Several numbers, each in a column of its own width, one after the other. Assumes nothing.
use Rattle.std.specs.Prelude.{ℕ, ◌+◌, ◌-◌, ◌^◌, Bool, true, false, ◌&&◌, List, [], ◌∷◌, ◌++◌, take, drop, get_or, leb, ltb, Option, None, Some}
use Rattle.columns.specs.Column.{column_of, number_in, widest}

-- how many bytes columns of these widths take
abbrev pub total : List ℕ → ℕ
total [] = 0
total (w ∷ ws) = w + total ws

-- the columns of the numbers
unfoldable pub columns_of : List ℕ → List ℕ → List ℕ
columns_of [] numbers = []
columns_of (w ∷ ws) [] = []
columns_of (w ∷ ws) (n ∷ ns) = column_of false w n ++ columns_of ws ns

-- a first number before the others, if all were in their columns
abbrev pub with_first : Option ℕ → Option (List ℕ) → Option (List ℕ)
with_first None rest = None
with_first (Some n) None = None
with_first (Some n) (Some ns) = Some (n ∷ ns)

-- the numbers in the columns of these widths at the front of the bytes, if each is in its column
unfoldable pub numbers_in : List ℕ → List ℕ → Option (List ℕ)
numbers_in [] bytes = Some []
numbers_in (w ∷ ws) bytes = with_first (number_in (take w bytes)) (numbers_in ws (drop w bytes))

-- the k-th of the numbers, 0 where there is none
abbrev pub nth : ℕ → Option (List ℕ) → ℕ
nth k None = 0
nth k (Some ns) = get_or ns k 0

-- whether a number was not in its column
abbrev pub is_none : Option (List ℕ) → Bool
is_none None = true
is_none (Some ns) = false

-- each number fits its column, of 2 places to the widest
unfoldable pub fitting : List ℕ → List ℕ → Bool
fitting [] [] = true
fitting [] (n ∷ ns) = false
fitting (w ∷ ws) [] = false
fitting (w ∷ ws) (n ∷ ns) = leb 2 w && leb w widest && ltb n (10 ^ (w - 1)) && fitting ws ns
