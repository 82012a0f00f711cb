-- Whether two lists of numbers are equal, as a test that computes. Assumes nothing.
use Prim.Native.Nat.{ℕ}
use mathlib.Core.Bool.{Bool, true, false, ◌&&◌}
use mathlib.Core.List.{List, [], ◌∷◌}
use lib.Dec.{eqb}

-- equal lists
unfoldable pub same : List ℕ → List ℕ → Bool
same [] [] = true
same [] (m ∷ ms) = false
same (n ∷ ns) [] = false
same (n ∷ ns) (m ∷ ms) = eqb n m && same ns ms
