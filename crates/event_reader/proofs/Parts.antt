-- Numbers in columns, and others in the columns after these. Assumes nothing.
use Prim.Native.Nat.{ℕ, ◌+◌}
use mathlib.Core.Path.{◌≡◌, refl}
use mathlib.Core.List.{List, [], ◌∷◌, ◌++◌}
use lib.ListN.{take, drop}
use lib.Seq.{drop-drop}
use Rattle.std.specs.Prelude.{Option, None, Some}
use Rattle.columns.specs.Column.{number_in}
use Rattle.columns.specs.Fields.{total, with_first, numbers_in}

-- numbers and then others, if all were in their columns
abbrev pub and_then : Option (List ℕ) → Option (List ℕ) → Option (List ℕ)
and_then None others = None
and_then (Some ns) None = None
and_then (Some ns) (Some ms) = Some (ns ++ ms)

-- no numbers, or one number, before others
none_first : (others : Option (List ℕ)) → others ≡ and_then (Some []) others
none_first None = refl
none_first (Some ms) = refl

one_first : (n : Option ℕ) (ns others : Option (List ℕ)) → with_first n (and_then ns others) ≡ and_then (with_first n ns) others
one_first None ns others = refl
one_first (Some n) None others = refl
one_first (Some n) (Some ns) None = refl
one_first (Some n) (Some ns) (Some ms) = refl

-- the numbers in columns and then in others are those of the first columns, and those of the others after their bytes
pub numbers_append : (ws vs bytes : List ℕ) → numbers_in (ws ++ vs) bytes ≡ and_then (numbers_in ws bytes) (numbers_in vs (drop (total ws) bytes))
unfolding numbers_in
numbers_append [] vs bytes = none_first (numbers_in vs bytes)
numbers_append (w ∷ ws) vs bytes = rw (numbers_append ws vs (drop w bytes), drop-drop) (one_first (number_in (take w bytes)) (numbers_in ws (drop w bytes)) (numbers_in vs (drop (w + total ws) bytes)))
