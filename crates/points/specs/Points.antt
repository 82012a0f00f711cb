-- The points of a group by their codes, and the sign that suits each. Assumes nothing.
use Rattle.std.specs.Prelude.{ℕ, suc, Bool, cond, List, [], ◌∷◌, ℤ, ltb, eqb, length}
use Rattle.std.specs.Int.Signed.{le_z}
use Rattle.lists.specs.Tables.{table}
use Rattle.registration.specs.declared.Registration.{Registration}
use Rattle.registration.specs.Rules.{points, code_at}

-- the codes of the group's points, producers first
abbrev pub codes_of : Registration → List ℕ
codes_of r = table (code_at r) (points r)

-- the first place of a code in a list, from 0; the list's length where it is not in it
unfoldable pub index_of : ℕ → List ℕ → ℕ
index_of code [] = 0
index_of code (x ∷ xs) = cond (eqb code x) 0 (suc (index_of code xs))

-- whether a code is in a list
abbrev pub has : ℕ → List ℕ → Bool
has code xs = ltb (index_of code xs) (length xs)

-- supplies arrive as positive numbers, withdrawals as negative, and 0 suits either; the producers are the first points
abbrev pub sign_suits : (producers point : ℕ) → ℤ → Bool
sign_suits producers point value = cond (ltb point producers) (le_z (ℤ.pos 0) value) (le_z value (ℤ.pos 0))
