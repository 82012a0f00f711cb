-- Lines of a text: each reaches up to its LF, or, where that is missing, to the text's end. Assumes nothing.
use Rattle.std.specs.Prelude.{ℕ, cond, List, [], ◌∷◌, eqb}

-- the first line of a text, with its LF
unfoldable pub first_line : List ℕ → List ℕ
first_line [] = []
first_line (byte ∷ bytes) = byte ∷ cond (eqb byte 10) [] (first_line bytes)

-- the text after its first line
unfoldable pub after_line : List ℕ → List ℕ
after_line [] = []
after_line (byte ∷ bytes) = cond (eqb byte 10) bytes (after_line bytes)
