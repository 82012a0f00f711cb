-- The lines that are written of a registration, one after the other. Assumes nothing.
use Prim.Native.Nat.{ℕ, suc}
use mathlib.Core.Path.{◌≡◌, refl}
use mathlib.Core.List.{List, ◌++◌, append_assoc}
use Rattle.registration.specs.declared.Registration.{Registration}
use Rattle.registration_text.specs.Lines.{line_d, line_o}
use Rattle.registration_text.specs.Writer.{lines_d, lines_o}

module _ (r : Registration) (i : ℕ) (rest : List ℕ) where
  pub text_none__d : lines_d r i 0 ++ rest ≡ rest
  unfolding lines_d
  text_none__d = refl

  pub text_none__o : lines_o r i 0 ++ rest ≡ rest
  unfolding lines_o
  text_none__o = refl

  pub text__d : (left : ℕ) → lines_d r i (suc left) ++ rest ≡ line_d r i ++ (lines_d r (suc i) left ++ rest)
  unfolding lines_d
  text__d left = append_assoc (line_d r i) (lines_d r (suc i) left) rest

  pub text__o : (left : ℕ) → lines_o r i (suc left) ++ rest ≡ line_o r i ++ (lines_o r (suc i) left ++ rest)
  unfolding lines_o
  text__o left = append_assoc (line_o r i) (lines_o r (suc i) left) rest
