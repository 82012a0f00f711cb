-- A reading that goes on, with what has been read and the text that is left. Assumes nothing.
use Prim.Native.Nat.{ℕ}
use mathlib.Core.Path.{◌≡◌, ap}
use mathlib.Core.List.{List, []}
use Rattle.std.specs.Prelude.{Ok, Err}
use Rattle.registration.specs.declared.Registration.{Registration}
use Rattle.registration_text.specs.Reader.{Stage}

abbrev pub going : Registration → List ℕ → Stage
going r text = Ok (r, text)

-- what goes on alike has read the same and has the same text left
module _ (r t : Registration) (text rest : List ℕ) where
  state : Registration → Stage → Registration
  state other (Ok read) = read.0
  state other (Err refusal) = other

  left : Stage → List ℕ
  left (Ok read) = read.1
  left (Err refusal) = []

  pub same_going : going r text ≡ going t rest → (r ≡ t) × (text ≡ rest)
  unfolding state left
  same_going e = (ap (state r) e, ap left e)
