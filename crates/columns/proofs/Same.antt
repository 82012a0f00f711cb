-- Equal lists of bytes, as the test says it. Assumes nothing.
use Prim.Native.Nat.{ℕ}
use mathlib.Core.Path.{◌≡◌, refl}
use mathlib.Core.Bool.{true}
use mathlib.Core.List.{List}
use Rattle.std.proofs.lemmas.Slice.Eq.{bytes_eq-Decides}
use Rattle.columns.specs.Column.{same_bytes}

pub same_self : (xs : List ℕ) → same_bytes xs xs ≡ true
same_self xs = (bytes_eq-Decides xs xs).1 refl

pub same_eq : (xs ys : List ℕ) → same_bytes xs ys ≡ true → xs ≡ ys
same_eq xs ys e = (bytes_eq-Decides xs ys).0 e
