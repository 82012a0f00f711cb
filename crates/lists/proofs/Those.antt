-- The elements that pass a test: that they pass it, that they are members and which members they are, how many they are, and, with a function applied to each, over lists one after the other. Assumes nothing.
use Prim.Native.Nat.{◌≤◌}
use mathlib.Core.Path.{◌≡◌, refl, sym, ap, ◌∙◌}
use mathlib.Core.Bool.{Bool, true, true≢false}
use mathlib.Core.Logic.{⊎_elim}
use mathlib.Core.List.Memᴰ
use mathlib.Core.List.{List, [], ◌∷◌, ◌++◌, map, Memᴰ}
use native.Mathlib.Omega.{arith}
use lib.ListN.{length}
use Rattle.lists.specs.Those.{those}
use Rattle.lists.proofs.Cases.{by_test}

module _ {A : Type 0} where
  pub those_append : (f : A → Bool) (xs ys : List A) → those f (xs ++ ys) ≡ those f xs ++ those f ys
  those_append f [] ys = refl
  those_append f (x ∷ xs) ys = by_test (f x) (λ e. cc (those_append f xs ys)) (λ e. cc (those_append f xs ys))

  pub map_append : {B : Type 0} (f : A → B) (xs ys : List A) → map f (xs ++ ys) ≡ map f xs ++ map f ys
  map_append f [] ys = refl
  map_append f (x ∷ xs) ys = cc (map_append f xs ys)

  pub length_those : (f : A → Bool) (xs : List A) → length (those f xs) ≤ length xs
  length_those f [] = omega arith
  length_those f (x ∷ xs) =
      by_test (f x) (λ e. rw e (omega (arith, length_those f xs))) (λ e. rw e (omega (arith, length_those f xs)))

  pub those_pass : (f : A → Bool) (x : A) (ys : List A) → Memᴰ x (those f ys) → f x ≡ true
  those_pass f x [] m = absurd (Memᴰ.not-nil m)
  those_pass f x (y ∷ ys) m =
      by_test (f y)
      (λ t. ⊎_elim (λ (e : x ≡ y). rw e t) (λ n. those_pass f x ys n) (Memᴰ.cases_cons (rw t at m)))
      (λ t. those_pass f x ys (rw t at m))

  pub those_among : (f : A → Bool) (x : A) (ys : List A) → Memᴰ x (those f ys) → Memᴰ x ys
  those_among f x [] m = m
  those_among f x (y ∷ ys) m =
      by_test (f y)
      (λ t. ⊎_elim (λ (e : x ≡ y). Memᴰ.head e) (λ n. Memᴰ.tail (those_among f x ys n)) (Memᴰ.cases_cons (rw t at m)))
      (λ t. Memᴰ.tail (those_among f x ys (rw t at m)))

  pub among_those : (f : A → Bool) (x : A) (ys : List A) → Memᴰ x ys → f x ≡ true → Memᴰ x (those f ys)
  among_those f x [] m t = absurd (Memᴰ.not-nil m)
  among_those f x (y ∷ ys) m t =
      by_test (f y)
      (λ u. rw u (⊎_elim (λ (e : x ≡ y). Memᴰ.head e) (λ n. Memᴰ.tail (among_those f x ys n t)) (Memᴰ.cases_cons m)))
      (λ u. rw u (⊎_elim (λ (e : x ≡ y). absurd (true≢false (sym t ∙ ap f e ∙ u))) (λ n. among_those f x ys n t) (Memᴰ.cases_cons m)))
