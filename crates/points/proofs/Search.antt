-- The first place of a code in a list, as the library finds it. Assumes nothing.
use Prim.Native.Nat.{ℕ}
use native.Mathlib.Nat.{add_comm}
use native.Mathlib.Numerals.{add-one}
use mathlib.Core.Path.{◌≡◌, refl, sym, ◌∙◌}
use mathlib.Core.Bool.{cond}
use mathlib.Core.List.{List}
use lib.Dec.{eqb}
use borrow.Author.Tests.{eq-eqb, ne_eqb, eqb-true, eqb-false}
use Rattle.lists.proofs.Cases.{by_test}
use Rattle.std.specs.Prelude.{Some, None}
use Rattle.std.specs.List.{position, position_or_len}
use Rattle.std.proofs.lemmas.List.Recursion.{is_position_or_len}
use Rattle.points.specs.Points.{index_of, has}

-- the test for a code is the same from either side
same : (a b : ℕ) → eqb a b ≡ eqb b a
same a b = by_test (eqb b a) (λ e. eq-eqb a b (sym (eqb-true b a e)) ∙ sym e) (λ e. ne_eqb a b (λ i. eqb-false b a e (sym i)) ∙ sym e)

index_is : (code : ℕ) (xs : List ℕ) → index_of code xs ≡ position_or_len (λ x. eqb x code) xs
unfolding index_of
index_is code xs = is_position_or_len (index_of code) (λ x. eqb x code) refl (λ x xs. rw (same x code, add_comm 1 (index_of code xs), add-one (index_of code xs)) refl) xs

-- it is the index, where the list has the code
pub position_is : (code : ℕ) (xs : List ℕ) → position (λ x. eqb x code) xs ≡ cond (has code xs) (Some (index_of code xs)) None
position_is code xs = rw (index_is code xs)
