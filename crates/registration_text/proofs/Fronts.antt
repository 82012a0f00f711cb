-- A list's front followed by zeros, and numbers put into a list one after the other. Assumes nothing.
use Prim.Native.Nat.{ℕ, zero, suc, ◌+◌, ◌≤◌, ◌<◌}
use mathlib.Core.Path.{◌≡◌, refl, sym, ap, ◌∙◌}
use mathlib.Core.List.{List, [], ◌∷◌}
use native.Mathlib.Omega.{arith}
use native.Mathlib.Nat.{add-zero}
use borrow.Author.Tests.{ltb-true, ltb-false, eqb-true, eqb-false}
use lib.Dec.{ltb, eqb}
use Rattle.lists.proofs.Cases.{by_test}
use lib.ListN.{length, get_or, set, drop, replicate, length-set}
use lib.Seq.{get_or-drop, get_or-set_same, get_or-set_other, ext_get_or}

-- ---- cases by a number

module _ {A : Type 0} (i n : ℕ) where
  pub by_order : (i < n → A) → (n ≤ i → A) → A
  by_order f g = by_test (ltb i n) (λ t. f (ltb-true i n t)) (λ t. g (ltb-false i n t))

  pub by_equal : (i ≡ n → A) → ((i ≡ n → ⊥) → A) → A
  by_equal f g = by_test (eqb i n) (λ t. f (eqb-true i n t)) (λ t. g (eqb-false i n t))

-- ---- the front of a list

-- so many numbers: the first n are the list's, the others 0
unfoldable pub front : (size n : ℕ) → List ℕ → List ℕ
front zero n xs = []
front (suc size) zero xs = 0 ∷ front size zero xs
front (suc size) (suc n) xs = get_or xs 0 0 ∷ front size n (drop 1 xs)

length_of_front : (size n : ℕ) (xs : List ℕ) → length (front size n xs) ≡ size
unfolding front
length_of_front zero n xs = refl
length_of_front (suc size) zero xs = ap suc (length_of_front size zero xs)
length_of_front (suc size) (suc n) xs = ap suc (length_of_front size n (drop 1 xs))

front_early : (size n i : ℕ) (xs : List ℕ) → i < n → i < size → get_or (front size n xs) i 0 ≡ get_or xs i 0
unfolding front
front_early zero n i xs h l = absurd (omega arith)
front_early (suc size) zero i xs h l = absurd (omega arith)
front_early (suc size) (suc n) zero xs h l = refl
front_early (suc size) (suc n) (suc i) xs h l =
    let e : 1 + i ≡ suc i = omega arith in
    front_early size n i (drop 1 xs) (omega arith) (omega arith) ∙ get_or-drop 1 xs i 0 ∙ rw e

front_late : (size n i : ℕ) (xs : List ℕ) → n ≤ i → get_or (front size n xs) i 0 ≡ 0
unfolding front
front_late zero n i xs h = refl
front_late (suc size) zero zero xs h = refl
front_late (suc size) zero (suc i) xs h = front_late size zero i xs (omega arith)
front_late (suc size) (suc n) zero xs h = absurd (omega arith)
front_late (suc size) (suc n) (suc i) xs h = front_late size n i (drop 1 xs) (omega arith)

pub front_none : (size : ℕ) (xs : List ℕ) → front size 0 xs ≡ replicate size 0
unfolding front
front_none zero xs = refl
front_none (suc size) xs = ap (λ (ys : List ℕ). 0 ∷ ys) (front_none size xs)

module _ (size : ℕ) where
  -- the only list of this size that has these numbers
  front_is : (n : ℕ) (xs ys : List ℕ) → length ys ≡ size → ((i : ℕ) → i < n → i < size → get_or ys i 0 ≡ get_or xs i 0)
      → ((i : ℕ) → n ≤ i → i < size → get_or ys i 0 ≡ 0) → front size n xs ≡ ys
  front_is n xs ys l early late =
      let q = length_of_front size n xs in
      ext_get_or 0 (front size n xs) ys (omega arith)
      (λ i h. by_order i n (λ a. front_early size n i xs a (omega arith) ∙ sym (early i a (omega arith)))
      (λ a. front_late size n i xs a ∙ sym (late i a (omega arith))))

  -- a list of this size with zeros from n on is its own front
  pub front_self : (n : ℕ) (xs : List ℕ) → length xs ≡ size → ((i : ℕ) → n ≤ i → i < size → get_or xs i 0 ≡ 0) → front size n xs ≡ xs
  front_self n xs l late = front_is n xs xs l (λ i h k. refl) late

  -- lists with the same front
  front_same : (n : ℕ) (xs ys : List ℕ) → ((i : ℕ) → i < n → i < size → get_or ys i 0 ≡ get_or xs i 0) → front size n xs ≡ front size n ys
  front_same n xs ys same =
      front_is n xs (front size n ys) (length_of_front size n ys) (λ i h l. front_early size n i ys h l ∙ same i h l)
      (λ i h l. front_late size n i ys h)

  -- one number more, and numbers more that are 0
  pub front_next : (n : ℕ) (xs : List ℕ) → set (front size n xs) n (get_or xs n 0) ≡ front size (suc n) xs
  front_next n xs =
      let ys = front size n xs in
      let a = get_or xs n 0 in
      let l = length_of_front size n xs in
      sym
      (front_is (suc n) xs (set ys n a) (length-set ys n a ∙ l)
      (λ i h k. by_equal i n (λ q. rw q (get_or-set_same ys n a 0 (omega arith))) (λ d. get_or-set_other ys n i a 0 d ∙ front_early size n i xs (omega arith) k))
      (λ i h k. get_or-set_other ys n i a 0 (λ q. omega arith) ∙ front_late size n i xs (omega arith)))

  pub front_zeros : (n m : ℕ) (xs : List ℕ) → n ≤ m → ((i : ℕ) → n ≤ i → i < m → get_or xs i 0 ≡ 0) → front size n xs ≡ front size m xs
  front_zeros n m xs h zeros =
      front_is n xs (front size m xs) (length_of_front size m xs) (λ i l k. front_early size m i xs (omega arith) k)
      (λ i l k. by_order i m (λ a. front_early size m i xs a k ∙ zeros i l a) (front_late size m i xs))

-- what stands in the front of a list stands in the list
in_front : (size m : ℕ) (ys zs : List ℕ) → zs ≡ front size m ys → (i : ℕ) → i < m → i < size → get_or ys i 0 ≡ get_or zs i 0
in_front size m ys zs e i h l = sym (front_early size m i ys h l) ∙ ap (λ (l : List ℕ). get_or l i 0) (sym e)

-- a list that is its own front, with zeros from n on
module _ (size n : ℕ) (xs : List ℕ) (clean : front size n xs ≡ xs) where
  clean_length : length xs ≡ size
  clean_length = rw clean at (length_of_front size n xs)

  pub clean_zero : (i : ℕ) → n ≤ i → get_or xs i 0 ≡ 0
  clean_zero i h = rw clean at (front_late size n i xs h)

  -- if a list with the same numbers before n is a front of ys, so is this one
  before : (m : ℕ) (ys zs : List ℕ) → n ≤ m → ((i : ℕ) → i < n → get_or zs i 0 ≡ get_or xs i 0) → zs ≡ front size m ys → xs ≡ front size n ys
  before m ys zs h same e =
      sym clean ∙ front_same size n xs zs (λ i l k. same i l) ∙ ap (front size n) e
      ∙ sym (front_same size n ys (front size m ys) (λ i l k. front_early size m i ys (omega arith) k))

  -- a store at n leaves zeros behind it; and if the list is then a front of ys, it was so before, and ys has what was stored
  pub clean_set : (m a : ℕ) → n < m → front size m (set xs n a) ≡ set xs n a
  clean_set m a h =
      front_self size m (set xs n a) (length-set xs n a ∙ clean_length)
      (λ i p q. get_or-set_other xs n i a 0 (λ e. omega arith) ∙ clean_zero i (omega arith))

  pub back_set : (m a : ℕ) (ys : List ℕ) → n < m → n < size → set xs n a ≡ front size m ys → (xs ≡ front size n ys) × (get_or ys n 0 ≡ a)
  back_set m a ys h l e = (
    before m ys (set xs n a) (omega arith) (λ i k. get_or-set_other xs n i a 0 (λ q. omega arith)) e,
    in_front size m ys (set xs n a) e n h l ∙ get_or-set_same xs n a 0 (omega (arith, clean_length)),
  )

-- ---- numbers put into a list

-- the numbers that a function gives at p, p + 1, .., so many of them, put at these places after a base
unfoldable pub fills : List ℕ → ℕ → (ℕ → ℕ) → ℕ → ℕ → List ℕ
fills xs base f p zero = xs
fills xs base f p (suc n) = fills (set xs (base + p) (f p)) base f (suc p) n

module _ (base : ℕ) (f : ℕ → ℕ) where
  length_fills : (p n : ℕ) (xs : List ℕ) → length (fills xs base f p n) ≡ length xs
  unfolding fills
  length_fills p zero xs = refl
  length_fills p (suc n) xs = length_fills (suc p) n (set xs (base + p) (f p)) ∙ length-set xs (base + p) (f p)

  fills_other : (p n i : ℕ) (xs : List ℕ) → ((k : ℕ) → p ≤ k → k < p + n → i ≡ base + k → ⊥) → get_or (fills xs base f p n) i 0 ≡ get_or xs i 0
  unfolding fills
  fills_other p zero i xs other = refl
  fills_other p (suc n) i xs other =
      fills_other (suc p) n i (set xs (base + p) (f p)) (λ k h l e. other k (omega arith) (omega arith) e)
      ∙ get_or-set_other xs (base + p) i (f p) 0 (λ e. other p (omega arith) (omega arith) e)

  fills_at : (p n k : ℕ) (xs : List ℕ) → base + (p + n) ≤ length xs → p ≤ k → k < p + n → get_or (fills xs base f p n) (base + k) 0 ≡ f k
  unfolding fills
  fills_at p zero k xs fits h l = absurd (omega arith)
  fills_at p (suc n) k xs fits h l =
      let ys = set xs (base + p) (f p) in
      let same = length-set xs (base + p) (f p) in
      by_equal k p
      (λ q. rw q (fills_other (suc p) n (base + p) ys (λ j a b e. omega arith) ∙ get_or-set_same xs (base + p) (f p) 0 (omega arith)))
      (λ d. fills_at (suc p) n k ys (omega arith) (omega arith) (omega arith))

  pub fills_same : (g : ℕ → ℕ) (p n : ℕ) (xs : List ℕ) → ((k : ℕ) → k < p + n → f k ≡ g k) → fills xs base f p n ≡ fills xs base g p n
  unfolding fills
  fills_same g p zero xs same = refl
  fills_same g p (suc n) xs same =
      rw (same p (omega arith)) (fills_same g (suc p) n (set xs (base + p) (g p)) (λ k h. same k (omega arith)))

-- so many numbers put from the place on behind which there were only zeros
module _ (size base : ℕ) (f : ℕ → ℕ) (count : ℕ) (xs : List ℕ) (clean : front size base xs ≡ xs) where
  abbrev filled : List ℕ
  filled = fills xs base f 0 count

  pub clean_fills : (m : ℕ) → base + count ≤ m → front size m filled ≡ filled
  clean_fills m h =
      front_self size m filled (length_fills base f 0 count xs ∙ clean_length size base xs clean)
      (λ i p q. fills_other base f 0 count i xs (λ k a b e. omega arith) ∙ clean_zero size base xs clean i (omega arith))

  pub back_fills : (m : ℕ) (ys : List ℕ) → base + count ≤ m → m ≤ size → filled ≡ front size m ys
      → (xs ≡ front size base ys) × ((k : ℕ) → k < count → get_or ys (base + k) 0 ≡ f k)
      × ((k : ℕ) → count ≤ k → base + k < m → get_or ys (base + k) 0 ≡ 0)
  back_fills m ys room most e = (
    before size base xs clean m ys filled (omega arith) (λ i l. fills_other base f 0 count i xs (λ k a b q. omega arith)) e,
    λ k h. in_front size m ys filled e (base + k) (omega arith) (omega arith)
        ∙ fills_at base f 0 count k xs (omega (arith, clean_length size base xs clean)) (omega arith) (omega arith),
    λ k h l. in_front size m ys filled e (base + k) (omega arith) (omega arith)
        ∙ fills_other base f 0 count (base + k) xs (λ j a b q. omega arith) ∙ clean_zero size base xs clean (base + k) (omega arith),
  )

-- a front filled up with the list's own numbers is a longer front
pub fills_front : (size base p n m : ℕ) (xs : List ℕ) → m ≡ base + p
    → fills (front size m xs) base (λ k. get_or xs (base + k) 0) p n ≡ front size (m + n) xs
unfolding fills
fills_front size base p zero m xs e = rw (add-zero m)
fills_front size base p (suc n) m xs e =
    let q : suc m + n ≡ m + suc n = omega arith in
    rw (← e, front_next size m xs, fills_front size base (suc p) n (suc m) xs (omega arith), q)
