-- Keys and windows: a pass brings the marks on to the next key, and after the last one all is marked. Assumes nothing.
use Prim.Native.Nat.{ℕ, ◌+◌, ◌*◌, ◌/◌, ◌%◌, ◌≤◌, ◌<◌}
use mathlib.Core.Path.{◌≡◌, refl, sym, ap, ◌∙◌}
use mathlib.Core.Bool.{Bool, cond, true, false, ◌&&◌}
use mathlib.Core.List.Memᴰ
use mathlib.Core.List.{List, [], ◌∷◌, Memᴰ}
use mathlib.Core.Logic.{⊎_elim}
use native.Mathlib.Omega.{arith}
use native.Mathlib.Nat.{mul-le-mul}
use lib.Arith.{digits_div, digits_mod}
use lib.Dec.{leb, ltb}
use borrow.Author.Tests.{ltb-true, ltb-false, leb-true, lt-ltb, le-ltb, le-leb, lt-leb}
use Rattle.std.specs.Prelude.{Option, None, Some}
use Rattle.lists.proofs.Cases.{by_test}
use Rattle.lists.proofs.Below.{and_left, and_right}
use Rattle.calendar.specs.Quarters.{quarter_exists}
use Rattle.journal.specs.Value.{stored_right}
use Rattle.journal.specs.declared.Entry.{Entry}
use Rattle.journal.specs.Entries.{point_places, point_in, day_in, quarter_in}
use Rattle.journal.specs.Damage.{entry_right, entries_right, RightFor}
use Rattle.journal.proofs.RightEntries.{parts, all4}
use Rattle.journal_clear.specs.Marks.{key_of, window, superseded, superseded_below, marked, is_less, next_in}
use Rattle.journal_clear.specs.Seen.{within}

-- every entry has a stamp above 0 and a place of one of so many points
abbrev pub Bounded : (points : ℕ) → List Entry → Type 0
Bounded points es = (e : Entry) → Memᴰ e es → (0 < e.stamp) × (e.place < points * point_places)

-- the greatest number, which no place has as its key
abbrev pub no_place : ℕ
no_place = 18446744073709551615

-- a point below a number of points has its places below the number times those of a point
low_place : (points K : ℕ) (e : Entry) → entry_right points K e ≡ true → e.place < points * point_places
unfolding entry_right
low_place points K e h =
    let k = all4 (ltb (point_in e.place) points) (leb K (day_in e.place)) (quarter_exists (day_in e.place) (quarter_in e.place)) (stored_right e.stored) h in
    omega (arith, ltb-true (point_in e.place) points k.0)

bounded_from : (points K last lo : ℕ) (es : List Entry) → entries_right points K last lo es ≡ true → Bounded points es
bounded_from points K last lo [] h x m = absurd (Memᴰ.not-nil m)
bounded_from points K last lo (e ∷ es) h x m =
    let k = parts points K last lo e es h in
    ⊎_elim (λ (q : x ≡ e). rw q (omega (arith, k.0), low_place points K e k.2)) (λ n. bounded_from points K last e.stamp es k.3 x n) (Memᴰ.cases_cons m)

pub bounded : (points : ℕ) (es : List Entry) → RightFor points es → Bounded points es
bounded points es r = bounded_from points r.keptday r.last 0 es r.right

-- the first part of a place's key is small where there are at most 64 points
pub low_product : (points p : ℕ) → points ≤ 64 → p % point_places * points ≤ 2775899 * 64
low_product points p few = mul-le-mul {n₂ = 2775899} (omega arith) few

-- ---- the key of a place of one of at most 64 points is below the greatest number, and no other such place has it
pub low_key : (points p : ℕ) → points ≤ 64 → p < points * point_places → key_of points p < no_place
unfolding key_of
low_key points p few h = omega (arith, low_product points p few)

pub same_key : (points p q : ℕ) → p < points * point_places → q < points * point_places → key_of points p ≡ key_of points q → p ≡ q
unfolding key_of
same_key points p q h k e =
    let i : p / point_places < points = omega arith in
    let j : q / point_places < points = omega arith in
    let a : p % point_places ≡ q % point_places = sym (digits_div (p % point_places) i) ∙ ap (λ (n : ℕ). n / points) e ∙ digits_div (q % point_places) j in
    let b : p / point_places ≡ q / point_places = sym (digits_mod (p % point_places) i) ∙ ap (λ (n : ℕ). n % points) e ∙ digits_mod (q % point_places) j in
    omega (arith, a, b)

-- ---- a key and a window
pub in_window : (lo hi p : ℕ) → lo ≤ p → p < hi → within lo hi p ≡ true
in_window lo hi p l h = rw (le-leb lo p l, lt-ltb p hi h)

pub below_window : (lo hi p : ℕ) → p < lo → within lo hi p ≡ false
below_window lo hi p l = rw (lt-leb lo p l)

pub above_window : (lo hi p : ℕ) → hi ≤ p → within lo hi p ≡ false
above_window lo hi p h = by_test (leb lo p) (λ t. rw (t, le-ltb p hi h)) (λ t. rw t)

-- ---- two tests that agree on the entries mark the same, and one that each entry fails marks none
marked_same : (f g : Entry → Bool) (es : List Entry) → ((e : Entry) → Memᴰ e es → f e ≡ g e) → marked f es ≡ marked g es
unfolding marked
marked_same f g [] h = refl
marked_same f g (e ∷ es) h = rw (h e (Memᴰ.head refl), marked_same f g es (λ x m. h x (Memᴰ.tail m)))

marked_none : (f : Entry → Bool) → ((e : Entry) → f e ≡ false) → (es : List Entry) → marked f es ≡ es
unfolding marked
marked_none f h [] = refl
marked_none f h (e ∷ es) = rw (h e, marked_none f h es)

-- ---- the next key: marks do not move it, and it is the least beyond a window
next_marked : (points b : ℕ) (f : Entry → Bool) (es : List Entry) → next_in points b (marked f es) ≡ next_in points b es
unfolding next_in marked
next_marked points b f [] = refl
next_marked points b f (e ∷ es) =
    by_test (f e) (λ t. rw (t, next_marked points b f es)) (λ t. rw (t, next_marked points b f es))

-- the next key as a number: the greatest one where there is none
abbrev pub reach : Option ℕ → ℕ
reach None = no_place
reach (Some key) = key

-- the same of the entries' least key
abbrev least_in : (points b : ℕ) → List Entry → ℕ
least_in points b [] = no_place
least_in points b (e ∷ es) = cond (leb b (key_of points e.place) && ltb (key_of points e.place) (least_in points b es)) (key_of points e.place) (least_in points b es)

less_told : (key : ℕ) (next : Option ℕ) → key < no_place → is_less key next ≡ ltb key (reach next)
less_told key None h = sym (lt-ltb key no_place h)
less_told key (Some next) h = refl

-- the keys of entries are below the greatest number
abbrev pub LowKeys : (points : ℕ) → List Entry → Type 0
LowKeys points es = (e : Entry) → Memᴰ e es → key_of points e.place < no_place

reach_next : (points b : ℕ) (es : List Entry) → LowKeys points es → reach (next_in points b es) ≡ least_in points b es
unfolding next_in
reach_next points b [] low = refl
reach_next points b (e ∷ es) low =
    let others = reach_next points b es (λ x m. low x (Memᴰ.tail m)) in
    let p = key_of points e.place in
    let told = less_told p (next_in points b es) (low e (Memᴰ.head refl)) in
    rw (← others, ← told) (by_test (leb b p && is_less p (next_in points b es)) (λ t. rw t) (λ t. rw t))

-- a next key, if there is one, is below the greatest number
abbrev pub IsLow : Option ℕ → Type 0
IsLow None = Unit {0}
IsLow (Some key) = key < no_place

low_next : (points b : ℕ) (es : List Entry) → LowKeys points es → IsLow (next_in points b es)
unfolding next_in
low_next points b [] low = tt
low_next points b (e ∷ es) low =
    let p = key_of points e.place in
    by_test (leb b p && is_less p (next_in points b es))
    (λ t. rw t (low e (Memᴰ.head refl)))
    (λ t. rw t (low_next points b es (λ x m. low x (Memᴰ.tail m))))

next_less : (points b : ℕ) (e : Entry) (es : List Entry) → least_in points b (e ∷ es) ≤ least_in points b es
next_less points b e es =
    let p = key_of points e.place in
    let n = least_in points b es in
    by_test (leb b p && ltb p n) (λ t. let h = ltb-true p n (and_right (leb b p) (ltb p n) t) in rw t (omega arith)) (λ t. rw t (omega arith))

next_most : (points b : ℕ) (es : List Entry) → least_in points b es ≤ no_place
next_most points b [] = omega arith
next_most points b (e ∷ es) = omega (arith, next_less points b e es, next_most points b es)

next_first : (points b : ℕ) (e : Entry) (es : List Entry) → b ≤ key_of points e.place → least_in points b (e ∷ es) ≤ key_of points e.place
next_first points b e es h =
    let p = key_of points e.place in
    let n = least_in points b es in
    by_test (ltb p n)
    (λ s. rw (le-leb b p h, s) (omega arith))
    (λ s. let k = ltb-false p n s in rw (le-leb b p h, s) (omega arith))

next_least : (points b : ℕ) (es : List Entry) (e : Entry) → Memᴰ e es → b ≤ key_of points e.place → least_in points b es ≤ key_of points e.place
next_least points b [] e m h = absurd (Memᴰ.not-nil m)
next_least points b (x ∷ es) e m h =
    ⊎_elim
    (λ (q : e ≡ x). rw q (next_first points b x es (rw q at h)))
    (λ n. omega (arith, next_less points b x es, next_least points b es e n h))
    (Memᴰ.cases_cons m)

next_beyond : (points b c : ℕ) → c ≤ b → c ≤ no_place → (es : List Entry) → c ≤ least_in points b es
next_beyond points b c l m [] = m
next_beyond points b c l m (e ∷ es) =
    let p = key_of points e.place in
    let n = least_in points b es in
    by_test (leb b p && ltb p n)
    (λ t. let h = leb-true b p (and_left (leb b p) (ltb p n) t) in rw t (omega arith))
    (λ t. rw t (next_beyond points b c l m es))

-- ---- the marks below a key
module _ (points P : ℕ) (all : List Entry) where
  -- the entries, with the superseded ones whose keys are below `hi` marked
  abbrev below : (hi : ℕ) → List Entry
  below hi = marked (superseded_below points hi P all) all

  -- before the first window nothing is marked
  pub none_below : below 0 ≡ all
  none_below = marked_none _ (λ e. rw (le-ltb (key_of points e.place) 0 (omega arith))) all

  module _ (few : points ≤ 64) (b : Bounded points all) where
    low : (e : Entry) → Memᴰ e all → key_of points e.place < no_place
    low e m = low_key points e.place few (b e m).1

    -- every key is below the greatest number
    pub all_below : below no_place ≡ marked (superseded P all) all
    all_below = marked_same _ _ all (λ e m. rw (lt-ltb (key_of points e.place) no_place (low e m)))

    -- no key lies between the end of a window and the next key
    same_below : (hi : ℕ) (e : Entry) → Memᴰ e all → ltb (key_of points e.place) hi ≡ ltb (key_of points e.place) (least_in points hi all)
    same_below hi e m =
        let p = key_of points e.place in
        let n = least_in points hi all in
        by_test (ltb p hi)
        (λ t.
        let h : p < hi = ltb-true p hi t in
        let k : p + 1 ≤ n = next_beyond points hi (p + 1) (omega arith) (omega (arith, low e m)) all in
        rw (t, lt-ltb p n (omega arith)))
        (λ t. rw (t, le-ltb p n (next_least points hi all e m (ltb-false p hi t))))

    up_to_next : (hi : ℕ) → below hi ≡ below (least_in points hi all)
    up_to_next hi = marked_same _ _ all (λ e m. rw (same_below hi e m))

    -- a pass brings the marks from `lo` on to the next key
    pub pass_on : (lo : ℕ) (next : Option ℕ) (js ks : List Entry) → lo < no_place → js ≡ below lo → ks ≡ below (lo + window)
        → next ≡ next_in points (lo + window) js
        → IsLow next × (lo < reach next) × (ks ≡ below (reach next))
    pass_on lo next js ks l ej ek en =
        let hi = lo + window in
        let n : next ≡ next_in points hi all = rw (ej, next_marked) at en in
        let least : reach next ≡ least_in points hi all = rw n (reach_next points hi all low) in
        (rw n (low_next points hi all low), omega (arith, next_beyond points hi (lo + 1) (omega arith) (omega arith) all), ek ∙ up_to_next hi ∙ sym (ap below least))
