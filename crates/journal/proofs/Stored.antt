-- Entries in a journal: what is written is read again, and what stands behind it; what is read is written again; one more entry is three numbers placed;
-- the entries as arrays of their three numbers; and the entries from number i on are entry i and those from i + 1 on. Assumes nothing.
use Prim.Native.Nat.{ℕ, zero, suc, ◌+◌, ◌*◌, ◌-◌, ◌/◌, ◌≤◌, ◌<◌}
use native.Mathlib.Omega.{arith}
use native.Mathlib.Nat.{add-zero}
use mathlib.Core.Path.{◌≡◌, refl, ◌∙◌, ap}
use mathlib.Core.List.{List, [], ◌∷◌, ◌++◌, append_assoc}
use lib.ListN.{length, get_or, take, drop, replicate, take-append-drop, length-append, length-replicate, length-drop, get_or-append}
use lib.Seq.{drop-drop, get_or-drop, get_or-take, get_or-append-add, length-take-le}
use Rattle.std.specs.Simd.{first_chunks}
use Rattle.lists.specs.Place.{placed}
use Rattle.journal.specs.declared.Entry.{Entry}
use Rattle.journal.specs.Stored.{entry_at, entries, entries_in, numbers, flat, emptied_numbers, written}

pub entries_flat : (es : List Entry) (j : List ℕ) → entries (length es) (flat es ++ j) ≡ es
unfolding entries flat
entries_flat [] j = refl
entries_flat (e ∷ es) j = cc (entries_flat es j)

pub entries_written : (es : List Entry) (emptied : ℕ) (j : List ℕ) → entries (length es) (written es emptied j) ≡ es
unfolding written
entries_written es emptied j = entries_flat es _

pub length_flat : (es : List Entry) → length (flat es) ≡ 3 * length es
unfolding flat
length_flat [] = refl
length_flat (e ∷ es) = omega (arith, length_flat es)

pub length_entries : (n : ℕ) (j : List ℕ) → length (entries n j) ≡ n
unfolding entries
length_entries zero j = refl
length_entries (suc n) j = ap suc (length_entries n (drop 3 j))

-- one entry more is the next one, after those before it
entry_at_drop : (j : List ℕ) (i : ℕ) → entry_at (drop 3 j) i ≡ entry_at j (suc i)
entry_at_drop j i =
    let a : 3 + 3 * i ≡ 3 * suc i = omega arith in
    let b : 3 + (3 * i + 1) ≡ 3 * suc i + 1 = omega arith in
    let c : 3 + (3 * i + 2) ≡ 3 * suc i + 2 = omega arith in
    cc (get_or-drop 3 j (3 * i) 0, get_or-drop 3 j (3 * i + 1) 0, get_or-drop 3 j (3 * i + 2) 0)

pub entries_snoc : (i : ℕ) (j : List ℕ) → entries (suc i) j ≡ entries i j ++ (entry_at j i ∷ [])
unfolding entries
entries_snoc zero j = refl
entries_snoc (suc i) j = cc (entries_snoc i (drop 3 j), entry_at_drop j i)

-- emptied entries have three numbers each, all of them 0
length_emptied : (emptied : ℕ) → length (emptied_numbers emptied) ≡ 3 * emptied
length_emptied emptied = simp length-replicate (omega arith)

zero_at : (n i : ℕ) → get_or (replicate {A = ℕ} n 0) i 0 ≡ 0
zero_at zero i = refl
zero_at (suc n) zero = refl
zero_at (suc n) (suc i) = zero_at n i

pub length_written : (es : List Entry) (emptied : ℕ) (j : List ℕ) → 3 * (length es + emptied) ≤ length j → length (written es emptied j) ≡ length j
unfolding written
length_written es emptied j h = simp (length-append, length_flat, length_emptied, length-drop) (omega arith)

-- a list of three parts, the first two of which have n and m numbers: at a place in the second, and at one in the third
module _ (a z d : List ℕ) (n m place : ℕ) (first : length a ≡ n) (second : length z ≡ m) where
  second_part : n ≤ place → place < n + m → get_or (a ++ (z ++ d)) place 0 ≡ get_or z (place - n) 0
  second_part l h =
      let e : place ≡ length a + (place - n) = omega arith in
      ap (λ (k : ℕ). get_or (a ++ (z ++ d)) k 0) e ∙ get_or-append-add a (z ++ d) (place - n) 0 ∙ get_or-append z d 0 (place - n) (omega arith)

  third_part : n + m ≤ place → get_or (a ++ (z ++ d)) place 0 ≡ get_or d (place - (n + m)) 0
  third_part l =
      let i = place - (n + m) in
      let e : place ≡ length a + (length z + i) = omega arith in
      ap (λ (k : ℕ). get_or (a ++ (z ++ d)) k 0) e ∙ get_or-append-add a (z ++ d) (length z + i) 0 ∙ get_or-append-add z d i 0

-- behind the entries written: zeros, and then the numbers that stay
module _ (es : List Entry) (emptied : ℕ) (j : List ℕ) (place : ℕ) where
  abbrev later : List ℕ
  later = drop (3 * (length es + emptied)) j

  pub emptied_zero : 3 * length es ≤ place → place < 3 * length es + 3 * emptied → get_or (written es emptied j) place 0 ≡ 0
  unfolding written
  emptied_zero l h =
      second_part (flat es) (emptied_numbers emptied) later (3 * length es) (3 * emptied) place (length_flat es) (length_emptied emptied) l h
      ∙ simp zero_at

  pub later_stay : 3 * length es + 3 * emptied ≤ place → get_or (written es emptied j) place 0 ≡ get_or j place 0
  unfolding written
  later_stay l =
      let i = place - (3 * length es + 3 * emptied) in
      third_part (flat es) (emptied_numbers emptied) later (3 * length es) (3 * emptied) place (length_flat es) (length_emptied emptied) l
      ∙ get_or-drop (3 * (length es + emptied)) j i 0
      ∙ ap (λ (n : ℕ). get_or j n 0) (omega arith)

-- what is read is written again
pub flat_entries : (n : ℕ) (j : List ℕ) → 3 * n ≤ length j → flat (entries n j) ≡ take (3 * n) j
unfolding entries flat
flat_entries zero j h = refl
flat_entries (suc n) [] h = absurd (omega arith)
flat_entries (suc n) (a ∷ []) h = absurd (omega arith)
flat_entries (suc n) (a ∷ b ∷ []) h = absurd (omega arith)
flat_entries (suc n) (a ∷ b ∷ c ∷ j) h =
    let e : 3 * suc n ≡ suc (suc (suc (3 * n))) = omega arith in
    rw e (cc (flat_entries n j (omega arith)))

pub flat_append : (es fs : List Entry) → flat (es ++ fs) ≡ flat es ++ flat fs
unfolding flat
flat_append [] fs = refl
flat_append (e ∷ es) fs = cc (flat_append es fs)

pub written_same : (n : ℕ) (j : List ℕ) → 3 * n ≤ length j → written (entries n j) 0 j ≡ j
unfolding written
written_same n j h =
    let q : 3 * (n + 0) ≡ 3 * n = omega arith in
    rw (length_entries, q, flat_entries n j h) (take-append-drop (3 * n) j)

-- numbers of entries that were read and are written again stay
pub front_stays : (n : ℕ) (es : List Entry) (emptied : ℕ) (j : List ℕ) (place : ℕ) → 3 * n ≤ length j → place < 3 * n
    → get_or (written (entries n j ++ es) emptied j) place 0 ≡ get_or j place 0
unfolding written
front_stays n es emptied j place h l =
    let front : List ℕ = take (3 * n) j in
    let size : length front ≡ 3 * n = length-take-le (3 * n) j h in
    rw (flat_append (entries n j) es, flat_entries n j h, append_assoc front (flat es))
    (get_or-append front _ 0 place (omega arith) ∙ get_or-take (3 * n) j place 0 l)

-- one more entry is three numbers placed
pub put_append : (e : Entry) (n : ℕ) (j : List ℕ) → 3 * n + 3 ≤ length j
    → written (entries n j ++ (e ∷ [])) 0 j ≡ placed (3 * n) (numbers e) j
unfolding written flat placed
put_append e n j h =
    let l : length (entries n j ++ (e ∷ [])) ≡ suc n = simp (length-append, length_entries) (omega arith) in
    let q : 3 * (suc n + 0) ≡ 3 * n + 3 = omega arith in
    rw (l, q, flat_append (entries n j) (e ∷ []), flat_entries n j (omega arith)) (append_assoc (take (3 * n) j) (numbers e) (drop (3 * n + 3) j))

-- ---- entries that stand as arrays of their three numbers
pub chunks_entries : (n : ℕ) (j : List ℕ) → 3 * n ≤ length j → entries_in (first_chunks 3 n j) ≡ entries n j
unfolding entries
chunks_entries zero j h = refl
chunks_entries (suc n) [] h = absurd (omega arith)
chunks_entries (suc n) (a ∷ []) h = absurd (omega arith)
chunks_entries (suc n) (a ∷ b ∷ []) h = absurd (omega arith)
chunks_entries (suc n) (a ∷ b ∷ c ∷ j) h = cc (chunks_entries n j (omega arith))

-- entries of the front of a journal are those of the journal
pub entries_take : (n : ℕ) (j : List ℕ) → 3 * n ≤ length j → entries n (take (3 * n) j) ≡ entries n j
unfolding entries
entries_take zero j h = refl
entries_take (suc n) [] h = absurd (omega arith)
entries_take (suc n) (a ∷ []) h = absurd (omega arith)
entries_take (suc n) (a ∷ b ∷ []) h = absurd (omega arith)
entries_take (suc n) (a ∷ b ∷ c ∷ j) h =
    let e : 3 * suc n ≡ suc (suc (suc (3 * n))) = omega arith in
    rw e (cc (entries_take n j (omega arith)))

-- the arrays that the front of a journal is read as, however the number of its numbers is said
pub front_entries : (n m : ℕ) (j : List ℕ) → m ≡ 3 * n → 3 * n ≤ length j
    → entries_in (first_chunks 3 (length (take m j) / 3) (take m j)) ≡ entries n j
front_entries n m j e h =
    let size : length (take (3 * n) j) ≡ 3 * n = length-take-le (3 * n) j h in
    let many : length (take (3 * n) j) / 3 ≡ n = omega arith in
    rw (e, many) (chunks_entries n (take (3 * n) j) (omega arith) ∙ entries_take n j h)

-- the entries that are left of `count` once i are passed
abbrev pub rest : List ℕ → ℕ → ℕ → List Entry
rest j count i = entries (count - i) (drop (3 * i) j)

pub rest_start : (j : List ℕ) (count : ℕ) → rest j count 0 ≡ entries count j
rest_start j count = ap (λ (n : ℕ). entries n j) (omega arith)

pub rest_end : (j : List ℕ) (count : ℕ) → rest j count count ≡ []
unfolding entries
rest_end j count = let z : count - count ≡ 0 = omega arith in rw z

pub rest_step : (j : List ℕ) (count i : ℕ) → i < count → rest j count i ≡ entry_at j i ∷ rest j count (i + 1)
unfolding entries
rest_step j count i h =
    let n : count - i ≡ suc (count - (i + 1)) = omega arith in
    let m : 3 * (i + 1) ≡ 3 * i + 3 = omega arith in
    rw (n, m) (simp (get_or-drop, drop-drop, add-zero))
