-- The parts of a result: what the code's slices have of them, how many numbers they have, and where they stand in a list that the result is put into.
-- Assumes nothing.
use Prim.Native.Nat.{ℕ, zero, suc, ◌+◌, ◌-◌, ◌*◌, ◌≤◌, ◌<◌}
use mathlib.Core.Path.{◌≡◌, refl, sym, ap, ◌∙◌}
use mathlib.Core.List.{List, [], ◌∷◌, ◌++◌, append_assoc}
use native.Mathlib.Omega.{arith}
use native.Mathlib.Numerals.{add-one}
use lib.ListN.{length, get_or, take, drop, length-append, length-drop}
use lib.Seq.{take_at, drop_at, take-suc, get_or-drop, get_or-take}
use lib.Seq.{take-take}
use Rattle.std.proofs.lemmas.List.{drop-drop, drop-take}
use Rattle.std.specs.Prelude.{sum}
use Rattle.std.specs.Simd.{first_chunks}
use Rattle.std.proofs.lemmas.List.Sums.{sum_by_more, sum_by-cons}
use Rattle.lists.specs.Below.{sum_below}
use Rattle.lists.specs.Place.{placed}
use Rattle.lists.specs.Tables.{joined, table}
use Rattle.lists.proofs.Below.{sum_next}
use Rattle.lists.proofs.Chains.{table_take}
use Rattle.lists.proofs.Sums.{sum_more}
use Rattle.lists.proofs.TableLaws.{table_same, length_table}
use Rattle.lists.proofs.Those.{map_append}
use Rattle.registration.specs.declared.Registration.{Registration}
use Rattle.registration.specs.Rules.{points, count_at, place_at}
use Rattle.registration.specs.Pairs.{pairs_before, pairs_in}
use Rattle.allocation.specs.declared.Allocated.{Allocated}
use Rattle.allocation.proofs.Pairs.{pairs_length}
use Rattle.lookup.specs.declared.PointValue.{PointValue}
use Rattle.lookup.specs.Substitutes.{number_of_origin}
use Rattle.evaluation.specs.Evaluation.{Result}
use Rattle.evaluation.specs.Layout.{Part, Shares, Withdrawals, Supplies, Origins, length_of, begin_of, size_of, part_in, part_of, result_of, HasLengths}
use Rattle.evaluation.specs.Working.{origins_of, result_in}

-- the shares of a consumer are among those of all consumers
pub shares_there : (r : Registration) (consumer : ℕ) → consumer < r.consumers → pairs_before r consumer + count_at r consumer ≤ pairs_in r
shares_there r consumer h =
    omega (arith, sum_next (count_at r) consumer, sum_more (count_at r) (consumer + 1) r.consumers (omega arith))

module _ (r : Registration) (allocated : Allocated) (origins : List ℕ) where
  -- the parts that the working arrays hold, with an origin for each point
  pub lengths_in : length origins ≡ points r → HasLengths r (result_in r allocated origins)
  lengths_in e Shares = omega (arith, pairs_length r (place_at allocated.shares))
  lengths_in e Withdrawals = omega (arith, length_table (λ point. get_or allocated.left (r.producers + point) 0) r.consumers)
  lengths_in e Supplies = omega (arith, length_table (λ point. get_or allocated.left point 0) r.producers)
  lengths_in e Origins = e

-- the numbers of a slice
slice_table : (numbers : List ℕ) (at n : ℕ) → at + n ≤ length numbers → take (at + n - at) (drop at numbers) ≡ table (λ i. get_or numbers (at + i) 0) n
slice_table numbers at n h =
    let some : at + n - at ≡ n = omega arith in
    rw some (sym (table_same _ _ n (λ i l. sym (get_or-drop at numbers i 0)) ∙ table_take (drop at numbers) n (rw length-drop (omega arith))))

-- the arrays of five that a list of numbers is read as: how many they are, one of them, and its first numbers
pub length_fives : (n : ℕ) (numbers : List ℕ) → length (first_chunks 5 n numbers) ≡ n
length_fives zero numbers = refl
length_fives (suc n) numbers = ap suc (length_fives n (drop 5 numbers))

five_places : (n : ℕ) (numbers : List ℕ) (i : ℕ) → i < n → get_or (first_chunks 5 n numbers) i [] ≡ take 5 (drop (5 * i) numbers)
five_places zero numbers i h = absurd (omega arith)
five_places (suc n) numbers zero h = refl
five_places (suc n) numbers (suc i) h =
    let next : 5 + 5 * i ≡ 5 * suc i = omega arith in
    five_places n (drop 5 numbers) i (omega arith) ∙ ap (take 5) (drop-drop (5 * i) 5 numbers ∙ ap (λ (k : ℕ). drop k numbers) next)

pub five_numbers : (n : ℕ) (numbers : List ℕ) (i count : ℕ) → i < n → count ≤ 5 → 5 * n ≤ length numbers
    → take count (get_or (first_chunks 5 n numbers) i []) ≡ table (λ k. get_or numbers (5 * i + k) 0) count
five_numbers n numbers i count h few all =
    let some : 5 * i + count - 5 * i ≡ count = omega arith in
    rw (five_places n numbers i h) (take-take count 5 (drop (5 * i) numbers) few ∙ rw some at (slice_table numbers (5 * i) count (omega arith)))

-- the two parts of the first numbers
pub front_table : (numbers : List ℕ) (at n : ℕ) → at + n ≤ length numbers → take at (take (at + n) numbers) ≡ table (λ i. get_or numbers i 0) at
front_table numbers at n h = take-take at (at + n) numbers (omega arith) ∙ sym (table_take numbers at (omega arith))

pub back_table : (numbers : List ℕ) (at n : ℕ) → at + n ≤ length numbers → drop at (take (at + n) numbers) ≡ table (λ i. get_or numbers (at + i) 0) n
back_table numbers at n h =
    let some : at + n - at ≡ n = omega arith in
    drop-take at n numbers ∙ rw some at (slice_table numbers at n h)

-- the sum of the first numbers of a list
pub sum_take : (numbers : List ℕ) (n : ℕ) → n ≤ length numbers → sum (take n numbers) ≡ sum_below (λ i. get_or numbers i 0) n
unfolding sum_below
sum_take numbers zero h = refl
sum_take numbers (suc n) h =
    let more : sum (take (n + 1) numbers) ≡ sum (take n numbers) + get_or numbers n 0 = sum_by_more (λ x. x) numbers n 0 h in
    rw (← add-one n, more, sum_take numbers n (omega arith))

-- the sum of bytes
pub sum_bytes : (numbers : List ℕ) → ((i : ℕ) → get_or numbers i 0 < 256) → sum numbers ≤ 255 * length numbers
sum_bytes [] h = omega arith
sum_bytes (x ∷ xs) h = omega (arith, sum_by-cons (λ x. x) x xs, h 0, sum_bytes xs (λ i. h (suc i)))

-- one origin more
pub origins_more : (values : List PointValue) (i : ℕ) (d : PointValue) → i < length values
    → origins_of (take (i + 1) values) ≡ origins_of (take i values) ++ (number_of_origin (get_or values i d).origin ∷ [])
origins_more values i d h =
    rw (add-one i, take-suc values i d h) (map_append (λ value. number_of_origin value.origin) (take i values) (get_or values i d ∷ []))

-- the origins of values by point
pub origins_table : (values : List PointValue) (d : PointValue) (n : ℕ) → n ≤ length values
    → origins_of (take n values) ≡ table (λ point. number_of_origin (get_or values point d).origin) n
unfolding joined
origins_table values d zero h = refl
origins_table values d (suc n) h =
    rw (take-suc values n d h)
    (map_append (λ value. number_of_origin value.origin) (take n values) (get_or values n d ∷ [])
    ∙ rw (origins_table values d n (omega arith)))

-- the middle one of three lists put together
part_of_lem : (first second third : List ℕ) (at count : ℕ) → length first ≡ at → length second ≡ count → take count (drop at (first ++ (second ++ third))) ≡ second
part_of_lem first second third at count e f = rw (drop_at first (second ++ third) at e) (take_at second third count f)

module _ (r : Registration) (result : Result) (lengths : HasLengths r result) where
  -- the parts one after the other have as many numbers as a result
  pub size_of_parts : length (result_of result) ≡ size_of r
  size_of_parts =
      rw (length-append, length-append, length-append)
      (omega (arith, lengths Shares, lengths Withdrawals, lengths Supplies, lengths Origins))

  module _ (lent : List ℕ) where
    -- the numbers after the result
    abbrev later : List ℕ
    later = drop (0 + length (result_of result)) lent

    whole : placed 0 (result_of result) lent
        ≡ part_of result Shares ++ (part_of result Withdrawals ++ (part_of result Supplies ++ (part_of result Origins ++ later)))
    unfolding placed
    whole = simp append_assoc

    -- each part stands at its place
    pub part_stands : (part : Part) → part_in r part (placed 0 (result_of result) lent) ≡ part_of result part
    part_stands Shares = rw whole (part_of_lem [] (part_of result Shares) _ 0 _ refl (lengths Shares))
    part_stands Withdrawals = rw whole (part_of_lem (part_of result Shares) (part_of result Withdrawals) _ _ _ (lengths Shares) (lengths Withdrawals))
    part_stands Supplies =
        let front = part_of result Shares ++ part_of result Withdrawals in
        let before : length front ≡ begin_of r Supplies = rw length-append (omega (arith, lengths Shares, lengths Withdrawals)) in
        rw (whole, ← append_assoc (part_of result Shares) (part_of result Withdrawals) (part_of result Supplies ++ (part_of result Origins ++ later)))
        (part_of_lem front (part_of result Supplies) (part_of result Origins ++ later) _ _ before (lengths Supplies))
    part_stands Origins =
        let front = part_of result Shares ++ (part_of result Withdrawals ++ part_of result Supplies) in
        let before : length front ≡ begin_of r Origins =
        rw (length-append, length-append) (omega (arith, lengths Shares, lengths Withdrawals, lengths Supplies)) in
        let fronted : placed 0 (result_of result) lent ≡ front ++ (part_of result Origins ++ later) = whole ∙ sym (simp append_assoc) in
        rw fronted (part_of_lem front (part_of result Origins) later _ _ before (lengths Origins))

    -- and each of its numbers
    pub number_stands : (part : Part) (i : ℕ) → i < length_of r part
        → get_or (placed 0 (result_of result) lent) (begin_of r part + i) 0 ≡ get_or (part_of result part) i 0
    number_stands part i h =
        let numbers = placed 0 (result_of result) lent in
        sym (get_or-drop (begin_of r part) numbers i 0) ∙ sym (get_or-take _ (drop (begin_of r part) numbers) i 0 h) ∙ ap (λ (list : List ℕ). get_or list i 0) (part_stands part)
