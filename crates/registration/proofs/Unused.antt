-- Where a registration whose unused numbers are 0 has zeros: after its consumers, and after the producers that each names. Assumes nothing.
use Prim.Native.Nat.{ℕ, ◌+◌, ◌-◌, ◌*◌, ◌/◌, ◌%◌, ◌≤◌, ◌<◌}
use mathlib.Core.Path.{◌≡◌, sym, ◌∙◌}
use mathlib.Core.Bool.{Bool, true, false, ◌&&◌, ◌||◌}
use mathlib.Core.List.{List}
use native.Mathlib.Omega.{arith}
use native.Mathlib.Nat.{div-add-mod, mod-lt}
use borrow.Author.Tests.{lt-ltb, le-ltb, ltb-true, ltb-false, eqb-true}
use lib.Dec.{ltb, eqb}
use lib.ListN.{length, take, drop, get_or, length-drop}
use Rattle.std.specs.List.{list_all}
use Rattle.std.proofs.lemmas.List.{take_all, drop_all}
use Rattle.lists.specs.Below.{every}
use Rattle.lists.proofs.Cases.{by_test}
use Rattle.lists.proofs.Below.{both, or_early, every_at, every_all, every_same}
use Rattle.lists.proofs.Chains.{every_drop}
use Rattle.registration.specs.declared.Registration.{Registration}
use Rattle.registration.specs.declared.Pair.{Pair}
use Rattle.registration.specs.Rules.{points, count_at, source_at, key_at, pair_at, no_pair}
use Rattle.registration.specs.Damage.{zeros_from, pairs_unused, unused_zero}

-- after the producers that a consumer names there are zeros
abbrev pub Unused : Registration → ℕ → Type 0
Unused r c = (k : ℕ) → count_at r c ≤ k → k < 5 → (source_at r c k ≡ 0) × (key_at r c k ≡ 0)

-- a test that holds, where its first part does not
or_else : (a b : Bool) → a ≡ false → a || b ≡ true → b ≡ true
or_else a b e t = rw e at t

pub zeros_at : (size n : ℕ) (xs : List ℕ) → zeros_from size n xs ≡ true → (i : ℕ) → n ≤ i → i < size → get_or xs i 0 ≡ 0
zeros_at size n xs t i h l =
    eqb-true (get_or xs i 0) 0
    (or_else (ltb i n) (eqb (get_or xs i 0) 0) (le-ltb i n h) (every_at (λ place. ltb place n || eqb (get_or xs place 0) 0) size i t l))

-- whether what is left of a list from place n on is zeros
abbrev pub zeros_left : ℕ → ℕ → List ℕ → Bool
zeros_left size n xs = list_all (λ number. eqb number 0) (take (size - n) (drop n xs))

zeros_from_left : (size n : ℕ) (xs : List ℕ) → length xs ≡ size → n ≤ size → zeros_from size n xs ≡ zeros_left size n xs
zeros_from_left size n xs l h =
    let all : take (size - n) (drop n xs) ≡ drop n xs = take_all (size - n) (drop n xs) (omega (arith, length-drop n xs)) in
    rw all (rw l at (every_drop (λ number. eqb number 0) xs 0 n (omega arith)))

-- every unused number is 0 where what is left of each array after the numbers used is zeros
pub unused_left : (r : Registration) (n : ℕ) → n ≡ points r → n ≤ 64 → length r.codes ≡ 64 → length r.statuses ≡ 64 → length r.counts ≡ 64
    → unused_zero r ≡ zeros_left 64 n r.codes && zeros_left 64 n r.statuses && zeros_left 64 r.consumers r.counts && every (pairs_unused r) 64
unused_left r n e h codes statuses counts =
    rw (← e, zeros_from_left 64 n r.codes codes h, zeros_from_left 64 n r.statuses statuses h, zeros_from_left 64 r.consumers r.counts counts (omega arith))

-- after the producers that a consumer names its places hold only zeros where the pairs left after those are none
pub pairs_left : (r : Registration) (consumer : ℕ) (pairs : List Pair) → length pairs ≡ 5
    → ((k : ℕ) → k < 5 → get_or pairs k no_pair ≡ pair_at r consumer k)
    → list_all (λ pair. eqb pair.source 0 && eqb pair.key 0) (drop (count_at r consumer) pairs) ≡ pairs_unused r consumer
pairs_left r consumer pairs size at =
    let count = count_at r consumer in
    let test = λ (pair : Pair). eqb pair.source 0 && eqb pair.key 0 in
    by_test (ltb 5 count)
    (λ t.
    let l : 5 < count = ltb-true 5 count t in
    rw (drop_all count pairs (omega arith))
    (sym (every_all (λ k. ltb k count || test (pair_at r consumer k)) 5 (λ k h. or_early (ltb k count) _ (lt-ltb k count (omega arith))))))
    (λ t.
    let l : count ≤ 5 = ltb-false 5 count t in
    sym (rw size at (every_drop test pairs no_pair count (omega arith)))
    ∙ every_same (λ k. ltb k count || test (get_or pairs k no_pair)) _ 5 (λ k h. rw (at k h)))

pub unused_at : (r : Registration) (c : ℕ) → pairs_unused r c ≡ true → Unused r c
unused_at r c t k h l =
    let a = every_at (λ priority. ltb priority (count_at r c) || (eqb (source_at r c priority) 0 && eqb (key_at r c priority) 0)) 5 k t l in
    let b = both (eqb (source_at r c k) 0) (eqb (key_at r c k) 0) (or_else (ltb k (count_at r c)) _ (le-ltb k (count_at r c) h) a) in
    (eqb-true (source_at r c k) 0 b.0, eqb-true (key_at r c k) 0 b.1)

-- a place among the places of pairs belongs to a consumer and a priority
pub places : (xs : List ℕ) (n : ℕ) → ((c : ℕ) → n ≤ c → c < 64 → (k : ℕ) → k < 5 → get_or xs (5 * c + k) 0 ≡ 0) → (i : ℕ) → 5 * n ≤ i → i < 320
    → get_or xs i 0 ≡ 0
places xs n zeros i h l =
    let q : 5 * (i / 5) + i % 5 ≡ i = div-add-mod i 5 in
    let s : i % 5 < 5 = mod-lt i (omega arith) in
    rw q at (zeros (i / 5) (omega arith) (omega arith) (i % 5) s)

module _ (r : Registration) (unused : unused_zero r ≡ true) where
  pub zero_after : (zeros_from 64 (points r) r.codes ≡ true) × (zeros_from 64 (points r) r.statuses ≡ true)
      × (zeros_from 64 r.consumers r.counts ≡ true) × (every (pairs_unused r) 64 ≡ true)
  zero_after =
      let a = both _ (every (pairs_unused r) 64) unused in
      let b = both _ (zeros_from 64 r.consumers r.counts) a.0 in
      let c = both _ (zeros_from 64 (points r) r.statuses) b.0 in
      (c.0, c.1, b.1, a.1)

  pub no_pairs : (c : ℕ) → c < 64 → Unused r c
  no_pairs c h = unused_at r c (every_at (pairs_unused r) 64 c zero_after.3 h)

  pub no_count : (c : ℕ) → r.consumers ≤ c → c < 64 → count_at r c ≡ 0
  no_count c h l = zeros_at 64 r.consumers r.counts zero_after.2 c h l

  -- a place after those of the last consumer belongs to a later one, which names no producer
  pub no_source : (place : ℕ) → 5 * r.consumers ≤ place → place < 320 → get_or r.sources place 0 ≡ 0
  no_source = places r.sources r.consumers (λ c h l k m. (no_pairs c l k (omega (arith, no_count c h l)) m).0)
