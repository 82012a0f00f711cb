-- A producer's keys summed over all places are those of its pairs: the other places have the number 0. Assumes nothing.
use Prim.Native.Nat.{ℕ, zero, suc, ◌+◌, ◌*◌, ◌≤◌, ◌<◌}
use mathlib.Core.Path.{◌≡◌, refl, ◌∙◌}
use mathlib.Core.Bool.{true}
use mathlib.Core.Logic.{⊎_elim}
use native.Mathlib.Nat.{eq-or-lt_of_le, le_of_suc-le-suc}
use native.Mathlib.Omega.{arith}
use lib.ListN.{get_or}
use borrow.Author.Tests.{ne_eqb}
use Rattle.lists.specs.Below.{sum_below}
use Rattle.lists.proofs.Below.{and_left, every_at, sum_same}
use Rattle.lists.proofs.Sums.{sum_rows}
use Rattle.registration.specs.declared.Registration.{Registration}
use Rattle.registration.specs.Rules.{count_at, key_at, point_counts_right, consumer_right, consumers_right, pair_places, keys_of}
use Rattle.registration.specs.Pairs.{of_producer}
use Rattle.registration.specs.Damage.{unused_zero}
use Rattle.registration.proofs.Bounds.{count_bounds}
use Rattle.registration.proofs.Damage.{point_bounds}
use Rattle.registration.proofs.Keys.{key_for}
use Rattle.registration.proofs.Unused.{no_pairs, no_source}

-- numbers that are 0 do not count in a sum
sum_short : (f : ℕ → ℕ) (m n : ℕ) → m ≤ n → ((i : ℕ) → m ≤ i → i < n → f i ≡ 0) → sum_below f n ≡ sum_below f m
unfolding sum_below
sum_short f zero zero h none = refl
sum_short f (suc m) zero h none = absurd (omega arith)
sum_short f m (suc n) h none =
    ⊎_elim
    (λ e. rw e)
    (λ l. let here = none n (le_of_suc-le-suc l) (omega arith) in omega (arith, here, sum_short f m n (le_of_suc-le-suc l) (λ i a b. none i a (omega arith))))
    (eq-or-lt_of_le h)

module _ (r : Registration) (points : point_counts_right r.producers r.consumers ≡ true) (named : consumers_right r ≡ true) (unused : unused_zero r ≡ true) (producer : ℕ) where
  -- the key at a place that names this producer
  abbrev key : ℕ → ℕ
  key = key_for r.sources r.keys (producer + 1)

  -- a place that names no producer does not count
  no_key : (place : ℕ) → get_or r.sources place 0 ≡ 0 → key place ≡ 0
  no_key place e = rw (ne_eqb (get_or r.sources place 0) (producer + 1) (λ i. omega arith))

  -- of a consumer's five places those count where it names a producer
  of_consumer_lem : (consumer : ℕ) → consumer < r.consumers
      → sum_below (λ k. key (5 * consumer + k)) 5 ≡ sum_below (λ k. key (5 * consumer + k)) (count_at r consumer)
  of_consumer_lem consumer h =
      let few = point_bounds r.producers r.consumers points in
      let most = (count_bounds (count_at r consumer) (and_left _ _ (every_at (consumer_right r) r.consumers consumer named h))).1 in
      sum_short _ (count_at r consumer) 5 most
      (λ k l m. no_key (5 * consumer + k) (no_pairs r unused consumer (omega arith) k l m).0)

  -- all consumers have their places among those that are summed
  all_consumers : sum_below key pair_places ≡ sum_below key (5 * r.consumers)
  all_consumers =
      let few = point_bounds r.producers r.consumers points in
      sum_short key (5 * r.consumers) pair_places (omega arith) (λ place l m. no_key place (no_source r unused place l (omega arith)))

  pub by_pair : keys_of r.sources r.keys producer ≡ of_producer r (key_at r) producer
  by_pair = all_consumers ∙ sum_rows key 5 r.consumers ∙ sum_same _ _ r.consumers of_consumer_lem
