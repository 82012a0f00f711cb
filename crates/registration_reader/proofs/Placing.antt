-- The pairs of a consumer put into the registration one priority after the other. Assumes nothing.
use Prim.Native.Nat.{ℕ, zero, suc, ◌+◌, ◌-◌, ◌*◌, ◌≤◌, ◌<◌}
use mathlib.Core.Path.{◌≡◌, refl}
use native.Mathlib.Omega.{arith}
use Rattle.registration.specs.declared.Registration.{Registration}
use Rattle.registration_text.specs.Reader.{with_pair, with_pairs}

module _ (r : Registration) (consumer : ℕ) (source key : ℕ → ℕ) where
  with_pairs_suc : (priority left : ℕ) → with_pairs r consumer source key priority (suc left)
      ≡ with_pairs (with_pair r (5 * consumer + priority) (source priority) (key priority)) consumer source key (suc priority) left
  unfolding with_pairs
  with_pairs_suc priority left = refl

  -- from a priority on, up to the count: one more, or none
  pub pairs_next : (priority count : ℕ) → priority < count
      → with_pairs r consumer source key priority (count - priority)
      ≡ with_pairs (with_pair r (5 * consumer + priority) (source priority) (key priority)) consumer source key (priority + 1) (count - (priority + 1))
  pairs_next priority count h =
      let left : count - priority ≡ suc (count - (priority + 1)) = omega arith in
      let next : priority + 1 ≡ suc priority = omega arith in
      rw (left, next) (with_pairs_suc priority (count - suc priority))

  pub pairs_done : (priority count : ℕ) → count ≤ priority → with_pairs r consumer source key priority (count - priority) ≡ r
  unfolding with_pairs
  pairs_done priority count h =
      let left : count - priority ≡ 0 = omega arith in
      rw left

-- no other priorities are looked at
pub pairs_placed_same : (r : Registration) (consumer : ℕ) (source source' key key' : ℕ → ℕ) (priority count : ℕ)
    → ((k : ℕ) → k < priority + count → source k ≡ source' k) → ((k : ℕ) → k < priority + count → key k ≡ key' k)
    → with_pairs r consumer source key priority count ≡ with_pairs r consumer source' key' priority count
unfolding with_pairs
pairs_placed_same r consumer source source' key key' priority zero s k = refl
pairs_placed_same r consumer source source' key key' priority (suc count) s k =
    let next = with_pair r (5 * consumer + priority) (source' priority) (key' priority) in
    rw (s priority (omega arith), k priority (omega arith))
    (pairs_placed_same next consumer source source' key key' (suc priority) count (λ i h. s i (omega arith)) (λ i h. k i (omega arith)))

-- the counts of points stay
module _ (consumer : ℕ) (source key : ℕ → ℕ) where
  kept : (r : Registration) (priority count : ℕ)
      → ((with_pairs r consumer source key priority count).producers ≡ r.producers) × ((with_pairs r consumer source key priority count).consumers ≡ r.consumers)
  unfolding with_pairs with_pair
  kept r priority zero = (refl, refl)
  kept r priority (suc count) = kept (with_pair r (5 * consumer + priority) (source priority) (key priority)) (suc priority) count

pub pairs_producers : (r : Registration) (consumer : ℕ) (source key : ℕ → ℕ) (priority count : ℕ)
    → (with_pairs r consumer source key priority count).producers ≡ r.producers
pairs_producers r consumer source key priority count = (kept consumer source key r priority count).0

pub pairs_consumers : (r : Registration) (consumer : ℕ) (source key : ℕ → ℕ) (priority count : ℕ)
    → (with_pairs r consumer source key priority count).consumers ≡ r.consumers
pairs_consumers r consumer source key priority count = (kept consumer source key r priority count).1
