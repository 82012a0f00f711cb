-- What a registration that can be shared by keeps within limits. Assumes nothing.
use Prim.Native.Nat.{ℕ, ◌≤◌, ◌<◌, ◌+◌}
use mathlib.Core.Path.{◌≡◌}
use mathlib.Core.Bool.{true}
use Rattle.registration.specs.declared.Registration.{Registration}
use Rattle.registration.specs.Rules.{count_at, source_at, key_at, count_right, pair_right, pairs_right, consumer_right}
use Rattle.lists.specs.Below.{every}
use Rattle.lists.proofs.Below.{and_left, and_right, every_at}
use Rattle.lists.proofs.Different.{few_differ}
use Rattle.registration.proofs.Bounds.{count_bounds, PairBounds, pair_bounds}
use Rattle.registration.proofs.Damage.{point_bounds}
use Rattle.allocation.specs.Input.{Shareable}

module _ {r : Registration} (s : Shareable r) where
  pub few_points : r.producers + r.consumers ≤ 64
  few_points = (point_bounds r.producers r.consumers s.point_counts).2

  right : (consumer : ℕ) → consumer < r.consumers → consumer_right r consumer ≡ true
  right consumer h = every_at (consumer_right r) r.consumers consumer s.consumers h

  pub count_most : (consumer : ℕ) → consumer < r.consumers → count_at r consumer ≤ 5
  count_most consumer h = (count_bounds (count_at r consumer) (and_left _ _ (right consumer h))).1

  pub pair_of : (consumer priority : ℕ) → consumer < r.consumers → priority < count_at r consumer
      → PairBounds r.producers (source_at r consumer priority) (key_at r consumer priority)
  pair_of consumer priority h l =
      pair_bounds r.producers (count_at r consumer) (source_at r consumer) (key_at r consumer)
      (and_right (count_right (count_at r consumer)) _ (right consumer h)) priority l

  -- a consumer names no producer twice, so no more of them than there are
  pub count_within : (consumer : ℕ) → consumer < r.consumers → count_at r consumer ≤ r.producers
  unfolding pairs_right
  count_within consumer h =
      few_differ (source_at r consumer) (count_at r consumer) r.producers
      (and_right (every (λ priority. pair_right r.producers (source_at r consumer priority) (key_at r consumer priority)) (count_at r consumer)) _
      (and_right (count_right (count_at r consumer)) _ (right consumer h)))
      (λ priority l. let b = pair_of consumer priority h l in (b.source_least, b.source_most))
