-- What an allocation asks of its input. Assumes nothing.
use Rattle.std.specs.Prelude.{ℕ, ◌≤◌, ◌<◌, ◌≡◌, true}
use Rattle.values.specs.Values.{magnitude_most}
use Rattle.registration.specs.declared.Registration.{Registration}
use Rattle.registration.specs.Rules.{points, point_counts_right, consumers_right, keys_right}

-- the rules of a registration that an allocation needs: those on counts, on producers named and on keys, which every undamaged one keeps
pub record Shareable (r : Registration) : Type 0 where
  pub point_counts : point_counts_right r.producers r.consumers ≡ true
  pub consumers : consumers_right r ≡ true
  pub keys : keys_right r ≡ true

-- the magnitude of each point is at most the greatest that a reading may have
abbrev pub Magnitudes : Registration → (ℕ → ℕ) → Type 0
Magnitudes r magnitude = (point : ℕ) → point < points r → magnitude point ≤ magnitude_most
