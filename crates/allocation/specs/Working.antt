-- What the code's working arrays hold: magnitudes by point, producers first, and numbers by pair, at 5 × consumer + priority. Assumes nothing.
use Rattle.std.specs.Prelude.{ℕ, ◌+◌, ◌≤◌, ◌<◌, ◌≡◌, List, get_or}
use Rattle.registration.specs.declared.Registration.{Registration}
use Rattle.registration.specs.Rules.{count_at, place_at}
use Rattle.allocation.specs.declared.Allocated.{Allocated}
use Rattle.values.specs.Values.{magnitude_most}
use Rattle.allocation.specs.Rounds.{Remaining, share_in, round_of}
use Rattle.allocation.specs.Result.{Allocation, start_of, pairs_of}

-- what remains, as an array of points holds it
abbrev pub remaining_in : Registration → List ℕ → Remaining
remaining_in r left = start_of r (λ point. get_or left point 0)

-- what a pair has in an array of pairs is at most the greatest magnitude
abbrev pub PairsWithin : Registration → List ℕ → Type 0
PairsWithin r shares = (consumer priority : ℕ) → consumer < r.consumers → priority < count_at r consumer → place_at shares consumer priority ≤ magnitude_most

-- a round made in the working arrays: what was left and is left of each point, and the shares added for each pair; the round count stays
pub record RoundMade (r : Registration) (before after : Allocated) : Type 0 where
  pub left : remaining_in r after.left ≡ round_of r (remaining_in r before.left)
  pub shares : (consumer priority : ℕ) → consumer < r.consumers → priority < count_at r consumer
      → place_at after.shares consumer priority ≡ place_at before.shares consumer priority + share_in r (remaining_in r before.left) consumer priority
  pub rounds : after.rounds ≡ before.rounds

-- the allocation that the arrays hold
abbrev pub allocation_in : Registration → Allocated → Allocation
allocation_in r allocated =
    record {
      shares = pairs_of r (place_at allocated.shares);
      withdrawals = (remaining_in r allocated.left).withdrawals;
      supplies = (remaining_in r allocated.left).supplies;
      rounds = allocated.rounds;
    }
