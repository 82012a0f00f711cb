-- A group that is not sound is damaged, and past the other tests its entries tell. Assumes nothing.
use Prim.Native.Nat.{ℕ, ◌*◌, ◌≤◌}
use mathlib.Core.Path.{◌≡◌}
use mathlib.Core.Bool.{false}
use native.Mathlib.Omega.{arith}
use mathlib.Core.List.{List}
use lib.ListN.{length}
use Rattle.lists.proofs.TableLaws.{length_table}
use Rattle.registration.specs.declared.Registration.{Registration}
use Rattle.registration.specs.Rules.{points, code_at}
use Rattle.registration.specs.Damage.{is_damaged}
use Rattle.registration.proofs.Damage.{undamaged_parts, point_bounds}
use Rattle.journal.specs.Damage.{Right, RightFor}
use Rattle.journal.proofs.Stored.{length_entries}
use Rattle.group.specs.declared.Numbers.{Numbers}
use Rattle.group.specs.Held.{group_in}
use Rattle.group.specs.Group.{Group}
use Rattle.group.proofs.Sound.{Sound}

-- a registration that is not damaged has at most 64 points
pub few : (r : Registration) → is_damaged r ≡ false → points r ≤ 64
few r e = (point_bounds _ _ (undamaged_parts r e).point_counts).2

-- a sound group has at most 64 points
pub few_points : (last : ℕ) (G : Group) → Sound last G → points G.registration ≤ 64
few_points last G k = few G.registration k.registered

-- the entries of a sound group are right, for its number of points, and fit into its journal
pub right_for : (last : ℕ) (G : Group) → points G.registration ≤ 64 → Sound last G → RightFor (points G.registration) G.entries
right_for last G h k =
    record {
      few = h;
      keptday = G.keptday;
      last = last;
      right = rw (length_table (code_at G.registration) (points G.registration)) at k.right;
    }

pub right_of : (last : ℕ) (G : Group) → points G.registration ≤ 64 → Sound last G → Right G.entries
right_of last G h k = record { points = points G.registration; all = right_for last G h k }

pub fits_of : {last : ℕ} (r : Registration) (numbers : Numbers) (j : List ℕ) → Sound last (group_in r numbers j) → 3 * numbers.entries ≤ length j
fits_of r numbers j k = omega (arith, k.fits, length_entries numbers.entries j)
