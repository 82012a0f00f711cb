-- A group is sound, under a last stamp, exactly where it is not damaged. Assumes nothing.
use Prim.Native.Nat.{ℕ, ◌*◌, ◌≤◌}
use mathlib.Core.Path.{◌≡◌, refl}
use mathlib.Core.Bool.{Bool, true, false, not, ◌||◌, true≢false}
use lib.Dec.{ltb}
use lib.ListN.{length}
use borrow.Author.Tests.{ltb-false, le-ltb}
use Rattle.calendar.specs.Dates.{last_day}
use Rattle.registration.specs.Damage.{is_damaged}
use Rattle.journal.specs.Damage.{entries_right}
use Rattle.group.specs.Group.{Group, roll_of}
use Rattle.group.specs.Refusals.{damaged}
use Rattle.group.specs.Stamps.{stamp_most}

-- each part of what is not damaged
pub record Sound (last : ℕ) (G : Group) : Type 0 where
  pub registered : is_damaged G.registration ≡ false
  pub kept_stamp : G.keptstamp ≤ last
  pub last_stamp : last ≤ stamp_most
  pub kept_day : G.keptday ≤ last_day
  pub fits : 3 * length G.entries ≤ G.room
  pub right : entries_right (length (roll_of G)) G.keptday last 0 G.entries ≡ true

-- a sound group is not damaged
pub undamaged : (last : ℕ) (G : Group) → Sound last G → damaged last G ≡ false
unfolding damaged
undamaged last G k =
    rw (
      k.registered,
      le-ltb last G.keptstamp k.kept_stamp,
      le-ltb stamp_most last k.last_stamp,
      le-ltb last_day G.keptday k.kept_day,
      le-ltb G.room (3 * length G.entries) k.fits,
      k.right,
    )

-- six tests in the order of the definition, none of which finds damage
chain : (a b c d e f : Bool) → a || b || c || d || e || not f ≡ false
    → (a ≡ false) × (b ≡ false) × (c ≡ false) × (d ≡ false) × (e ≡ false) × (f ≡ true)
chain true b c d e f p = absurd (true≢false p)
chain false true c d e f p = absurd (true≢false p)
chain false false true d e f p = absurd (true≢false p)
chain false false false true e f p = absurd (true≢false p)
chain false false false false true f p = absurd (true≢false p)
chain false false false false false false p = absurd (true≢false p)
chain false false false false false true p = (refl, refl, refl, refl, refl, refl)

-- and a group that is not damaged is sound
pub undamaged_sound : (last : ℕ) (G : Group) → damaged last G ≡ false → Sound last G
unfolding damaged
undamaged_sound last G h =
    let k = chain (is_damaged G.registration) (ltb last G.keptstamp) (ltb stamp_most last) (ltb last_day G.keptday)
    (ltb G.room (3 * length G.entries)) (entries_right (length (roll_of G)) G.keptday last 0 G.entries) h in
    record {
      registered = k.0;
      kept_stamp = ltb-false last G.keptstamp k.1;
      last_stamp = ltb-false stamp_most last k.2;
      kept_day = ltb-false last_day G.keptday k.3;
      fits = ltb-false G.room (3 * length G.entries) k.4;
      right = k.5;
    }
