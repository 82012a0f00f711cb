-- What a look-up knows of its entries and of its quarter hour: right entries are right for 64 points, from day 0 on, up to the sum of their stamps, so that
-- which points, day and stamp they were right for need not be known. Assumes nothing.
use Rattle.std.proofs.Common.{◌≡◌, ℕ, ◌+◌, ◌≤◌, true, leb, ltb, List, [], ◌∷◌, refl, arith, ltb-true, lt-ltb, le-leb}
use Rattle.std.proofs.Math.Bool.{Bool-set}
use Rattle.std.proofs.Math.Logic.{∥∥₁_elim}
use Rattle.calendar.specs.Dates.{last_day}
use Rattle.calendar.specs.Quarters.{quarter_exists}
use Rattle.calendar.proofs.Laws.{exists_day, exists_quarter}
use Rattle.journal.specs.declared.Entry.{Entry}
use Rattle.journal.specs.Value.{stored_right}
use Rattle.journal.specs.Entries.{point_in, day_in, quarter_in}
use Rattle.journal.specs.Stored.{entries_in}
use Rattle.journal.specs.Damage.{entry_right, entries_right}
use Rattle.journal.proofs.RightEntries.{all4, parts}
use Rattle.lookup.specs.declared.Lookup.{Lookup}
use Rattle.lookup.specs.Working.{Readable}

-- the sum of the stamps: none is above it
abbrev stamps : List Entry → ℕ
stamps [] = 0
stamps (e ∷ es) = e.stamp + stamps es

-- entries that are right for fewer points, later days and some last stamp
right_wider : (points K last top : ℕ) → points ≤ 64 → (lo : ℕ) (es : List Entry) → stamps es ≤ top
    → entries_right points K last lo es ≡ true → entries_right 64 0 top lo es ≡ true
unfolding entries_right entry_right
right_wider points K last top few lo [] h r = refl
right_wider points K last top few lo (e ∷ es) h r =
    let k = parts points K last lo e es r in
    let a = all4 (ltb (point_in e.place) points) (leb K (day_in e.place)) (quarter_exists (day_in e.place) (quarter_in e.place)) (stored_right e.stored) k.2 in
    let point = ltb-true (point_in e.place) points a.0 in
    cc (
      lt-ltb lo e.stamp k.0,
      le-leb e.stamp top (omega arith),
      lt-ltb (point_in e.place) 64 (omega arith),
      le-leb 0 (day_in e.place) (omega arith),
      a.2,
      a.3,
      right_wider points K last top few e.stamp es (omega arith) k.3,
    )

-- what the ghost field of a look-up says, with points, day and stamp
pub readable_in : (lookup : Lookup) → Readable (entries_in lookup.entries.now) lookup.asked
readable_in lookup =
    let es = entries_in lookup.entries.now in
    record {
      exists = ∥∥₁_elim lookup.readable (Bool-set _ _) (λ known. known.exists);
      right = record {
        points = 64;
        all = record {
          few = omega arith;
          keptday = 0;
          last = stamps es;
          right =
              ∥∥₁_elim lookup.readable (Bool-set _ _)
              (λ known.
              let right = known.right in
              right_wider right.points right.all.keptday right.all.last (stamps es) right.all.few 0 es (omega arith) right.all.right);
        };
      };
    }

-- so the day that is asked for is one of the calendar, and its quarter is from 1 to 100
pub asked_within : (lookup : Lookup) → (lookup.asked.day ≤ last_day) × (1 ≤ lookup.asked.quarter) × (lookup.asked.quarter ≤ 100)
asked_within lookup =
    let exists = (readable_in lookup).exists in
    let day = exists_day lookup.asked.day lookup.asked.quarter exists in
    let quarter = exists_quarter lookup.asked.day lookup.asked.quarter exists in
    (omega arith, omega arith, omega arith)
