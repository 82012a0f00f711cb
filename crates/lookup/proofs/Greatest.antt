-- Where the entries are right, no point's value is above the greatest magnitude of a reading. Assumes nothing.
use Rattle.std.proofs.Common.{◌≡◌, ℕ, ◌≤◌, true, eqb, ltb, leb, List, [], ◌∷◌, leb-true}
use Rattle.std.specs.Prelude.{Option, None, Some}
use Rattle.lists.proofs.Cases.{by_test}
use Rattle.calendar.specs.Quarters.{quarter_exists}
use Rattle.journal.specs.Value.{stored_right}
use Rattle.journal.specs.Order.{Reading, weaker}
use Rattle.journal.specs.Readings.{join, strongest, as_of, shown, value_shown}
use Rattle.journal.specs.declared.Entry.{Entry}
use Rattle.journal.specs.Entries.{point_in, day_in, quarter_in, readings_at}
use Rattle.journal.specs.Damage.{entry_right, entries_right}
use Rattle.journal.proofs.RightEntries.{all4, parts}
use Rattle.values.specs.Values.{magnitude_most}
use Rattle.lookup.specs.Earlier.{Slot, earlier}
use Rattle.lookup.specs.Substitutes.{value_at, looked_up}
use Rattle.lookup.proofs.Means.{Small}
use Rattle.lookup.proofs.Substituted.{from_within}

-- the magnitude of each reading is at most the greatest
abbrev pub AllSmall : List Reading → Type 0
AllSmall [] = Unit {0}
AllSmall (r ∷ rs) = (r.value.magnitude ≤ magnitude_most) × AllSmall rs

-- of two readings one is chosen
join_small : (o p : Option Reading) → Small (value_shown o) → Small (value_shown p) → Small (value_shown (join o p))
join_small None p h k = k
join_small (Some r) None h k = h
join_small (Some r) (Some s) h k = by_test (weaker r s) (λ t. rw t k) (λ t. rw t h)

-- so what is shown is one of them
shown_small : (T : ℕ) (rs : List Reading) → AllSmall rs → Small (value_shown (shown T rs))
unfolding shown
shown_small T [] k = tt
shown_small T (r ∷ rs) k =
    by_test (leb r.stamp T)
    (λ t. rw t (join_small (Some r) (strongest (as_of T rs)) k.0 (shown_small T rs k.1)))
    (λ t. rw t (shown_small T rs k.1))

-- the readings of a place, among entries that are right
pub readings_small : (points K last lo place : ℕ) (es : List Entry) → entries_right points K last lo es ≡ true → AllSmall (readings_at es place)
unfolding entry_right
readings_small points K last lo place [] h = tt
readings_small points K last lo place (e ∷ es) h =
    let k = parts points K last lo e es h in
    let a = all4 (ltb (point_in e.place) points) (leb K (day_in e.place)) (quarter_exists (day_in e.place) (quarter_in e.place)) (stored_right e.stored) k.2 in
    let rest = readings_small points K last e.stamp place es k.3 in
    by_test (eqb e.place place) (λ t. rw t (leb-true e.stored magnitude_most a.3, rest)) (λ t. rw t rest)

-- the value of a quarter hour that need not exist
value_small : (T : ℕ) (readings : ℕ → ℕ → List Reading) → ((day quarter : ℕ) → AllSmall (readings day quarter)) → (o : Option Slot)
    → Small (value_at T readings o)
value_small T readings each None = tt
value_small T readings each (Some slot) = shown_small T (readings slot.day slot.quarter) (each slot.day slot.quarter)

-- so the magnitude of a point is within
pub value_within : (status : ℕ) (readings : ℕ → ℕ → List Reading) (day quarter T : ℕ) → ((day quarter : ℕ) → AllSmall (readings day quarter))
    → (looked_up status readings day quarter T).magnitude ≤ magnitude_most
unfolding looked_up
value_within status readings day quarter T each =
    from_within status (value_shown (shown T (readings day quarter))) (λ n. value_at T readings (earlier n day quarter))
    (shown_small T (readings day quarter) (each day quarter)) (λ n h. value_small T readings each (earlier n day quarter))
