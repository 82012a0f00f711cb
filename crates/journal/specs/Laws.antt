-- What users of the journal rely on, stated of its definitions; the proofs stand in proofs/Laws.antt. Assumes nothing.
use Rattle.std.specs.Prelude.{ℕ, ◌+◌, ◌*◌, ◌≤◌, ◌<◌, ◌≡◌, true, false, ◌↔◌, pos, neg_ℤ, length, get_or, Option, None, Some}
use mathlib.Core.List.{List, [], Memᴰ}
use Rattle.values.specs.declared.Measurement.{Measurement}
use Rattle.calendar.specs.Dates.{last_day}
use Rattle.journal.specs.Value.{Value, value_of}
use Rattle.journal.specs.Order.{Reading}
use Rattle.journal.specs.Readings.{strongest, shown, same_as}
use Rattle.journal.specs.declared.Entry.{Entry}
use Rattle.journal.specs.Entries.{place_of, point_in, day_in, quarter_in, readings_at, keep}
use Rattle.journal.specs.Stored.{entries, written}
use Rattle.journal.specs.Damage.{Right}

-- the magnitude of a measurement is the number that it brings, without its sign
abbrev pub MagnitudeIs : Type 0
MagnitudeIs = (m : Measurement) (n : ℕ) → (m.value ≡ pos n → (value_of m).magnitude ≡ n) × (m.value ≡ neg_ℤ (pos n) → (value_of m).magnitude ≡ n)

-- a value is the same as that of a reading exactly where their magnitudes are equal, and where there is no reading it is not
abbrev pub SameIsSameMagnitude : Type 0
SameIsSameMagnitude =
    ((r : Reading) (value : Value) → (same_as (Some r) value ≡ true) ↔ (r.value.magnitude ≡ value.magnitude))
    × ((value : Value) → same_as None value ≡ false)

-- m is the newest of the readings: one of them, and none of them has a greater stamp
pub record IsGreatest (rs : List Reading) (m : Reading) : Type 0 where
  pub among : Memᴰ m rs
  pub greatest : (r : Reading) → Memᴰ r rs → r.stamp ≤ m.stamp

-- what is found among readings is the newest of them; nothing is found only where there is none
abbrev pub FindsGreatest : List Reading → Option Reading → Type 0
FindsGreatest rs None = rs ≡ []
FindsGreatest rs (Some m) = IsGreatest rs m

-- `strongest` finds it in every list of readings, whatever the order in which they stand
abbrev pub StrongestIsNewest : Type 0
StrongestIsNewest = (rs : List Reading) → FindsGreatest rs (strongest rs)

-- m is the newest of the readings as of T: one of them, with a stamp of at most T, and no other of at most T has a greater one
pub record IsNewest (T : ℕ) (rs : List Reading) (m : Reading) : Type 0 where
  pub among : Memᴰ m rs
  pub within_time : m.stamp ≤ T
  pub greatest : (r : Reading) → Memᴰ r rs → r.stamp ≤ T → r.stamp ≤ m.stamp

-- what is shown as of T is the newest; where nothing is shown every stamp is above T
abbrev pub ShowsNewest : ℕ → List Reading → Option Reading → Type 0
ShowsNewest T rs None = (r : Reading) → Memᴰ r rs → T < r.stamp
ShowsNewest T rs (Some m) = IsNewest T rs m

-- of all readings and every T
abbrev pub ShownIsNewest : Type 0
ShownIsNewest = (T : ℕ) (rs : List Reading) → ShowsNewest T rs (shown T rs)

-- a place tells its point, day and quarter
abbrev pub PlaceTells : Type 0
PlaceTells =
    (point day quarter : ℕ) → day ≤ last_day → 1 ≤ quarter → quarter ≤ 100
    → (point_in (place_of point day quarter) ≡ point) × (day_in (place_of point day quarter) ≡ day) × (quarter_in (place_of point day quarter) ≡ quarter)

-- whatever a clear with K and P drops, each place with a day of at least K goes on to show the same as of every T from P on
abbrev pub KeepShows : Type 0
KeepShows =
    (K P T place : ℕ) (es : List Entry) → Right es → K ≤ day_in place → P ≤ T
    → shown T (readings_at (keep K P es) place) ≡ shown T (readings_at es place)

-- a clear keeps no entry that it could drop: none has a day below K, and of a place none older than the reading shown at P
abbrev pub KeepsNoOlder : Type 0
KeepsNoOlder =
    (K P : ℕ) (es : List Entry) (e : Entry) → Memᴰ e (keep K P es)
    → (K ≤ day_in e.place) × ((r : Reading) → Memᴰ r (readings_at es e.place) → r.stamp ≤ P → r.stamp ≤ e.stamp)

-- what is written is read again
abbrev pub EntriesReadAgain : Type 0
EntriesReadAgain = (es : List Entry) (emptied : ℕ) (j : List ℕ) → entries (length es) (written es emptied j) ≡ es

-- behind the entries written stand the emptied ones, whose numbers are 0; every number behind those is as it was
abbrev pub LaterNumbersStay : Type 0
LaterNumbersStay =
    (es : List Entry) (emptied : ℕ) (j : List ℕ) (place : ℕ)
    → (3 * length es ≤ place → place < 3 * length es + 3 * emptied → get_or (written es emptied j) place 0 ≡ 0)
    × (3 * length es + 3 * emptied ≤ place → get_or (written es emptied j) place 0 ≡ get_or j place 0)
