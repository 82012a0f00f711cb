-- A group: its registration, what is kept of it, its entries, and the readings that these are. The last stamp is not the group's own. Assumes nothing.
use Rattle.std.specs.Prelude.{ℕ, List}
use Rattle.values.specs.declared.Measurement.{Measurement}
use Rattle.registration.specs.declared.Registration.{Registration}
use Rattle.journal.specs.Value.{value_of, stored_of}
use Rattle.journal.specs.Order.{Reading}
use Rattle.journal.specs.declared.Entry.{Entry}
use Rattle.journal.specs.Entries.{place_of, readings_at}
use Rattle.points.specs.Points.{codes_of, index_of}

-- registration, kept stamp P, kept day K, the journal's entries, and how many numbers the journal has
pub record Group : Type 0 where
  pub registration : Registration
  pub keptstamp : ℕ
  pub keptday : ℕ
  pub entries : List Entry
  pub room : ℕ

-- the codes by which the group's places are numbered
abbrev pub roll_of : Group → List ℕ
roll_of G = codes_of G.registration

-- the place of a code, day and quarter
abbrev pub place_for : Group → (code day quarter : ℕ) → ℕ
place_for G code day quarter = place_of (index_of code (roll_of G)) day quarter

-- the readings that the journal has for a code, day and quarter
abbrev pub readings_of : Group → (code day quarter : ℕ) → List Reading
readings_of G code day quarter = readings_at G.entries (place_for G code day quarter)

-- the readings that the journal has for the code, day and quarter of a measurement
abbrev pub readings_for : Group → Measurement → List Reading
readings_for G m = readings_of G m.code m.day m.quarter

-- the entry of a measurement that has a stamp
abbrev pub entry_of : Group → (stamp : ℕ) → Measurement → Entry
entry_of G stamp m = record { stamp = stamp; place = place_for G m.code m.day m.quarter; stored = stored_of (value_of m) }
