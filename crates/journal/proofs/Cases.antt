-- The newest reading, the reading shown as of a stamp, and what a clear keeps, at given stamps and places, by computation. Assumes nothing.
use Prim.Native.Nat.{ℕ}
use mathlib.Core.Path.{◌≡◌, refl}
use mathlib.Core.List.{List, [], ◌∷◌}
use Rattle.std.specs.Prelude.{None, Some}
use Rattle.journal.specs.Order.{Reading, weaker}
use Rattle.journal.specs.Readings.{strongest, shown}
use Rattle.journal.specs.declared.Entry.{Entry}
use Rattle.journal.specs.Entries.{keep}

-- a reading, by its stamp and its magnitude
abbrev reading : (stamp magnitude : ℕ) → Reading
reading stamp magnitude = record { stamp = stamp; value = record { magnitude = magnitude } }

-- three readings of a place, in the order of their stamps
abbrev three : List Reading
three = reading 5 70 ∷ reading 9 30 ∷ reading 12 50 ∷ []

-- the newest of no readings, of one, of three, and of three that stand in another order
newest : (strongest [] ≡ None)
    × (strongest (reading 5 70 ∷ []) ≡ Some (reading 5 70))
    × (strongest three ≡ Some (reading 12 50))
    × (strongest (reading 5 70 ∷ reading 12 50 ∷ reading 9 30 ∷ []) ≡ Some (reading 12 50))
    × (strongest (reading 12 50 ∷ reading 5 70 ∷ reading 9 30 ∷ []) ≡ Some (reading 12 50))
unfolding weaker
newest = (refl, refl, refl, refl, refl)

-- as of a stamp below all, as of that of each, between two, above all; where the newest one stands first; and where there is none
as_of_lem : (shown 4 three ≡ None)
    × (shown 5 three ≡ Some (reading 5 70))
    × (shown 8 three ≡ Some (reading 5 70))
    × (shown 9 three ≡ Some (reading 9 30))
    × (shown 11 three ≡ Some (reading 9 30))
    × (shown 12 three ≡ Some (reading 12 50))
    × (shown 999999999999 three ≡ Some (reading 12 50))
    × (shown 11 (reading 12 50 ∷ reading 9 30 ∷ reading 5 70 ∷ []) ≡ Some (reading 9 30))
    × (shown 9 [] ≡ None)
unfolding shown weaker
as_of_lem = (refl, refl, refl, refl, refl, refl, refl, refl, refl)

-- an entry, by its stamp, its place and its magnitude
abbrev entry : (stamp place stored : ℕ) → Entry
entry stamp place stored = record { stamp = stamp; place = place; stored = stored }

-- the first quarter of day 100 of the first point: (0 times 27759 + 100) times 100 + 0; its second quarter; the same quarter of the second point; and the last
-- place of day 99
abbrev here : ℕ
here = 10000

abbrev next : ℕ
next = 10001

abbrev other : ℕ
other = 2785900

abbrev before : ℕ
before = 9999

-- a clear with K = 100 and P = 50 of no entry; of one whose day is K and whose stamp is P; of a day below K, whatever the stamp; of two up to P; of two up to P
-- and one above; of none up to P; of one up to P at each of three places; and of all these in turn
clears : (keep 100 50 [] ≡ [])
    × (keep 100 50 (entry 50 here 1 ∷ []) ≡ entry 50 here 1 ∷ [])
    × (keep 100 50 (entry 49 before 1 ∷ entry 50 before 2 ∷ entry 51 before 3 ∷ []) ≡ [])
    × (keep 100 50 (entry 49 here 1 ∷ entry 50 here 2 ∷ []) ≡ entry 50 here 2 ∷ [])
    × (keep 100 50 (entry 40 here 1 ∷ entry 49 here 2 ∷ entry 51 here 3 ∷ []) ≡ entry 49 here 2 ∷ entry 51 here 3 ∷ [])
    × (keep 100 50 (entry 51 here 1 ∷ entry 52 here 2 ∷ []) ≡ entry 51 here 1 ∷ entry 52 here 2 ∷ [])
    × (keep 100 50 (entry 40 here 1 ∷ entry 41 next 2 ∷ entry 42 other 3 ∷ []) ≡ entry 40 here 1 ∷ entry 41 next 2 ∷ entry 42 other 3 ∷ [])
    × (keep 100 50
    (entry 1 here 1 ∷ entry 2 before 2 ∷ entry 3 next 3 ∷ entry 4 here 4 ∷ entry 50 other 5 ∷ entry 51 here 6 ∷ entry 52 before 7 ∷ [])
    ≡ entry 3 next 3 ∷ entry 4 here 4 ∷ entry 50 other 5 ∷ entry 51 here 6 ∷ [])
unfolding shown weaker keep
clears = (refl, refl, refl, refl, refl, refl, refl, refl)

-- with P = 0 every entry with a day of at least K is kept, and with K = 0 too every entry
clears_from_zero : (keep 100 0 (entry 1 here 1 ∷ entry 2 before 2 ∷ entry 3 here 3 ∷ []) ≡ entry 1 here 1 ∷ entry 3 here 3 ∷ [])
    × (keep 0 0 (entry 1 here 1 ∷ entry 2 before 2 ∷ entry 3 here 3 ∷ []) ≡ entry 1 here 1 ∷ entry 2 before 2 ∷ entry 3 here 3 ∷ [])
unfolding shown weaker keep
clears_from_zero = (refl, refl)
