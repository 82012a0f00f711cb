-- The same time of day in an earlier week is a quarter hour that exists on the day so many weeks before, and so lies within the four weeks before a day.
-- Assumes nothing.
use Rattle.std.proofs.Common.{◌≡◌, ℕ, ◌+◌, ◌-◌, ◌*◌, ◌≤◌, true, leb, arith, leb-true, le-leb}
use borrow.Author.Tests.{lt-leb}
use Rattle.std.specs.Prelude.{Option, None, Some}
use Rattle.std.specs.Option.{option_map}
use Rattle.lists.proofs.Cases.{by_test}
use Rattle.calendar.specs.Dates.{last_day}
use Rattle.calendar.specs.Quarters.{quarter_exists}
use Rattle.calendar.proofs.Laws.{exists_day, exists_quarter}
use Rattle.wall_clock.specs.Starts.{quarter_start, first_at}
use Rattle.wall_clock.proofs.Laws.{found_starts_then}
use Rattle.lookup.specs.Earlier.{week_days, Slot, slot_on, earlier}
use Rattle.lookup.specs.Laws.{MatchedStartsAlike, NoneBeforeDayZero}

-- a quarter hour of a day or of one of the 28 days before it, with a number that a quarter can have
pub record Within (day : ℕ) (slot : Slot) : Type 0 where
  pub before : slot.day ≤ day
  pub near : day ≤ slot.day + 28
  pub from : 1 ≤ slot.quarter
  pub to : slot.quarter ≤ 100

-- a quarter hour of the day so many weeks before a day, with a number that a quarter can have
pub record LiesBefore (weeks day : ℕ) (slot : Slot) : Type 0 where
  pub on : slot.day + week_days * weeks ≡ day
  pub from : 1 ≤ slot.quarter
  pub to : slot.quarter ≤ 100

-- the quarter found by a time is one of a day of the calendar, with a number that a quarter can have
pub first_at_within : (day minutes quarter : ℕ) → first_at day minutes ≡ Some quarter → (day ≤ last_day) × (1 ≤ quarter) × (quarter ≤ 100)
first_at_within day minutes quarter e =
    let exists = (found_starts_then day minutes quarter e).0 in
    let number = exists_quarter day quarter exists in
    (exists_day day quarter exists, number.0, number.1)

-- a quarter hour made of a day and a quarter found is of that day and has that number
slot_is : (day : ℕ) (found : Option ℕ) (slot : Slot) → option_map (slot_on day) found ≡ Some slot → (slot.day ≡ day) × (found ≡ Some slot.quarter)
slot_is day None slot e = let z : ◌≡◌ {A = ℕ} 0 1 = cc in absurd (omega arith)
slot_is day (Some quarter) slot e = (cc, cc)

pub matched_starts_alike : MatchedStartsAlike
unfolding earlier
matched_starts_alike weeks day quarter slot e =
    by_test (leb (week_days * weeks) day)
    (λ t.
    let g : week_days * weeks ≤ day = leb-true (week_days * weeks) day t in
    let before = day - week_days * weeks in
    let m = slot_is before (first_at before (quarter_start day quarter).minutes) slot (rw t at e) in
    let f = found_starts_then before (quarter_start day quarter).minutes slot.quarter m.1 in
    record { on = omega arith; exists = rw m.0 f.0; start = rw m.0 f.1 })
    (λ t. let z : ◌≡◌ {A = ℕ} 0 1 = cc in absurd (omega arith))

-- it is the one that is found on that day
pub earlier_found : (weeks day quarter : ℕ) (found : Option ℕ) → week_days * weeks ≤ day
    → first_at (day - week_days * weeks) (quarter_start day quarter).minutes ≡ found
    → earlier weeks day quarter ≡ option_map (slot_on (day - week_days * weeks)) found
unfolding earlier
earlier_found weeks day quarter found h e = rw (le-leb (week_days * weeks) day h, e)

pub none_before_day_zero : NoneBeforeDayZero
unfolding earlier
none_before_day_zero weeks day quarter h = rw (lt-leb (week_days * weeks) day h)

-- so it lies on the day so many weeks before
pub earlier_lies : (weeks day quarter : ℕ) (slot : Slot) → earlier weeks day quarter ≡ Some slot → LiesBefore weeks day slot
earlier_lies weeks day quarter slot e =
    let m = matched_starts_alike weeks day quarter slot e in
    let k = exists_quarter slot.day slot.quarter m.exists in
    record { on = m.on; from = k.0; to = k.1 }

-- and up to four weeks before within the four weeks
pub earlier_within : (weeks day quarter : ℕ) → weeks ≤ 4 → (slot : Slot) → earlier weeks day quarter ≡ Some slot → Within day slot
earlier_within weeks day quarter few slot e =
    let l = earlier_lies weeks day quarter slot e in
    record { before = omega arith; near = omega arith; from = l.from; to = l.to }

-- a quarter hour that exists lies within its own four weeks
pub itself_within : (day quarter : ℕ) → quarter_exists day quarter ≡ true → Within day (slot_on day quarter)
itself_within day quarter exists =
    let k = exists_quarter day quarter exists in
    record { before = omega arith; near = omega arith; from = k.0; to = k.1 }
