-- The table of changeover days: the rule over the whole table, computed, the rule at each entry, and how far apart entries lie. Assumes nothing.
use Prim.Native.Nat.{ℕ, zero, suc, ◌+◌, ◌*◌, ◌/◌, ◌%◌, ◌≤◌, ◌<◌}
use mathlib.Core.Path.{◌≡◌, refl, ap, ◌∙◌}
use mathlib.Core.Bool.{true}
use native.Mathlib.Omega.{arith}
use native.Mathlib.Numerals.{add-one}
use borrow.Author.Tests.{eqb-true, eqb-false, ltb-true}
use lib.Dec.{eqb, ltb}
use lib.ListN.{length}
use Rattle.std.specs.Prelude.{Option, Some, None, is_some}
use Rattle.std.specs.Option.{unwrap_or}
use Rattle.lists.specs.Below.{every}
use Rattle.lists.proofs.Cases.{by_test}
use Rattle.lists.proofs.Below.{and_left, and_right, every_at}
use Rattle.calendar.specs.Civil.{year_length, month_length, days_before_year, days_before_month}
use Rattle.calendar.specs.Dates.{last_day, year_of}
use Rattle.calendar.specs.Quarters.{last_sunday}
use Rattle.calendar.specs.Changeovers.{changeover_count, changeovers, changeover_day, changeover_at, changeover_year, changeover_month, by_last_sundays}
use Rattle.calendar.specs.Laws.{EntriesApart}
use Rattle.calendar.proofs.Places.{in_year}

pub by_rule : by_last_sundays ≡ true
unfolding by_last_sundays every changeovers last_sunday year_length month_length days_before_year days_before_month
by_rule = refl

pub entry_count : length changeovers ≡ changeover_count
unfolding by_last_sundays
entry_count = eqb-true _ _ (and_left _ _ by_rule)

pub entry_is : (place : ℕ) → place < changeover_count → changeover_day place ≡ last_sunday (changeover_year place) (changeover_month place)
unfolding by_last_sundays
entry_is place h =
    let all = and_right (eqb (length changeovers) changeover_count) _ by_rule in
    eqb-true _ _ (every_at (λ k. eqb (changeover_day k) (last_sunday (changeover_year k) (changeover_month k))) changeover_count place all h)

-- what is there exactly at the table's places, and is the entry there, is the entry as a caller gets it
pub given : (found : Option ℕ) (place : ℕ) → is_some found ≡ ltb place changeover_count → unwrap_or found 0 ≡ changeover_day place → found ≡ changeover_at place
unfolding changeover_at
given None place some day = rw (← some)
given (Some x) place some day = rw (← some, ← day)

-- entries that follow one another, by one computed test
next_apart : every (λ place. ltb (changeover_day place + 28) (changeover_day (place + 1))) 151 ≡ true
unfolding every changeovers
next_apart = refl

pub entries_apart : EntriesApart
entries_apart place zero h l = absurd (omega arith)
entries_apart place (suc n) h l =
    let next : changeover_day n + 28 < changeover_day (n + 1) = ltb-true _ _ (every_at _ 151 n next_apart (omega arith)) in
    let same : changeover_day (suc n) ≡ changeover_day (n + 1) = rw (add-one n) in
    by_test (eqb place n)
    (λ t. let here : changeover_day place ≡ changeover_day n = ap changeover_day (eqb-true place n t) in omega arith)
    (λ f. let before = entries_apart place n (omega (arith, eqb-false place n f)) (omega arith) in omega arith)

-- the entry of March (remainder 0) or of October (remainder 1) in the year of a day, by how many years have passed before it
module _ (day passed place remainder : ℕ) (h : day ≤ last_day) (y : 2024 + passed ≡ year_of day) (p : place ≡ 2 * passed + remainder) (r : remainder < 2) where
  pub year_place : place < changeover_count
  year_place = omega (arith, (in_year day h).last)

  pub year_entry : changeover_day place ≡ last_sunday (year_of day) (changeover_month remainder)
  year_entry =
      let half : 2024 + place / 2 ≡ year_of day = omega arith in
      let parity : place % 2 ≡ remainder % 2 = omega arith in
      entry_is place year_place ∙ rw (half, parity)
