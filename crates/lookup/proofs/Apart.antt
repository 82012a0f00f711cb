-- The places of a point in the four earlier weeks: no two are the same, all are near, and what is shown there is what the earlier weeks show.
-- Assumes nothing.
use Rattle.std.proofs.Common.{◌≡◌, ℕ, suc, ◌+◌, ◌*◌, ◌<◌, ◌≤◌, true, false, ltb, leb, List, [], ◌∷◌, map, refl, arith, lt-ltb, eqb-true, le-leb}
use mathlib.Core.Bool.{false≢true}
use Rattle.lists.proofs.Cases.{by_test, by_option}
use Rattle.lists.proofs.Below.{and_both, or_neither}
use Rattle.calendar.specs.Quarters.{quarter_exists}
use Rattle.calendar.proofs.Laws.{exists_day}
use Rattle.journal.specs.declared.Entry.{Entry}
use Rattle.journal.specs.Entries.{place_of, day_in}
use Rattle.journal.proofs.PlaceLaws.{day_in_place}
use Rattle.lookup.specs.declared.Asked.{Asked}
use Rattle.lookup.specs.Earlier.{week_days, earlier}
use Rattle.lookup.specs.Substitutes.{value_at, four_weeks}
use Rattle.lookup.specs.Working.{point_readings, earlier_values, nowhere, earlier_place, near_places, first_near, is_near, is_this, is_sought, all_sought}
use Rattle.lookup.proofs.Earlier.{earlier_lies}
use Rattle.lookup.proofs.Sought.{value_sought, values, Once}

-- weeks that rise, from one number of weeks on up to four
abbrev UpToFour : (least : ℕ) → List ℕ → Type 0
UpToFour least [] = Unit {0}
UpToFour least (week ∷ weeks) = (least ≤ week) × (week ≤ 4) × UpToFour (suc week) weeks

-- the four earlier weeks do
four_weeks_lem : UpToFour 1 four_weeks
four_weeks_lem = (omega arith, omega arith, (omega arith, omega arith, (omega arith, omega arith, (omega arith, omega arith, tt))))

module _ (asked : Asked) (exists : quarter_exists asked.day asked.quarter ≡ true) (point : ℕ) where
  -- the first near place is a point's
  pub first_bound : point < 64 → first_near point asked < nowhere
  first_bound h = omega (arith, exists_day asked.day asked.quarter exists)

  module _ (place : ℕ) where
    -- the place of an earlier week tells the week, and is near
    record OfWeek (weeks : ℕ) : Type 0 where
      on : day_in place + week_days * weeks ≡ asked.day
      near : is_near (first_near point asked) place ≡ true

    of_week : (weeks : ℕ) → weeks ≤ 4 → is_this place (earlier_place point asked weeks) ≡ true → OfWeek weeks
    of_week weeks few t =
        by_option (earlier weeks asked.day asked.quarter)
        (λ n. let z : false ≡ true = rw n at t in absurd (false≢true z))
        (λ slot n.
        let l = earlier_lies weeks asked.day asked.quarter slot n in
        let d = exists_day asked.day asked.quarter exists in
        let here : place_of point slot.day slot.quarter ≡ place = eqb-true _ place (rw n at t) in
        record {
          on = rw (← here, day_in_place point slot.day slot.quarter (omega arith) l.from l.to) l.on;
          near =
              and_both (leb (first_near point asked) place) (ltb place (first_near point asked + near_places))
              (le-leb (first_near point asked) place (omega arith)) (lt-ltb place (first_near point asked + near_places) (omega arith));
        })

    -- so a later one of rising weeks has another place
    later_apart : (weeks least : ℕ) (others : List ℕ) → OfWeek weeks → weeks < least → UpToFour least others
        → is_sought place (map (earlier_place point asked) others) ≡ false
    later_apart weeks least [] w l r = refl
    later_apart weeks least (other ∷ others) w l r =
        or_neither _ _
        (by_test (is_this place (earlier_place point asked other))
        (λ t. let v = of_week other r.1 t in absurd (omega arith))
        (λ f. f))
        (later_apart weeks (suc other) others w (omega arith) r.2)

    -- and each place of rising weeks is sought once at most
    once_weeks : (least : ℕ) (weeks : List ℕ) → UpToFour least weeks → Once place (map (earlier_place point asked) weeks)
    once_weeks least [] r = tt
    once_weeks least (week ∷ weeks) r =
        (λ t. later_apart week (suc week) weeks (of_week week r.1 t) (omega arith) r.2, once_weeks (suc week) weeks r.2)

    -- and is near
    near_weeks : (least : ℕ) (weeks : List ℕ) → UpToFour least weeks → is_sought place (map (earlier_place point asked) weeks) ≡ true
        → is_near (first_near point asked) place ≡ true
    near_weeks least [] r t = absurd (false≢true t)
    near_weeks least (week ∷ weeks) r t =
        by_test (is_this place (earlier_place point asked week))
        (λ here. (of_week week r.1 here).near)
        (λ other. near_weeks (suc week) weeks r.2 (rw other at t))

    -- so it is with the four weeks
    pub once_all : Once place (all_sought point asked).places
    once_all = once_weeks 1 four_weeks four_weeks_lem

    pub near_all : is_sought place (all_sought point asked).places ≡ true → is_near (first_near point asked) place ≡ true
    near_all = near_weeks 1 four_weeks four_weeks_lem

  -- what is shown there
  module _ (es : List Entry) where
    value_there : (weeks : ℕ)
        → value_sought asked.until es (earlier_place point asked weeks) ≡ value_at asked.until (point_readings es point) (earlier weeks asked.day asked.quarter)
    value_there weeks = by_option (earlier weeks asked.day asked.quarter) (λ n. rw n) (λ slot n. rw n)

    pub values_all : values asked.until es (all_sought point asked).places ≡ earlier_values es asked point
    values_all = rw (value_there 1, value_there 2, value_there 3, value_there 4)
