-- The same time of day in an earlier week: wherever a quarter starts alike the first of these is matched; the match by quarter numbers, of which a day and the
-- earlier one have one case always; and where no clock changes it is that of the same number, so that nothing alters. Assumes nothing.
use Rattle.std.proofs.Common.{◌≡◌, ℕ, ◌+◌, ◌-◌, ◌*◌, ◌≤◌, ◌<◌, true, leb, ltb, eqb, List, sym, ap, subst, ◌∙◌, arith, leb-true, leb-false, ltb-true, ltb-false, eqb-true}
use borrow.Author.Tests.{eqb-false}
use Rattle.std.specs.Prelude.{None, Some}
use Rattle.lists.proofs.Cases.{by_test}
use Rattle.calendar.specs.Dates.{last_day}
use Rattle.calendar.specs.Quarters.{quarters_of, quarter_exists}
use Rattle.calendar.specs.Changeovers.{changeover_count, changeover_day}
use Rattle.calendar.proofs.Entries.{entries_apart}
use Rattle.calendar.proofs.Laws.{other_days, short_days_at_even_places, long_days_at_odd_places, exists_day, exists_among}
use Rattle.wall_clock.specs.Starts.{passed_at, start_after, quarter_start, first_in}
use Rattle.wall_clock.proofs.Minutes.{short_early, short_late, long_early, long_late, ordinary_minutes}
use Rattle.wall_clock.proofs.Laws.{starts_are_times, start_is_found}
use Rattle.wall_clock.proofs.Days.{short_before_two, short_missing, short_from_three, long_before_three, long_from_three, ordinary_first, first_by}
use Rattle.journal.specs.Order.{Reading}
use Rattle.lookup.specs.Earlier.{slot_on, earlier}
use Rattle.lookup.specs.Substitutes.{weeks_before, looked_up}
use Rattle.lookup.specs.ByNumber.{same_number, weeks_by_number, looked_up_by_number, NoChangeover, NoneOfFive}
use Rattle.lookup.specs.Laws.{AlikeIsMatched, MatchesNumber, MatchByNumbers, OneHas96, UnchangedLookUp}
use Rattle.lookup.proofs.Earlier.{earlier_found, none_before_day_zero}

-- a day stands in the table of changeover days
record InTable (day : ℕ) : Type 0 where
  place : ℕ
  within : place < changeover_count
  entry : changeover_day place ≡ day

pub alike_is_matched : AlikeIsMatched
alike_is_matched weeks day quarter other h e s =
    let f = start_is_found (day - 7 * weeks) (quarter_start day quarter).minutes other e s in
    record {
      slot = slot_on (day - 7 * weeks) f.quarter;
      found = earlier_found weeks day quarter (Some f.quarter) h f.found;
      first = f.first;
    }

-- ---- by quarter numbers
-- when a quarter starts, on a day with so many quarters
starts_at : (day quarter quarters minutes : ℕ) → quarters_of day ≡ quarters → (start_after quarters (passed_at quarter)).minutes ≡ minutes
    → (quarter_start day quarter).minutes ≡ minutes
starts_at day quarter quarters minutes e s = ap (λ (n : ℕ). (start_after n (passed_at quarter)).minutes) e ∙ s

module _ (weeks day quarter : ℕ) (exists : quarter_exists day quarter ≡ true) (h : 7 * weeks ≤ day) where
  -- the quarter found on the earlier day, by how many quarters that has, is the one of this number
  numbered : (quarters found number : ℕ) → quarters_of (day - 7 * weeks) ≡ quarters → Some found ≡ first_in quarters (quarter_start day quarter).minutes
      → found ≡ number → MatchesNumber weeks day quarter number
  numbered quarters found number b f e =
      earlier_found weeks day quarter (Some number) h (sym (f ∙ first_by (day - 7 * weeks) _ quarters b) ∙ ap Some e)

  -- quarters count from 1
  from_one : 1 ≤ quarter
  from_one = (exists_among day quarter exists).0

  -- in an ordinary week the number that starts then there
  ordinary_week : (number : ℕ) → quarters_of (day - 7 * weeks) ≡ 96 → 1 ≤ number → (quarter_start day quarter).minutes ≡ 15 * (number - 1)
      → MatchesNumber weeks day quarter number
  ordinary_week number b f m =
      let time = starts_are_times day quarter exists in
      numbered 96 _ number b (ordinary_first (quarter_start day quarter).minutes time.1 time.0) (omega arith)

  -- an ordinary day's quarter, by the kind of the earlier day
  module _ (e : quarters_of day ≡ 96) where
    start : (quarter_start day quarter).minutes ≡ 15 * (quarter - 1)
    start = starts_at day quarter 96 (15 * (quarter - 1)) e (ordinary_minutes quarter)

    before_short : quarters_of (day - 7 * weeks) ≡ 92 → quarter ≤ 8 → MatchesNumber weeks day quarter quarter
    before_short b l =
        numbered 92 _ quarter b (short_before_two (quarter_start day quarter).minutes (starts_are_times day quarter exists).1 (omega (arith, start)))
        (omega (arith, start, from_one))

    in_short : quarters_of (day - 7 * weeks) ≡ 92 → 9 ≤ quarter → quarter ≤ 12 → earlier weeks day quarter ≡ None
    in_short b f l =
        earlier_found weeks day quarter None h
        (sym
        (short_missing (quarter_start day quarter).minutes (starts_are_times day quarter exists).1 (omega (arith, start)) (omega (arith, start))
        ∙ first_by (day - 7 * weeks) _ 92 b))

    after_short : quarters_of (day - 7 * weeks) ≡ 92 → 13 ≤ quarter → MatchesNumber weeks day quarter (quarter - 4)
    after_short b f =
        let time = starts_are_times day quarter exists in
        numbered 92 _ (quarter - 4) b (short_from_three (quarter_start day quarter).minutes time.1 (omega (arith, start)) time.0) (omega (arith, start))

    before_long : quarters_of (day - 7 * weeks) ≡ 100 → quarter ≤ 12 → MatchesNumber weeks day quarter quarter
    before_long b l =
        numbered 100 _ quarter b (long_before_three (quarter_start day quarter).minutes (starts_are_times day quarter exists).1 (omega (arith, start)))
        (omega (arith, start, from_one))

    after_long : quarters_of (day - 7 * weeks) ≡ 100 → 13 ≤ quarter → MatchesNumber weeks day quarter (quarter + 4)
    after_long b f =
        let time = starts_are_times day quarter exists in
        numbered 100 _ (quarter + 4) b (long_from_three (quarter_start day quarter).minutes time.1 (omega (arith, start)) time.0) (omega (arith, start))

pub match_by_numbers : MatchByNumbers
match_by_numbers weeks day quarter exists h =
    let week = ordinary_week weeks day quarter exists h in
    let at = starts_at day quarter in
    let from = from_one weeks day quarter exists h in
    record {
      neither = λ e b. week quarter b from (at 96 _ e (ordinary_minutes quarter));
      short = λ e b l. week quarter b from (at 92 _ e (short_early quarter l));
      short_on = λ e b l. week (quarter + 4) b (omega arith) (at 92 _ e (short_late quarter l) ∙ omega arith);
      long = λ e b l. week quarter b from (at 100 _ e (long_early quarter l));
      long_back = λ e b l. week (quarter - 4) b (omega arith) (at 100 _ e (long_late quarter l) ∙ omega arith);
      of_short = before_short weeks day quarter exists h;
      of_short_none = in_short weeks day quarter exists h;
      of_short_back = after_short weeks day quarter exists h;
      of_long = before_long weeks day quarter exists h;
      of_long_on = after_long weeks day quarter exists h;
    }

-- ---- changeover days
-- a day of the calendar that has not 96 quarters stands in the table
stands_in_table : (day : ℕ) → day ≤ last_day → (quarters_of day ≡ 96 → ⊥) → InTable day
stands_in_table day h other =
    by_test (eqb (quarters_of day) 92)
    (λ t. let s = (short_days_at_even_places day).0 (eqb-true (quarters_of day) 92 t) in record { place = s.place; within = s.within; entry = s.entry })
    (λ s.
    by_test (eqb (quarters_of day) 100)
    (λ t. let s = (long_days_at_odd_places day).0 (eqb-true (quarters_of day) 100 t) in record { place = s.place; within = s.within; entry = s.entry })
    (λ l. absurd (other (other_days day h (eqb-false (quarters_of day) 92 s) (eqb-false (quarters_of day) 100 l)))))

pub one_has_96 : OneHas96
one_has_96 weeks day one few h within other =
    by_test (eqb (quarters_of (day - 7 * weeks)) 96)
    (λ t. eqb-true (quarters_of (day - 7 * weeks)) 96 t)
    (λ f.
    let later = stands_in_table day within other in
    let before = stands_in_table (day - 7 * weeks) (omega arith) (eqb-false (quarters_of (day - 7 * weeks)) 96 f) in
    by_test (ltb before.place later.place)
    (λ t. let apart = entries_apart before.place later.place (ltb-true before.place later.place t) later.within in absurd (omega (arith, before.entry, later.entry)))
    (λ u.
    by_test (ltb later.place before.place)
    (λ t. let apart = entries_apart later.place before.place (ltb-true later.place before.place t) before.within in absurd (omega (arith, before.entry, later.entry)))
    (λ v.
    let same : later.place ≡ before.place = omega (arith, ltb-false before.place later.place u, ltb-false later.place before.place v) in
    let days : changeover_day later.place ≡ changeover_day before.place = ap changeover_day same in
    absurd (omega (arith, before.entry, later.entry, days)))))

-- ---- where no clock changes
-- a day of the calendar that does not stand in the table has 96 quarters
ordinary_day : (day : ℕ) → day ≤ last_day → NoChangeover day → quarters_of day ≡ 96
ordinary_day day h n =
    by_test (eqb (quarters_of day) 96)
    (λ t. eqb-true (quarters_of day) 96 t)
    (λ f. let s = stands_in_table day h (eqb-false (quarters_of day) 96 f) in absurd (n s.place s.within s.entry))

-- a quarter hour that exists, where clocks change on none of the five days
module _ (day quarter : ℕ) (exists : quarter_exists day quarter ≡ true) (none_of_five : NoneOfFive day) where
  -- so many weeks before the same time of day has the same number
  week_unchanged : (weeks : ℕ) → weeks ≤ 4 → earlier weeks day quarter ≡ same_number weeks day quarter
  unfolding same_number
  week_unchanged weeks few =
      by_test (leb (7 * weeks) day)
      (λ t.
      let h = leb-true (7 * weeks) day t in
      let d = exists_day day quarter exists in
      let itself : day - 7 * 0 ≡ day = omega arith in
      rw t
      ((match_by_numbers weeks day quarter exists h).neither
      (ordinary_day day d (subst NoChangeover itself (none_of_five 0 (omega arith) (omega arith))))
      (ordinary_day (day - 7 * weeks) (omega arith) (none_of_five weeks few h))))
      (λ f. rw f (none_before_day_zero weeks day quarter (leb-false (7 * weeks) day f)))

  weeks_unchanged : (readings : ℕ → ℕ → List Reading) (T : ℕ) → weeks_before readings day quarter T ≡ weeks_by_number readings day quarter T
  weeks_unchanged readings T =
      rw (week_unchanged 1 (omega arith), week_unchanged 2 (omega arith), week_unchanged 3 (omega arith), week_unchanged 4 (omega arith))

pub unchanged_look_up : UnchangedLookUp
unfolding looked_up looked_up_by_number
unchanged_look_up status readings day quarter T exists none_of_five = rw (weeks_unchanged day quarter exists none_of_five readings T)
