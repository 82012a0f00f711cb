-- What the wall-clock starts promise: by numbers of quarters, that start and letter tell the quarter, and which quarter is found by a time. Assumes nothing.
use Prim.Native.Nat.{ℕ, ◌≤◌}
use mathlib.Core.Path.{◌≡◌, sym, ap, subst, ◌∙◌}
use native.Mathlib.Omega.{arith}
use lib.Dec.{leb, eqb}
use borrow.Author.Tests.{leb-true, leb-false, eqb-true, eqb-false, eq-eqb}
use Rattle.std.specs.Prelude.{Some}
use Rattle.lists.proofs.Cases.{by_test}
use Rattle.calendar.specs.Dates.{last_day}
use Rattle.calendar.specs.Quarters.{quarters_of}
use Rattle.calendar.proofs.Laws.{other_days, exists_among, among_exists, exists_day}
use Rattle.wall_clock.specs.declared.Start.{Start}
use Rattle.wall_clock.specs.declared.Letter.TheVariants.{A, B}
use Rattle.wall_clock.specs.Starts.{passed_at, start_after, first_at}
use Rattle.wall_clock.specs.Laws.{IsTime, OrdinaryStarts, StartsOfShortDays, StartsOfLongDays, StartsAreTimes, StartsTellQuarters, FoundStartsThen, StartIsFound}
use Rattle.wall_clock.proofs.First.{first_passes, first_found}
use Rattle.wall_clock.proofs.Minutes.{minutes_of, ordinary, short_before, short_after, short_early, short_late, long_before, long_a, long_b, long_after, long_early, long_late, ordinary_minutes}

-- ---- the starts by numbers of quarters
pub ordinary_starts : OrdinaryStarts
ordinary_starts day quarter e = ordinary (quarters_of day) quarter (λ s. omega arith) (λ l. omega arith)

pub starts_of_short_days : StartsOfShortDays
starts_of_short_days day quarter e =
    record { before = λ h. rw e (short_before quarter h); after = λ h. rw e (short_after quarter h) }

pub starts_of_long_days : StartsOfLongDays
starts_of_long_days day quarter e =
    record {
      before = λ h. rw e (long_before quarter h);
      first = λ h l. rw e (long_a quarter h l);
      second = λ h l. rw e (long_b quarter h l);
      after = λ h. rw e (long_after quarter h);
    }

-- ---- times of day
-- a case on how many quarters a day of the calendar has
by_length : (P : ℕ → Type 0) (day : ℕ) → day ≤ last_day → P 92 → P 100 → P 96 → P (quarters_of day)
by_length P day h short long other =
    by_test (eqb (quarters_of day) 92)
    (λ t. subst P (sym (eqb-true (quarters_of day) 92 t)) short)
    (λ s.
    by_test (eqb (quarters_of day) 100)
    (λ t. subst P (sym (eqb-true (quarters_of day) 100 t)) long)
    (λ l. subst P (sym (other_days day h (eqb-false (quarters_of day) 92 s) (eqb-false (quarters_of day) 100 l))) other))

-- each kind of day
short_times : (quarter : ℕ) → 1 ≤ quarter → quarter ≤ 92 → IsTime (minutes_of 92 quarter)
short_times quarter h l =
    by_test (leb quarter 8)
    (λ t. let b = leb-true quarter 8 t in omega (arith, short_early quarter b))
    (λ f. let b = leb-false quarter 8 f in omega (arith, short_late quarter b))

long_times : (quarter : ℕ) → 1 ≤ quarter → quarter ≤ 100 → IsTime (minutes_of 100 quarter)
long_times quarter h l =
    by_test (leb quarter 12)
    (λ t. let b = leb-true quarter 12 t in omega (arith, long_early quarter b))
    (λ f. let b = leb-false quarter 12 f in omega (arith, long_late quarter b))

ordinary_times : (quarter : ℕ) → 1 ≤ quarter → quarter ≤ 96 → IsTime (minutes_of 96 quarter)
ordinary_times quarter h l = omega (arith, ordinary_minutes quarter)

pub starts_are_times : StartsAreTimes
starts_are_times day quarter e =
    by_length (λ (n : ℕ). 1 ≤ quarter → quarter ≤ n → IsTime (minutes_of n quarter)) day (exists_day day quarter e)
    (short_times quarter)
    (long_times quarter)
    (ordinary_times quarter)
    (exists_among day quarter e).0
    (exists_among day quarter e).1

-- ---- start and letter
-- quarters with the same start are the same, on a day with so many
abbrev Tells : (quarters quarter other : ℕ) → Type 0
Tells quarters quarter other = start_after quarters (passed_at quarter) ≡ start_after quarters (passed_at other) → quarter ≡ other

-- a quarter up to the 12th and one from the 13th on never share start and letter
twice_differ : (quarter other : ℕ) → 1 ≤ quarter → quarter ≤ 12 → 13 ≤ other
    → start_after 100 (passed_at quarter) ≡ start_after 100 (passed_at other) → ⊥
twice_differ quarter other h l m e =
    let same : minutes_of 100 quarter ≡ minutes_of 100 other = ap (λ (s : Start). s.minutes) e in
    let first = long_a quarter (omega (arith, long_early quarter l, long_late other m)) l in
    let second = long_b other m (omega (arith, long_early quarter l, long_late other m)) in
    let letters : Some A ≡ Some B = ap (λ (s : Start). s.letter) (sym first ∙ (e ∙ second)) in
    let z : ◌≡◌ {A = ℕ} 0 1 = cc in
    omega arith

module _ (quarter other : ℕ) (h : 1 ≤ quarter) (o : 1 ≤ other) where
  short_tells : Tells 92 quarter other
  short_tells e =
      let same : minutes_of 92 quarter ≡ minutes_of 92 other = ap (λ (s : Start). s.minutes) e in
      by_test (leb quarter 8)
      (λ t.
      let a = leb-true quarter 8 t in
      let q = short_early quarter a in
      by_test (leb other 8)
      (λ u. let b = leb-true other 8 u in omega (arith, short_early other b))
      (λ g. let b = leb-false other 8 g in omega (arith, short_late other b)))
      (λ f.
      let a = leb-false quarter 8 f in
      let q = short_late quarter a in
      by_test (leb other 8)
      (λ u. let b = leb-true other 8 u in omega (arith, short_early other b))
      (λ g. let b = leb-false other 8 g in omega (arith, short_late other b)))

  long_tells : Tells 100 quarter other
  long_tells e =
      let same : minutes_of 100 quarter ≡ minutes_of 100 other = ap (λ (s : Start). s.minutes) e in
      by_test (leb quarter 12)
      (λ t.
      let a = leb-true quarter 12 t in
      by_test (leb other 12)
      (λ u. let b = leb-true other 12 u in omega (arith, long_early quarter a, long_early other b))
      (λ g. absurd (twice_differ quarter other h a (leb-false other 12 g) e)))
      (λ f.
      let a = leb-false quarter 12 f in
      by_test (leb other 12)
      (λ u. absurd (twice_differ other quarter o (leb-true other 12 u) a (sym e)))
      (λ g. let b = leb-false other 12 g in omega (arith, long_late quarter a, long_late other b)))

  ordinary_tells : Tells 96 quarter other
  ordinary_tells e =
      let same : minutes_of 96 quarter ≡ minutes_of 96 other = ap (λ (s : Start). s.minutes) e in
      omega (arith, ordinary_minutes quarter, ordinary_minutes other)

pub starts_tell_quarters : StartsTellQuarters
starts_tell_quarters day quarter other e f =
    let h = exists_among day quarter e in
    let o = exists_among day other f in
    by_length (λ (n : ℕ). Tells n quarter other) day (exists_day day quarter e)
    (short_tells quarter other h.0 o.0)
    (long_tells quarter other h.0 o.0)
    (ordinary_tells quarter other h.0 o.0)

-- ---- the quarter that is found by a time
pub found_starts_then : FoundStartsThen
unfolding first_at
found_starts_then day minutes quarter e =
    let p = first_passes _ (quarters_of day) quarter e in
    (among_exists day quarter p.from p.to, eqb-true _ _ p.passes)

pub start_is_found : StartIsFound
unfolding first_at
start_is_found day minutes quarter e s =
    let h = exists_among day quarter e in
    let f = first_found (λ q. eqb (minutes_of (quarters_of day) q) minutes) (quarters_of day) quarter h.0 h.1 (eq-eqb _ _ s) in
    record { quarter = f.quarter; found = f.found; first = f.first }
