-- The first quarter at a time, by the kind of the day: with 92 quarters, with 100, or ordinary. Assumes nothing.
use Prim.Native.Nat.{ℕ, ◌+◌, ◌-◌, ◌/◌, ◌%◌, ◌≤◌, ◌<◌}
use mathlib.Core.Path.{◌≡◌, sym, ap, ◌∙◌}
use native.Mathlib.Omega.{arith}
use lib.Dec.{leb, eqb}
use borrow.Author.Tests.{leb-true, leb-false, eq-eqb, ne_eqb}
use Rattle.lists.proofs.Cases.{by_test}
use Rattle.calendar.specs.Dates.{last_day}
use Rattle.calendar.specs.Quarters.{quarters_of}
use Rattle.calendar.proofs.Laws.{quarters_none, among_exists, other_days}
use Rattle.std.specs.Prelude.{Some, None}
use Rattle.wall_clock.specs.Starts.{first_in, first_at}
use Rattle.wall_clock.proofs.First.{first_is, first_none}
use Rattle.wall_clock.proofs.Minutes.{minutes_of, short_early, short_late, long_early, long_late, ordinary_minutes}
use Rattle.wall_clock.proofs.Laws.{starts_are_times}

-- the quarter that starts then, where all before it start earlier
is_first : (quarters minutes quarter : ℕ) → 1 ≤ quarter → quarter ≤ quarters → minutes_of quarters quarter ≡ minutes
    → ((other : ℕ) → 1 ≤ other → other < quarter → minutes_of quarters other < minutes) → first_in quarters minutes ≡ Some quarter
is_first quarters minutes quarter h l e earlier =
    first_is (λ q. eqb (minutes_of quarters q) minutes) quarters quarter h l (eq-eqb _ _ e)
    (λ other o m. ne_eqb (minutes_of quarters other) minutes (λ same. omega (arith, earlier other o m)))

-- none, where no quarter starts then
is_none : (quarters minutes : ℕ) → ((quarter : ℕ) → 1 ≤ quarter → quarter ≤ quarters → minutes_of quarters quarter ≡ minutes → ⊥) → first_in quarters minutes ≡ None
is_none quarters minutes other =
    first_none (λ q. eqb (minutes_of quarters q) minutes) quarters (λ quarter h l. ne_eqb (minutes_of quarters quarter) minutes (other quarter h l))

module _ (day minutes : ℕ) where
  -- no quarter starts at a time that is none of a quarter's, at one that the clock never shows, nor on a day outside the calendar
  pub none_between : (minutes % 15 ≡ 0 → ⊥) → None ≡ first_at day minutes
  unfolding first_at
  none_between n =
      sym
      (is_none (quarters_of day) minutes
      (λ quarter h l same. n (rw same at (starts_are_times day quarter (among_exists day quarter h l)).1)))

  pub none_after : 1440 ≤ minutes → None ≡ first_at day minutes
  unfolding first_at
  none_after n =
      sym (is_none (quarters_of day) minutes (λ quarter h l same. omega (arith, (starts_are_times day quarter (among_exists day quarter h l)).0)))

  pub none_outside : last_day < day → None ≡ first_at day minutes
  unfolding first_at
  none_outside n = sym (is_none (quarters_of day) minutes (λ quarter h l same. omega (arith, quarters_none day n)))

-- at a time at which a quarter may start, by the kind of the day
module _ (minutes : ℕ) (whole : minutes % 15 ≡ 0) where
  -- the day with 92 quarters
  pub short_before_two : minutes < 120 → Some (minutes / 15 + 1) ≡ first_in 92 minutes
  short_before_two h =
      sym
      (is_first 92 minutes (minutes / 15 + 1) (omega arith) (omega arith) (short_early (minutes / 15 + 1) (omega arith) ∙ omega arith)
      (λ other o l. omega (arith, short_early other (omega arith))))

  pub short_missing : 120 ≤ minutes → minutes < 180 → None ≡ first_in 92 minutes
  short_missing h l =
      sym
      (is_none 92 minutes
      (λ quarter f t same.
      by_test (leb quarter 8)
      (λ b. let k = leb-true quarter 8 b in omega (arith, short_early quarter k))
      (λ b. let k = leb-false quarter 8 b in omega (arith, short_late quarter k))))

  pub short_from_three : 180 ≤ minutes → minutes < 1440 → Some (minutes / 15 + 1 - 4) ≡ first_in 92 minutes
  short_from_three h l =
      sym
      (is_first 92 minutes (minutes / 15 + 1 - 4) (omega arith) (omega arith) (short_late (minutes / 15 + 1 - 4) (omega arith) ∙ omega arith)
      (λ other o m.
      by_test (leb other 8)
      (λ b. let k = leb-true other 8 b in omega (arith, short_early other k))
      (λ b. let k = leb-false other 8 b in omega (arith, short_late other k))))

  -- the day with 100 quarters
  pub long_before_three : minutes < 180 → Some (minutes / 15 + 1) ≡ first_in 100 minutes
  long_before_three h =
      sym
      (is_first 100 minutes (minutes / 15 + 1) (omega arith) (omega arith) (long_early (minutes / 15 + 1) (omega arith) ∙ omega arith)
      (λ other o l. omega (arith, long_early other (omega arith))))

  pub long_from_three : 180 ≤ minutes → minutes < 1440 → Some (minutes / 15 + 1 + 4) ≡ first_in 100 minutes
  long_from_three h l =
      sym
      (is_first 100 minutes (minutes / 15 + 1 + 4) (omega arith) (omega arith) (long_late (minutes / 15 + 1 + 4) (omega arith) ∙ omega arith)
      (λ other o m.
      by_test (leb other 12)
      (λ b. let k = leb-true other 12 b in omega (arith, long_early other k))
      (λ b. let k = leb-false other 12 b in omega (arith, long_late other k))))

  -- an ordinary day
  pub ordinary_first : minutes < 1440 → Some (minutes / 15 + 1) ≡ first_in 96 minutes
  ordinary_first l =
      sym
      (is_first 96 minutes (minutes / 15 + 1) (omega arith) (omega arith) (ordinary_minutes (minutes / 15 + 1) ∙ omega arith)
      (λ other o k. omega (arith, ordinary_minutes other)))

-- the first quarter of a day, by how many it has
pub first_by : (day minutes quarters : ℕ) → quarters_of day ≡ quarters → first_in quarters minutes ≡ first_at day minutes
unfolding first_at
first_by day minutes quarters e = ap (λ (n : ℕ). first_in n minutes) (sym e)

-- on a day of the calendar that has neither 92 quarters nor 100
pub ordinary_at : (day minutes : ℕ) → day ≤ last_day → (quarters_of day ≡ 92 → ⊥) → (quarters_of day ≡ 100 → ⊥) → minutes % 15 ≡ 0 → minutes < 1440
    → first_at day minutes ≡ Some (minutes / 15 + 1)
ordinary_at day minutes within short long whole h = sym (ordinary_first minutes whole h ∙ first_by day minutes 96 (other_days day within short long))
