-- The starts of a day by the numbers of its quarters. Assumes nothing.
use Prim.Native.Nat.{ℕ, ◌+◌, ◌-◌, ◌*◌, ◌≤◌}
use mathlib.Core.Path.{◌≡◌, ap}
use native.Mathlib.Omega.{arith}
use lib.Dec.{leb}
use borrow.Author.Tests.{lt-ltb, le-ltb, ne_eqb, leb-true, leb-false}
use Rattle.std.specs.Prelude.{Option, Some, None}
use Rattle.lists.proofs.Cases.{by_test}
use Rattle.wall_clock.specs.declared.Letter.{Letter}
use Rattle.wall_clock.specs.declared.Letter.TheVariants.{A, B}
use Rattle.wall_clock.specs.declared.Start.{Start}
use Rattle.wall_clock.specs.Starts.{passed_at, start_with, start_after}

-- the minutes of a start
abbrev pub minutes_of : (quarters quarter : ℕ) → ℕ
minutes_of quarters quarter = (start_after quarters (passed_at quarter)).minutes

-- the same start with its minutes written otherwise
with_minutes : (letter : Option Letter) {a b : ℕ} → a ≡ b → start_with letter a ≡ start_with letter b
with_minutes letter e = ap (start_with letter) e

-- a day on which no clock changes
pub ordinary : (quarters quarter : ℕ) → (quarters ≡ 92 → ⊥) → (quarters ≡ 100 → ⊥) → start_after quarters (passed_at quarter) ≡ start_with None (15 * (quarter - 1))
unfolding start_after
ordinary quarters quarter s l = rw (ne_eqb quarters 92 s, ne_eqb quarters 100 l) (with_minutes None (omega arith))

module _ (quarter : ℕ) where
  -- the day with 92 quarters
  pub short_before : quarter ≤ 8 → start_after 92 (passed_at quarter) ≡ start_with None (15 * (quarter - 1))
  unfolding start_after
  short_before h = rw (lt-ltb (passed_at quarter) 120 (omega arith)) (with_minutes None (omega arith))

  pub short_after : 9 ≤ quarter → start_after 92 (passed_at quarter) ≡ start_with None (15 * (quarter + 3))
  unfolding start_after
  short_after h = rw (le-ltb (passed_at quarter) 120 (omega arith)) (with_minutes None (omega arith))

  -- the day with 100 quarters
  pub long_before : quarter ≤ 8 → start_after 100 (passed_at quarter) ≡ start_with None (15 * (quarter - 1))
  unfolding start_after
  long_before h = rw (lt-ltb (passed_at quarter) 120 (omega arith)) (with_minutes None (omega arith))

  pub long_a : 9 ≤ quarter → quarter ≤ 12 → start_after 100 (passed_at quarter) ≡ start_with (Some A) (15 * (quarter - 1))
  unfolding start_after
  long_a h l =
      rw (le-ltb (passed_at quarter) 120 (omega arith), lt-ltb (passed_at quarter) 180 (omega arith)) (with_minutes (Some A) (omega arith))

  pub long_b : 13 ≤ quarter → quarter ≤ 16 → start_after 100 (passed_at quarter) ≡ start_with (Some B) (15 * (quarter - 5))
  unfolding start_after
  long_b h l =
      rw (le-ltb (passed_at quarter) 120 (omega arith), le-ltb (passed_at quarter) 180 (omega arith), lt-ltb (passed_at quarter) 240 (omega arith))
      (with_minutes (Some B) (omega arith))

  pub long_after : 17 ≤ quarter → start_after 100 (passed_at quarter) ≡ start_with None (15 * (quarter - 5))
  unfolding start_after
  long_after h =
      rw (le-ltb (passed_at quarter) 120 (omega arith), le-ltb (passed_at quarter) 180 (omega arith), le-ltb (passed_at quarter) 240 (omega arith))
      (with_minutes None (omega arith))

  -- in minutes alone: before the missing hour and after it, before the hour's second time and from it on
  pub short_early : quarter ≤ 8 → minutes_of 92 quarter ≡ 15 * (quarter - 1)
  short_early h = ap (λ (s : Start). s.minutes) (short_before h)

  pub short_late : 9 ≤ quarter → minutes_of 92 quarter ≡ 15 * (quarter + 3)
  short_late h = ap (λ (s : Start). s.minutes) (short_after h)

  pub long_early : quarter ≤ 12 → minutes_of 100 quarter ≡ 15 * (quarter - 1)
  long_early h =
      by_test (leb quarter 8)
      (λ t. ap (λ (s : Start). s.minutes) (long_before (leb-true quarter 8 t)))
      (λ f. ap (λ (s : Start). s.minutes) (long_a (leb-false quarter 8 f) h))

  pub long_late : 13 ≤ quarter → minutes_of 100 quarter ≡ 15 * (quarter - 5)
  long_late h =
      by_test (leb quarter 16)
      (λ t. ap (λ (s : Start). s.minutes) (long_b h (leb-true quarter 16 t)))
      (λ f. ap (λ (s : Start). s.minutes) (long_after (leb-false quarter 16 f)))

  pub ordinary_minutes : minutes_of 96 quarter ≡ 15 * (quarter - 1)
  ordinary_minutes = ap (λ (s : Start). s.minutes) (ordinary 96 quarter (λ e. omega arith) (λ e. omega arith))
