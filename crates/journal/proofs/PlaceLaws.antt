-- A place tells its point, day and quarter. Assumes nothing.
use Prim.Native.Nat.{ℕ, ◌+◌, ◌*◌, ◌/◌, ◌≤◌}
use native.Mathlib.Omega.{arith}
use mathlib.Core.Path.{◌≡◌}
use Rattle.calendar.specs.Dates.{day_count, last_day}
use Rattle.journal.specs.Entries.{place_of, point_in, day_in, quarter_in}

module _ (point day quarter : ℕ) (hd : day ≤ last_day) (hq : 1 ≤ quarter) (hr : quarter ≤ 100) where
  upper : place_of point day quarter / 100 ≡ point * day_count + day
  upper = omega arith

  pub day_in_place : day_in (place_of point day quarter) ≡ day
  day_in_place = rw upper (omega arith)

  pub point_in_place : point_in (place_of point day quarter) ≡ point
  point_in_place = rw upper (omega arith)

  pub quarter_in_place : quarter_in (place_of point day quarter) ≡ quarter
  quarter_in_place = omega arith
