-- A reading is in time exactly where its stamp is at most T. Assumes nothing.
use Prim.Native.Nat.{ℕ, ◌≤◌, ◌<◌}
use native.Mathlib.Omega.{arith}
use mathlib.Core.Path.{◌≡◌}
use mathlib.Core.Bool.{true, false}
use borrow.Author.Tests.{leb-true, leb-false}
use Rattle.lists.proofs.Cases.{by_test}
use Rattle.journal.specs.Order.{Reading}
use Rattle.journal.specs.Readings.{in_time}

module _ (T : ℕ) (r : Reading) where
  pub in_time_told : in_time T r ≡ true → r.stamp ≤ T
  in_time_told e = omega (arith, leb-true)

  pub late_told : in_time T r ≡ false → T < r.stamp
  late_told e = omega (arith, leb-false)

  pub within_time : r.stamp ≤ T → in_time T r ≡ true
  within_time h = by_test (in_time T r) (λ t. t) (λ t. absurd (omega (arith, late_told t)))

  pub late : T < r.stamp → in_time T r ≡ false
  late h = by_test (in_time T r) (λ t. absurd (omega (arith, in_time_told t))) (λ t. t)
