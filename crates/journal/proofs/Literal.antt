-- What is shown, without the fold: a reading among them, in time, to which every other in time gives way. Assumes nothing.
use Prim.Native.Nat.{ℕ, ◌≤◌, ◌<◌}
use mathlib.Core.Path.{◌≡◌}
use mathlib.Core.Bool.{true}
use mathlib.Core.List.Memᴰ
use mathlib.Core.List.{List, Memᴰ}
use Rattle.std.specs.Prelude.{Option, None, Some}
use Rattle.journal.specs.Order.{Reading, weaker}
use Rattle.journal.specs.Readings.{strongest, in_time, as_of, shown}
use Rattle.lists.proofs.Cases.{by_test}
use Rattle.lists.proofs.Those.{those_pass, those_among, among_those}
use Rattle.journal.proofs.InTime.{within_time, in_time_told, late_told}
use Rattle.journal.proofs.Strongest.{FindsStrongest, finds_strongest}

-- ---- m is shown as of T: among the readings, in time, and none in time is stronger; nothing is shown only where none is in time
pub record IsShown (T : ℕ) (rs : List Reading) (m : Reading) : Type 0 where
  pub among : Memᴰ m rs
  pub within_time : m.stamp ≤ T
  pub over : (r : Reading) → Memᴰ r rs → r.stamp ≤ T → weaker r m ≡ true

abbrev pub Tells : ℕ → List Reading → Option Reading → Type 0
Tells T rs None = (r : Reading) → Memᴰ r rs → T < r.stamp
Tells T rs (Some m) = IsShown T rs m

-- the strongest of those in time
tells : (T : ℕ) (rs : List Reading) (o : Option Reading) → FindsStrongest (as_of T rs) o → Tells T rs o
tells T rs None h =
    λ r m. by_test (in_time T r) (λ t. absurd (Memᴰ.not-nil (rw h at (among_those (in_time T) r rs m t)))) (λ t. late_told T r t)
tells T rs (Some s) h =
    record {
      among = those_among (in_time T) s rs h.among;
      within_time = in_time_told T s (those_pass (in_time T) s rs h.among);
      over = λ r m l. h.over r (among_those (in_time T) r rs m (within_time T r l));
    }

pub shown_tells : (T : ℕ) (rs : List Reading) → Tells T rs (shown T rs)
unfolding shown
shown_tells T rs = tells T rs (strongest (as_of T rs)) (finds_strongest (as_of T rs))
