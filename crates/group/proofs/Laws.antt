-- A new stamp rises and is the clock or the last stamp + 1, and the weeks that a mean needs are kept. Assumes nothing.
use Prim.Native.Nat.{ℕ, zero, suc, ◌+◌, ◌≤◌}
use native.Mathlib.Omega.{arith}
use Rattle.group.specs.Refusals.{earliest}
use Rattle.group.specs.Laws.{NextStampRises, NextStampIs, FourWeeksKept}
use Rattle.group.proofs.Admitted.{evaluating}

pub next_stamp_rises : NextStampRises
next_stamp_rises clock last = (omega arith, omega arith)

pub next_stamp_is : NextStampIs
next_stamp_is clock last = (λ h. omega arith, λ h. omega arith)

-- the first day that can be evaluated lies four weeks after the kept day
pub weeks_kept : (K day before : ℕ) → earliest K ≤ day → day ≤ before + 28 → K ≤ before
unfolding earliest
weeks_kept zero day before h l = omega arith
weeks_kept (suc K) day before h l = omega arith

-- and an accepted evaluation is of such a day
pub four_weeks_kept : FourWeeksKept
four_weeks_kept last G day quarter T lent e before l =
    weeks_kept G.keptday day before (evaluating last G day quarter T lent e).not_cleared l
