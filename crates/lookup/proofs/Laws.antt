-- What users of a look-up rely on: means are nearest, a reading counts, and what stands in for a missing one. Assumes nothing.
use Rattle.std.proofs.Common.{◌≡◌, ℕ, List, length, ◌∙◌, arith, ltb-false}
use Rattle.std.specs.Prelude.{None}
use Rattle.lists.proofs.Cases.{by_test}
use Rattle.journal.specs.Order.{Reading}
use Rattle.journal.specs.Readings.{shown}
use Rattle.lookup.specs.Mean.{sum_of}
use Rattle.lookup.specs.Substitutes.{mean_value, not_active, looked_up}
use Rattle.lookup.specs.Laws.{MeanIsNearest, shown_in_weeks, ReadingCounts, MissingCountsZero, MissingIsMean, MissingForLack}
use Rattle.lookup.proofs.Nearest.{mean_by, nearest_by_halves}
use Rattle.lookup.proofs.Missing.{weeks_exist}
use Rattle.lookup.proofs.Substituted.{mean_of_none, mean_of_some}

pub mean_is_nearest : MeanIsNearest
mean_is_nearest values h = rw (mean_by values) (nearest_by_halves (sum_of values) (length values) h)

pub reading_counts : ReadingCounts
unfolding looked_up
reading_counts status readings day quarter T reading e = rw e

pub missing_counts_zero : MissingCountsZero
unfolding looked_up
missing_counts_zero status readings day quarter T e h =
    by_test (not_active status) (λ t. rw (e, t)) (λ f. absurd (omega (arith, ltb-false)))

-- with status 0 what is shown in the weeks decides
missing_weeks : (readings : ℕ → ℕ → List Reading) (day quarter T : ℕ) → shown T (readings day quarter) ≡ None
    → looked_up 0 readings day quarter T ≡ mean_value (shown_in_weeks readings day quarter T)
unfolding looked_up
missing_weeks readings day quarter T e = rw (e, weeks_exist)

pub missing_is_mean : MissingIsMean
missing_is_mean readings day quarter T e h =
    let weeks = shown_in_weeks readings day quarter T in
    rw (mean_by weeks) (missing_weeks readings day quarter T e ∙ mean_of_some weeks h)

pub missing_for_lack : MissingForLack
missing_for_lack readings day quarter T e h =
    missing_weeks readings day quarter T e ∙ mean_of_none (shown_in_weeks readings day quarter T) h
