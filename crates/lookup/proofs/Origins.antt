-- What an origin tells of a point's value, its status and its readings. Assumes nothing.
use Rattle.std.proofs.Common.{◌≡◌, ℕ, ◌≤◌, List, [], ◌∷◌, length, refl, ap, arith, ltb-false, ltb-true}
use Rattle.std.specs.Prelude.{None, Some}
use Rattle.lists.proofs.Cases.{by_test, by_option}
use Rattle.journal.specs.Order.{Reading}
use Rattle.journal.specs.Readings.{shown}
use Rattle.lookup.specs.Substitutes.{mean_value, not_active, weeks_before, looked_up}
use Rattle.lookup.specs.Laws.{shown_in_weeks, OriginTells, OriginsTell}
use Rattle.lookup.proofs.Missing.{weeks_exist}
use Rattle.lookup.proofs.Substituted.{existing_few}

module _ (status : ℕ) (readings : ℕ → ℕ → List Reading) (day quarter T : ℕ) where
  -- at most four weeks show a reading
  four_at_most : length (shown_in_weeks readings day quarter T) ≤ 4
  four_at_most = rw (weeks_exist readings day quarter T) at (existing_few (weeks_before readings day quarter T))

  -- a point with status 0 and no reading, by what the weeks show
  tells_mean : (values : List ℕ) → shown_in_weeks readings day quarter T ≡ values → length values ≤ 4 → shown T (readings day quarter) ≡ None → status ≡ 0
      → OriginTells status readings day quarter T (mean_value values)
  tells_mean [] e few n z =
      record {
        most = omega arith;
        measured = λ o. absurd (omega arith);
        missing = λ o. n;
        active = λ o p. absurd (omega arith);
        weeks = λ o p. absurd (omega arith);
        mean = λ o p. absurd (omega arith);
        inactive = λ o. absurd (omega arith);
        lacking = λ o. (z, omega (arith, ap length e));
        zero = λ o. refl;
      }
  tells_mean (value ∷ values) e few n z =
      record {
        most = omega arith;
        measured = λ o. absurd (omega arith);
        missing = λ o. n;
        active = λ o p. z;
        weeks = λ o p. omega (arith, ap length e);
        mean = λ o p. rw e;
        inactive = λ o. absurd (omega arith);
        lacking = λ o. absurd (omega arith);
        zero = λ o. absurd (omega arith);
      }

  -- a point without a reading, by its status
  tells_missing : shown T (readings day quarter) ≡ None → OriginTells status readings day quarter T (looked_up status readings day quarter T)
  unfolding looked_up
  tells_missing n =
      rw (n, weeks_exist)
      (by_test (not_active status)
      (λ t.
      rw t
      (record {
        most = omega arith;
        measured = λ o. absurd (omega arith);
        missing = λ o. n;
        active = λ o p. absurd (omega arith);
        weeks = λ o p. absurd (omega arith);
        mean = λ o p. absurd (omega arith);
        inactive = λ o. omega (arith, ltb-true 0 status t);
        lacking = λ o. absurd (omega arith);
        zero = λ o. refl;
      }))
      (λ f. rw f (tells_mean (shown_in_weeks readings day quarter T) refl four_at_most n (omega (arith, ltb-false 0 status f)))))

  -- one with a reading
  tells_measured : (reading : Reading) → shown T (readings day quarter) ≡ Some reading
      → OriginTells status readings day quarter T (looked_up status readings day quarter T)
  unfolding looked_up
  tells_measured reading e =
      rw e
      (record {
        most = omega arith;
        measured = λ o. rw e;
        missing = λ o. absurd (omega arith);
        active = λ o p. absurd (omega arith);
        weeks = λ o p. absurd (omega arith);
        mean = λ o p. absurd (omega arith);
        inactive = λ o. absurd (omega arith);
        lacking = λ o. absurd (omega arith);
        zero = λ o. absurd (omega arith);
      })

pub origins_tell : OriginsTell
origins_tell status readings day quarter T =
    by_option (shown T (readings day quarter)) (tells_missing status readings day quarter T) (tells_measured status readings day quarter T)
