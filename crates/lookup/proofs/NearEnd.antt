-- The entries that are left without those at the end that are of no near place: one entry less, and never more than there were. Assumes nothing.
use Rattle.std.proofs.Common.{◌≡◌, ℕ, zero, suc, ◌-◌, ◌<◌, ◌≤◌, true, false, List, [], get_or, refl, not-suc-le-zero, sub-one, arith}
use Rattle.lists.proofs.Cases.{by_test}
use Rattle.journal.specs.Stored.{entry_in}
use Rattle.lookup.specs.Working.{is_near, near_end}

module _ (first : ℕ) (xs : List (List ℕ)) where
  -- no entry
  pub near_none : (end : ℕ) → end ≤ 0 → near_end first xs end ≡ 0
  unfolding near_end
  near_none zero h = refl
  near_none (suc n) h = absurd (not-suc-le-zero h)

  -- the last one is near
  pub near_here : (end : ℕ) → 0 < end → is_near first (entry_in (get_or xs (end - 1) [])).place ≡ true → near_end first xs end ≡ end
  unfolding near_end
  near_here zero h t = absurd (not-suc-le-zero h)
  near_here (suc n) h t = rw (rw sub-one at t)

  -- it is not
  pub near_before : (end : ℕ) → 0 < end → is_near first (entry_in (get_or xs (end - 1) [])).place ≡ false → near_end first xs end ≡ near_end first xs (end - 1)
  unfolding near_end
  near_before zero h f = absurd (not-suc-le-zero h)
  near_before (suc n) h f = rw (rw sub-one at f, sub-one)

  -- there are never more
  pub near_most : (count : ℕ) → near_end first xs count ≤ count
  unfolding near_end
  near_most zero = omega arith
  near_most (suc n) =
      by_test (is_near first (entry_in (get_or xs n [])).place) (λ t. rw t (omega arith)) (λ f. rw f (omega (arith, near_most n)))
