-- What is shown at a place once one more entry has come, which is the newest. Assumes nothing.
use Rattle.std.proofs.Common.{◌≡◌, ℕ, cond, ◌&&◌, eqb, leb, List, [], ◌∷◌, ◌++◌}
use Rattle.std.specs.Prelude.{Option, Some}
use Rattle.lists.proofs.Cases.{by_test}
use Rattle.journal.specs.Value.{Value, value_in}
use Rattle.journal.specs.Readings.{shown, value_shown}
use Rattle.journal.specs.declared.Entry.{Entry}
use Rattle.journal.specs.Entries.{readings_at}
use Rattle.journal.proofs.ShownLaws.{Rising}
use Rattle.journal.proofs.Back.{last_shows, last_misses}

-- the value shown at a place
abbrev pub value_shown_at : (T : ℕ) → List Entry → (place : ℕ) → Option Value
value_shown_at T es place = value_shown (shown T (readings_at es place))

-- with one more entry
module _ (T : ℕ) (es : List Entry) (e : Entry) (place : ℕ) where
  pub value_then : Rising 0 (readings_at (es ++ (e ∷ [])) place)
      → value_shown_at T (es ++ (e ∷ [])) place
      ≡ cond (eqb e.place place && leb e.stamp T) (Some (value_in e.stored)) (value_shown_at T es place)
  value_then rising =
      by_test (eqb e.place place && leb e.stamp T)
      (λ t. rw (last_shows T place es e rising t, t))
      (λ f. rw (last_misses T place es e f, f))
