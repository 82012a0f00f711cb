-- What the points' own quarter hour shows, gathered entry by entry. Assumes nothing.
use Rattle.std.proofs.Common.{◌≡◌, ℕ, ◌+◌, ◌*◌, ◌<◌, true, ◌&&◌, eqb, leb, List, [], length, get_or, take, replicate, ◌∙◌, add-one, arith}
use Rattle.std.specs.Prelude.{Option, None}
use lib.ListN.{length-replicate, get_or-replicate}
use Rattle.lists.proofs.Cases.{by_test}
use Rattle.calendar.specs.Quarters.{quarter_exists}
use Rattle.calendar.proofs.Laws.{exists_day, exists_quarter}
use Rattle.journal.specs.Entries.{point_places, place_of}
use Rattle.journal.specs.Stored.{entry_in, entries_in}
use Rattle.journal.specs.Damage.{Right}
use Rattle.journal.proofs.ShownLaws.{shown_nil}
use Rattle.lookup.specs.declared.Asked.{Asked}
use Rattle.lookup.specs.Working.{TakenIn, OwnOf}
use Rattle.lookup.proofs.Passed.{entries_next, next_rising}
use Rattle.lookup.proofs.Newest.{value_then}

module _ (asked : Asked) (exists : quarter_exists asked.day asked.quarter ≡ true) where
  -- the slot of the quarter hour: the place of the first point
  abbrev pub slot_of : ℕ
  slot_of = place_of 0 asked.day asked.quarter

  pub slot_bound : slot_of < point_places
  slot_bound = omega (arith, exists_day asked.day asked.quarter exists, exists_quarter asked.day asked.quarter exists)

  -- the place of any point in it
  slot_place : (point : ℕ) → point_places * point + slot_of ≡ place_of point asked.day asked.quarter
  slot_place point = omega arith

  -- no entry shows nothing
  pub own_none : OwnOf [] asked (replicate 64 None)
  own_none = record { size = length-replicate {A = Option ℕ} 64 None; values = λ point p. rw (get_or-replicate {A = Option ℕ} 64 point None None p, shown_nil) }

  -- one more entry
  pub own_next : (xs : List (List ℕ)) → Right (entries_in xs) → (i : ℕ) → i < length xs → (own after : List (Option ℕ)) → length after ≡ length own
      → OwnOf (entries_in (take i xs)) asked own → TakenIn (entry_in (get_or xs i [])) slot_of asked.until own after
      → OwnOf (entries_in (take (i + 1) xs)) asked after
  own_next xs r i h own after same g taken =
      let e = entry_in (get_or xs i []) in
      rw (add-one i, entries_next xs i h)
      record {
        size = same ∙ g.size;
        values = λ point p.
            let place = place_of point asked.day asked.quarter in
            let then = value_then asked.until (entries_in (take i xs)) e place (next_rising xs i h r place) in
            let number = rw (slot_place point) at (taken point p) in
            by_test (eqb e.place place && leb e.stamp asked.until)
            (λ t. rw (number, then, t))
            (λ f. rw (number, then, f) (g.values point p));
      }
