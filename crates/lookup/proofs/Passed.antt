-- The entries that a pass over a journal has passed, and the next one: what is right of all entries is right of these. Assumes nothing.
use Rattle.std.proofs.Common.{◌≡◌, ℕ, suc, ◌*◌, ◌<◌, ◌≤◌, true, ltb, leb, List, [], ◌∷◌, ◌++◌, length, get_or, take, drop, ap, sym, ◌∙◌, refl, take-append-drop, arith, ltb-true, leb-true, lt-ltb, le-leb}
use Rattle.std.proofs.Math.Seq.{take-suc}
use Rattle.lists.proofs.Those.{map_append}
use Rattle.calendar.specs.Quarters.{quarter_exists}
use Rattle.journal.specs.declared.Entry.{Entry}
use Rattle.journal.specs.Value.{stored_right}
use Rattle.journal.specs.Entries.{point_places, point_in, day_in, quarter_in, readings_at}
use Rattle.journal.specs.Stored.{entry_in, entries_in}
use Rattle.journal.specs.Damage.{entry_right, entries_right, Right}
use Rattle.journal.proofs.ShownLaws.{Rising}
use Rattle.journal.proofs.RightEntries.{all4, parts, right_rising}
use Rattle.values.specs.Values.{magnitude_most}

module _ (points K last : ℕ) where
  -- the first of some entries are right where all are
  right_fewer : (lo : ℕ) (es fs : List Entry) → entries_right points K last lo (es ++ fs) ≡ true → entries_right points K last lo es ≡ true
  unfolding entries_right
  right_fewer lo [] fs r = refl
  right_fewer lo (e ∷ es) fs r =
      let k = parts points K last lo e (es ++ fs) r in
      rw (lt-ltb lo e.stamp k.0, le-leb e.stamp last k.1, k.2, right_fewer e.stamp es fs k.3)

  -- and so is the last of some
  right_last : (lo : ℕ) (es : List Entry) (e : Entry) → entries_right points K last lo (es ++ (e ∷ [])) ≡ true → entry_right points K e ≡ true
  right_last lo [] e r = (parts points K last lo e [] r).2
  right_last lo (x ∷ es) e r = right_last x.stamp es e (parts points K last lo x (es ++ (e ∷ [])) r).3

module _ (xs : List (List ℕ)) (i : ℕ) (h : i < length xs) where
  -- one entry more
  pub entries_next : entries_in (take (suc i) xs) ≡ entries_in (take i xs) ++ (entry_in (get_or xs i []) ∷ [])
  entries_next = ap entries_in (take-suc xs i [] h) ∙ map_append entry_in (take i xs) (get_or xs i [] ∷ [])

  module _ (r : Right (entries_in xs)) where
    -- the entries passed and the next one are right
    next_right : entries_right r.points r.all.keptday r.all.last 0 (entries_in (take i xs) ++ (entry_in (get_or xs i []) ∷ [])) ≡ true
    next_right =
        let halves : entries_in xs ≡ entries_in (take (suc i) xs) ++ entries_in (drop (suc i) xs) =
        ap entries_in (sym (take-append-drop (suc i) xs)) ∙ map_append entry_in (take (suc i) xs) (drop (suc i) xs)
        in
        rw (← entries_next) (right_fewer r.points r.all.keptday r.all.last 0 _ (entries_in (drop (suc i) xs)) (rw halves at r.all.right))

    -- the readings of a place among them rise
    pub next_rising : (place : ℕ) → Rising 0 (readings_at (entries_in (take i xs) ++ (entry_in (get_or xs i []) ∷ [])) place)
    next_rising place = right_rising r.points r.all.keptday r.all.last place 0 0 (omega arith) _ next_right

    -- the next one is of one of 64 points, and its number is that of a reading
    pub next_bounds : ((entry_in (get_or xs i [])).place < 64 * point_places) × ((entry_in (get_or xs i [])).stored ≤ magnitude_most)
    unfolding entry_right
    next_bounds =
        let e = entry_in (get_or xs i []) in
        let a = right_last r.points r.all.keptday r.all.last 0 (entries_in (take i xs)) e next_right in
        let k = all4 (ltb (point_in e.place) r.points) (leb r.all.keptday (day_in e.place)) (quarter_exists (day_in e.place) (quarter_in e.place)) (stored_right e.stored) a in
        let p = ltb-true (point_in e.place) r.points k.0 in
        let s = leb-true e.stored magnitude_most k.3 in
        (omega (arith, r.all.few), s)
