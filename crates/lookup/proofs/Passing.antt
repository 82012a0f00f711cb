-- The pass back through a journal, as it stands where i entries are left: what has been met and what is left give the earlier weeks' sum and number.
-- Assumes nothing.
use Rattle.std.proofs.Common.{◌≡◌, ℕ, zero, suc, ◌+◌, ◌-◌, ◌*◌, ◌<◌, ◌≤◌, true, false, ◌&&◌, leb, List, [], ◌∷◌, length, get_or, take, sym, refl, ap, ◌∙◌, true≢false, arith}
use Rattle.std.proofs.lemmas.List.{take_all}
use Rattle.lists.proofs.Cases.{by_test}
use Rattle.lists.proofs.Below.{and_left, and_right}
use Rattle.calendar.specs.Quarters.{quarter_exists}
use Rattle.values.specs.Values.{magnitude_most}
use Rattle.journal.specs.declared.Entry.{Entry}
use Rattle.journal.specs.Stored.{entry_in, entries_in}
use Rattle.journal.specs.Damage.{Right}
use Rattle.lookup.specs.declared.Asked.{Asked}
use Rattle.lookup.specs.declared.weeks.Weeks.{Weeks}
use Rattle.lookup.specs.Mean.{sum_of}
use Rattle.lookup.specs.Substitutes.{existing}
use Rattle.lookup.specs.Working.{earlier_values, first_near, is_near, near_end, is_sought, all_sought, met, passed, Summed}
use Rattle.lookup.proofs.Passed.{entries_next, next_rising, next_bounds}
use Rattle.lookup.proofs.Sought.{values, values_none, Once, count_within, was_sought, still_once, values_passed, gives}
use Rattle.lookup.proofs.Apart.{once_all, near_all, values_all}

-- no values have the sum 0
sum_none : (values : List ℕ) → length values ≡ 0 → sum_of values ≡ 0
unfolding sum_of
sum_none [] h = refl
sum_none (value ∷ values) h = absurd (omega arith)

module _ (xs : List (List ℕ)) (asked : Asked) (point : ℕ) where
  -- the values of the earlier weeks that exist
  abbrev whole : List ℕ
  whole = existing (earlier_values (entries_in xs) asked point)

  -- those of the places still sought, among the entries before number i
  abbrev rest : (i : ℕ) → Weeks → List ℕ
  rest i weeks = existing (values asked.until (entries_in (take i xs)) weeks.places)

  -- what has been met and what is left give the whole; each place is sought once at most, and is near
  pub record Passing (i : ℕ) (weeks : Weeks) : Type 0 where
    pub within : i ≤ length xs
    pub small : weeks.sum ≤ magnitude_most * weeks.count
    pub sums : weeks.sum + sum_of (rest i weeks) ≡ sum_of whole
    pub counts : weeks.count + length (rest i weeks) ≡ length whole
    pub once : (place : ℕ) → Once place weeks.places
    pub near : (place : ℕ) → is_sought place weeks.places ≡ true → is_near (first_near point asked) place ≡ true

  -- there are at most four
  pub few : (i : ℕ) (weeks : Weeks) → Passing i weeks → weeks.count ≤ 4
  few i weeks p = omega (arith, p.counts, count_within (earlier_values (entries_in xs) asked point))

  -- where all four are met nothing is left
  pub passing_met : (i : ℕ) (weeks : Weeks) → Passing i weeks → weeks.count ≡ 4 → Summed whole weeks
  passing_met i weeks p e =
      let most = count_within (earlier_values (entries_in xs) asked point) in
      let none_left = sum_none (rest i weeks) (omega (arith, p.counts, most)) in
      record { sum = omega (arith, p.sums, none_left); count = omega (arith, p.counts, most) }

  -- nor where no entry is left
  pub passing_all : (i : ℕ) (weeks : Weeks) → Passing i weeks → i ≤ 0 → Summed whole weeks
  unfolding existing sum_of
  passing_all i weeks p h =
      let z : i ≡ 0 = omega arith in
      let empty : rest i weeks ≡ [] = rw z (values_none asked.until weeks.places) in
      record { sum = omega (arith, p.sums, ap sum_of empty); count = omega (arith, p.counts, ap length empty) }

  module _ (right : Right (entries_in xs)) where
    -- before the last entry
    pub passing_none : quarter_exists asked.day asked.quarter ≡ true → Passing (length xs) (all_sought point asked)
    passing_none exists =
        let all = values_all asked exists point (entries_in xs) in
        let every = take_all (length xs) xs (omega arith) in
        record {
          within = omega arith;
          small = omega arith;
          sums = rw (every, all) (omega arith);
          counts = rw (every, all) (omega arith);
          once = λ place. once_all asked exists point place;
          near = λ place. near_all asked exists point place;
        }

    module _ (i : ℕ) (weeks : Weeks) (h : i < length xs) (p : Passing (suc i) weeks) where
      -- the entry
      abbrev e : Entry
      e = entry_in (get_or xs i [])

      -- one that is not sought, or is late
      passing_by : is_sought e.place weeks.places && leb e.stamp asked.until ≡ false → Passing i weeks
      passing_by f =
          let same = values_passed asked.until (entries_in (take i xs)) e weeks.places f in
          record {
            within = omega arith;
            small = p.small;
            sums = rw same at (rw (entries_next xs i h) at p.sums);
            counts = rw same at (rw (entries_next xs i h) at p.counts);
            once = p.once;
            near = p.near;
          }

      -- one that is met
      passing_meets : is_sought e.place weeks.places ≡ true → leb e.stamp asked.until ≡ true → Passing i (met e weeks)
      passing_meets is within_time =
          let bounds = next_bounds xs i h right in
          let given = gives asked.until (entries_in (take i xs)) e (next_rising xs i h right) within_time weeks.places is (p.once e.place) in
          record {
            within = omega arith;
            small = omega (arith, p.small, bounds.1);
            sums = omega (arith, rw (entries_next xs i h) at p.sums, given.sum);
            counts = omega (arith, rw (entries_next xs i h) at p.counts, given.count);
            once = λ place. still_once place e.place weeks.places (p.once place);
            near = λ place s. p.near place (was_sought place e.place weeks.places s);
          }

      -- either
      passing_next : Passing i (passed asked.until e weeks)
      unfolding passed
      passing_next =
          by_test (is_sought e.place weeks.places && leb e.stamp asked.until)
          (λ t. rw t (passing_meets (and_left _ _ t) (and_right (is_sought e.place weeks.places) _ t)))
          (λ f. rw f (passing_by f))

      -- one of no near place is not sought
      passing_far : is_near (first_near point asked) e.place ≡ false → Passing i weeks
      passing_far f =
          by_test (is_sought e.place weeks.places)
          (λ s. absurd (true≢false (sym (p.near e.place s) ∙ f)))
          (λ n. passing_by (rw n))

    -- the entries at the end that are of no near place are passed by
    pub passing_near : (i : ℕ) (weeks : Weeks) → Passing i weeks → Passing (near_end (first_near point asked) xs i) weeks
    unfolding near_end
    passing_near zero weeks p = p
    passing_near (suc i) weeks p =
        by_test (is_near (first_near point asked) (entry_in (get_or xs i [])).place)
        (λ t. rw t p)
        (λ f. rw f (passing_near i weeks (passing_far i weeks (omega (arith, p.within)) p f)))

    -- one entry further back, where `end` are left
    pub passing_back : (end : ℕ) (weeks : Weeks) → 0 < end → Passing end weeks → (next : Weeks)
        → next ≡ passed asked.until (entry_in (get_or xs (end - 1) [])) weeks → Passing (end - 1) next
    passing_back end weeks some p next e =
        let last : end ≡ suc (end - 1) = omega arith in
        rw e (passing_next (end - 1) weeks (omega (arith, p.within)) (rw last at p))
