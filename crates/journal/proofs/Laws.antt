-- What users of the journal rely on. Assumes nothing.
use Prim.Native.Nat.{ℕ, zero, suc}
use mathlib.Core.Path.{◌≡◌, refl, ap}
use mathlib.Core.Bool.{true, false, false≢true}
use mathlib.Core.List.{List}
use Rattle.std.specs.Prelude.{Option, None, Some}
use native.Mathlib.Omega.{arith}
use lib.IntN.{pos, neg_ℤ, nat_abs}
use lib.Dec.{leb, ltb}
use borrow.Author.Tests.{leb-true, ltb-true, eqb-true, eq-eqb}
use Rattle.lists.proofs.Cases.{by_test, by_option}
use Rattle.lists.proofs.Below.{and_left, and_right}
use Rattle.journal.specs.Order.{Reading, weaker}
use Rattle.journal.specs.Readings.{strongest, shown, has_stamp}
use Rattle.journal.specs.Entries.{day_in, readings_at, kept, keep}
use Rattle.journal.specs.Laws.{MagnitudeIs, SameIsSameMagnitude, FindsGreatest, StrongestIsNewest, IsNewest, ShowsNewest, ShownIsNewest, PlaceTells, KeepShows, KeepsNoOlder, EntriesReadAgain, LaterNumbersStay}
use Rattle.lists.proofs.Those.{those_pass}
use Rattle.journal.proofs.Strongest.{FindsStrongest, finds_strongest}
use Rattle.journal.proofs.Literal.{Tells, shown_tells}
use Rattle.journal.proofs.PlaceLaws.{point_in_place, day_in_place, quarter_in_place}
use Rattle.journal.proofs.RightEntries.{right_rising}
use Rattle.journal.proofs.Kept.{shown_keep}
use Rattle.journal.proofs.Stored.{entries_written, emptied_zero, later_stay}

-- a number with a minus before it has the same magnitude
without_minus : (n : ℕ) → nat_abs (neg_ℤ (pos n)) ≡ n
without_minus zero = refl
without_minus (suc n) = refl

pub magnitude_is : MagnitudeIs
magnitude_is m n = (λ e. omega (arith, ap nat_abs e), λ e. omega (arith, ap nat_abs e, without_minus n))

pub same_is_same_magnitude : SameIsSameMagnitude
same_is_same_magnitude = (λ r value. (λ e. omega (arith, eqb-true), λ e. omega (arith, eq-eqb)), λ value. refl)

-- a reading gives way only to one with a stamp at least as great
greatest_told : (rs : List Reading) (o : Option Reading) → FindsStrongest rs o → FindsGreatest rs o
unfolding weaker
greatest_told rs None h = h
greatest_told rs (Some m) h = record { among = h.among; greatest = λ r a. leb-true r.stamp m.stamp (h.over r a) }

pub strongest_is_newest : StrongestIsNewest
strongest_is_newest rs = greatest_told rs (strongest rs) (finds_strongest rs)

-- the same of those in time
newest_told : (T : ℕ) (rs : List Reading) (o : Option Reading) → Tells T rs o → ShowsNewest T rs o
unfolding weaker
newest_told T rs None h = h
newest_told T rs (Some m) h =
    record { among = h.among; within_time = h.within_time; greatest = λ r a l. leb-true r.stamp m.stamp (h.over r a l) }

pub shown_is_newest : ShownIsNewest
shown_is_newest T rs = newest_told T rs (shown T rs) (shown_tells T rs)

pub place_tells : PlaceTells
place_tells point day quarter d q l = (point_in_place point day quarter d q l, day_in_place point day quarter d q l, quarter_in_place point day quarter d q l)

pub keep_shows : KeepShows
keep_shows K P T place es r k l =
    shown_keep K P T place es k l (right_rising r.points r.all.keptday r.all.last place 0 0 (omega arith) es r.all.right)

pub keeps_no_older : KeepsNoOlder
unfolding keep
keeps_no_older K P es e m =
    let rs = readings_at es e.place in
    let day = leb K (day_in e.place) in
    let t : kept K P es e ≡ true = those_pass (kept K P es) e es m in
    let u = and_right day _ t in (
      leb-true K (day_in e.place) (and_left day _ t),
      λ r a l.
          by_test (ltb P e.stamp)
          (λ h. omega (arith, ltb-true P e.stamp h))
          (λ h. by_test (has_stamp (shown P rs) e.stamp)
          (λ k. by_option (shown P rs)
          (λ n. let z : false ≡ true = rw n at k in absurd (false≢true z))
          (λ s n.
          let newest : IsNewest P rs s = rw n at (shown_is_newest P rs) in
          let same : s.stamp ≡ e.stamp = eqb-true s.stamp e.stamp (rw n at k) in
          omega (arith, newest.greatest r a l)))
          (λ k. let z : false ≡ true = cc in absurd (false≢true z))),
    )

pub entries_read_again : EntriesReadAgain
entries_read_again es emptied j = entries_written es emptied j

pub later_numbers_stay : LaterNumbersStay
later_numbers_stay es emptied j place = (emptied_zero es emptied j place, later_stay es emptied j place)
