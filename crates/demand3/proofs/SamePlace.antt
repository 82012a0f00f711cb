-- Two codes, days and quarters have the same place exactly where they are the same. Assumes nothing.
use Prim.Native.Nat.{ℕ, ◌≤◌, ◌<◌}
use mathlib.Core.Path.{◌≡◌, sym, ◌∙◌}
use mathlib.Core.Bool.{◌&&◌, true≢false}
use mathlib.Core.List.{List}
use lib.Dec.{eqb}
use lib.ListN.{length}
use borrow.Author.Tests.{eqb-true, eq-eqb, ne_eqb}
use Rattle.calendar.specs.Dates.{last_day}
use Rattle.lists.proofs.Cases.{by_test}
use Rattle.lists.proofs.Below.{and_left, and_right}
use Rattle.journal.specs.Entries.{place_of}
use Rattle.journal.proofs.PlaceLaws.{point_in_place, day_in_place, quarter_in_place}
use Rattle.points.specs.Points.{index_of}
use Rattle.points.proofs.Index.{index_same}

-- two codes, of which the first is one of the group's, each with its day and quarter
module _ (roll : List ℕ) (b c d q d' q' : ℕ) (hb : index_of b roll < length roll)
    (hd : d ≤ last_day) (hd' : d' ≤ last_day) (hq : 1 ≤ q) (hr : q ≤ 100) (hq' : 1 ≤ q') (hr' : q' ≤ 100) where
  -- their places are the same exactly where code, day and quarter are
  pub same_place : eqb (place_of (index_of b roll) d q) (place_of (index_of c roll) d' q') ≡ eqb b c && eqb d d' && eqb q q'
  same_place =
      by_test (eqb b c && eqb d d' && eqb q q')
      (λ t.
      let two = and_left (eqb b c && eqb d d') (eqb q q') t in
      let a : b ≡ c = eqb-true b c (and_left (eqb b c) (eqb d d') two) in
      let e : d ≡ d' = eqb-true d d' (and_right (eqb b c) (eqb d d') two) in
      let f : q ≡ q' = eqb-true q q' (and_right (eqb b c && eqb d d') (eqb q q') t) in
      eq-eqb (place_of (index_of b roll) d q) (place_of (index_of c roll) d' q') (cc) ∙ sym t)
      (λ t. ne_eqb (place_of (index_of b roll) d q) (place_of (index_of c roll) d' q') (λ e.
      let a : index_of b roll ≡ index_of c roll = cc (point_in_place (index_of b roll) d q hd hq hr, point_in_place (index_of c roll) d' q' hd' hq' hr') in
      let f : d ≡ d' = cc (day_in_place (index_of b roll) d q hd hq hr, day_in_place (index_of c roll) d' q' hd' hq' hr') in
      let g : q ≡ q' = cc (quarter_in_place (index_of b roll) d q hd hq hr, quarter_in_place (index_of c roll) d' q' hd' hq' hr') in
      let k : b ≡ c = index_same b c roll hb a in
      true≢false (cc (eq-eqb b c k, eq-eqb d d' f, eq-eqb q q' g)))
      ∙ sym t)
