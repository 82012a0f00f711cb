-- What is allocated from the values looked up, and their origins, are the result of the readings, and so is what is put into the result list. Assumes nothing.
use Prim.Native.Nat.{ℕ, ◌≤◌, ◌<◌}
use mathlib.Core.Path.{◌≡◌, ap, ◌∙◌}
use mathlib.Core.List.{List}
use native.Mathlib.Omega.{arith}
use lib.ListN.{length, get_or, take}
use lib.Seq.{get_or-take, length-take-le}
use Rattle.lists.specs.Place.{placed}
use Rattle.lists.proofs.TableLaws.{table_same}
use Rattle.registration.specs.declared.Registration.{Registration}
use Rattle.registration.specs.Rules.{points, status_at}
use Rattle.journal.specs.declared.Entry.{Entry}
use Rattle.journal.specs.Entries.{place_of}
use Rattle.journal.specs.Damage.{Right}
use Rattle.allocation.specs.Input.{Magnitudes}
use Rattle.allocation.specs.declared.Allocated.{Allocated}
use Rattle.allocation.specs.Result.{allocation_of}
use Rattle.allocation.specs.Working.{allocation_in}
use Rattle.allocation.proofs.Laws.{allocation_same}
use Rattle.lookup.specs.declared.Asked.{Asked}
use Rattle.lookup.specs.declared.PointValue.{PointValue}
use Rattle.lookup.specs.Substitutes.{number_of_origin, zero_for_lack}
use Rattle.lookup.specs.Working.{point_readings, value_of_point, AllOf}
use Rattle.lookup.proofs.Greatest.{readings_small, value_within}
use Rattle.evaluation.specs.Evaluation.{Result, result_from}
use Rattle.evaluation.specs.Layout.{result_of, ResultPut}
use Rattle.evaluation.specs.Working.{values_in, origins_of, result_in}
use Rattle.evaluation.proofs.Parts.{origins_table}

-- results of values that agree at each point
pub result_same : (r : Registration) (f g : ℕ → PointValue) → ((point : ℕ) → point < points r → f point ≡ g point) → result_from r f ≡ result_from r g
unfolding result_from
result_same r f g same =
    rw (
      allocation_same r (λ point. (f point).magnitude) (λ point. (g point).magnitude) (λ point h. ap (λ (v : PointValue). v.magnitude) (same point h)),
      table_same (λ point. number_of_origin (f point).origin) (λ point. number_of_origin (g point).origin) (points r) (λ point h. ap (λ (v : PointValue). number_of_origin v.origin) (same point h)),
    )

module _ (r : Registration) {es : List Entry} {asked : Asked} (all : List PointValue) (size : length all ≡ 64) (few : points r ≤ 64)
    (a : AllOf es asked (take (points r) r.statuses) all) (statuses : length r.statuses ≡ 64) where
  -- each value is that of the point's own status
  each_value : (point : ℕ) → point < points r → value_of_point all point ≡ values_in r es asked.day asked.quarter asked.until point
  each_value point h =
      let known : length (take (points r) r.statuses) ≡ points r = length-take-le (points r) r.statuses (omega arith) in
      a.each point (omega arith) ∙ rw (get_or-take (points r) r.statuses point 0 h)

  -- the magnitudes are within what `allocate` requires
  module _ (magnitudes : List ℕ) (e : (point : ℕ) → point < 64 → get_or magnitudes point 0 ≡ (value_of_point all point).magnitude) where
    pub all_within : Right es → Magnitudes r (λ point. get_or magnitudes point 0)
    all_within right point h =
        rw (e point (omega arith), each_value point h)
        (value_within (status_at r point) (point_readings es point) asked.day asked.quarter asked.until
        (λ day quarter. readings_small right.points right.all.keptday right.all.last 0 (place_of point day quarter) es right.all.right))

    -- what it has allocated, and the origins, are the result of the readings, and are put
    pub evaluated : {before after : List ℕ} (allocated : Allocated)
        → allocation_in r allocated ≡ allocation_of r (λ point. get_or magnitudes point 0)
        → after ≡ placed 0 (result_of (result_in r allocated (origins_of (take (points r) all)))) before
        → ResultPut (result_from r (values_in r es asked.day asked.quarter asked.until)) before after allocated.rounds
    unfolding result_from
    evaluated {before} allocated done put =
        let magnitudes_same = allocation_same r (λ point. get_or magnitudes point 0) (λ point. (value_of_point all point).magnitude) (λ point h. e point (omega arith)) in
        let held : result_in r allocated (origins_of (take (points r) all)) ≡ result_from r (value_of_point all) =
        rw (done, magnitudes_same, origins_table all zero_for_lack (points r) (omega arith)) in
        let same = held ∙ result_same r _ _ each_value in
        record {
          rounds = ap (λ (x : Result). x.allocation.rounds) same;
          list = put ∙ ap (λ (x : Result). placed 0 (result_of x) before) same;
        }
