-- In a group whose codes differ each point stands at its own number, so the readings of its code are those of its places. Assumes nothing.
use Prim.Native.Nat.{ℕ}
use mathlib.Core.Path.{◌≡◌, ap}
use mathlib.Core.Bool.{true}
use Rattle.registration.specs.Rules.{points, code_at, status_at, codes_differ}
use Rattle.journal.specs.Entries.{place_of, readings_at}
use Rattle.lookup.specs.Substitutes.{looked_up}
use Rattle.evaluation.specs.Evaluation.{result_from, evaluation_of}
use Rattle.evaluation.specs.Working.{values_in}
use Rattle.evaluation.proofs.Evaluated.{result_same}
use Rattle.group.specs.Group.{Group, readings_of}
use Rattle.points.proofs.Index.{index_own}

-- an evaluation by codes is that by the points' own places
pub evaluation_own : (G : Group) (day quarter T : ℕ) → codes_differ G.registration ≡ true
    → evaluation_of G.registration (readings_of G) day quarter T ≡ result_from G.registration (values_in G.registration G.entries day quarter T)
unfolding evaluation_of
evaluation_own G day quarter T d =
    let r = G.registration in
    result_same r
    (λ point. looked_up (status_at r point) (readings_of G (code_at r point)) day quarter T)
    (values_in r G.entries day quarter T)
    (λ point h. ap (λ (p : ℕ). looked_up (status_at r point) (λ d q. readings_at G.entries (place_of p d q)) day quarter T) (index_own (code_at r) (points r) point d h))
