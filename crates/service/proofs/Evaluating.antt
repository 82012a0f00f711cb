-- An evaluation leaves record and journal as they were. Assumes nothing.
use Prim.Native.Nat.{ℕ, ◌*◌, ◌≤◌}
use mathlib.Core.Path.{◌≡◌, refl, ap}
use mathlib.Core.List.{List}
use lib.ListN.{length}
use Rattle.answers.specs.Numbers.{Verdict}
use Rattle.std.specs.Prelude.{Ok, Err}
use Rattle.service.specs.declared.Service.{Service}
use Rattle.group.specs.Refusals.{evaluation_verdict}
use Rattle.service.specs.Calls.{evaluated, when_accepted, step}
use Rattle.service.specs.Record.{group_of, with_state, Left, written_back, call_on}
use Rattle.service.specs.Laws.{EvaluationAltersNothing}
use Rattle.service.proofs.Cores.{state_of_lem, written_again, evaluation_asked}

-- record and journal are left as they were
abbrev Same : Service → List ℕ → Left → Type 0
Same s j left = (left.service ≡ s) × (left.journal ≡ j)

module _ (s : Service) (j : List ℕ) (day quarter T : ℕ) (lent : List ℕ) where
  -- the group that record and journal hold is written back as it stands there
  written_back_lem : 3 * s.state.numbers.entries ≤ length j → Same s j (written_back (Ok tt) s j (evaluated s.state.last (group_of s j) day quarter T lent))
  unfolding evaluated
  written_back_lem h = (ap (with_state s) (state_of_lem s j), written_again s j h)

  -- by the verdict: a refused evaluation writes nothing
  either_same : (verdict : Verdict) → (verdict ≡ Ok tt → 3 * s.state.numbers.entries ≤ length j)
      → let after = when_accepted verdict s.state.last (group_of s j) lent (evaluated s.state.last (group_of s j) day quarter T lent) in
      Same s j (written_back after.seen.verdict s j after)
  unfolding evaluated
  either_same (Ok _) h = written_back_lem (h refl)
  either_same (Err refusal) h = (refl, refl)

pub evaluation_alters_nothing : EvaluationAltersNothing
unfolding call_on step
evaluation_alters_nothing s j day quarter T lent =
    either_same s j day quarter T lent (evaluation_verdict s.state.last (group_of s j) day quarter T lent)
    (λ e. (evaluation_asked s j (record { day = day; quarter = quarter; until = T }) lent e).2)
