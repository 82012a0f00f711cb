-- The answers to lines are printed from what is seen of their calls, each made as the one before left record and journal. Assumes nothing.
use Prim.Native.Nat.{ℕ}
use mathlib.Core.Path.{◌≡◌, refl, ap, ◌∙◌}
use mathlib.Core.List.{List, [], ◌∷◌, ◌++◌}
use Rattle.std.specs.Prelude.{Option, None, Some}
use Rattle.registration.specs.declared.Registration.{Registration}
use Rattle.service.specs.declared.Service.{Service}
use Rattle.service.specs.Call.{Call, Seen}
use Rattle.service.specs.Record.{call_on}
use Rattle.demand3.specs.Lists.{run}
use Rattle.demand3.specs.Demand3.{look, next}
use Rattle.service.proofs.Laws.{length_stays}
use Rattle.event_reader.specs.declared.Event.{Event}
use Rattle.event_reader.specs.Events.{event_in}
use Rattle.event_calls.specs.Replies.{call_of, refusal_text, reply_with, reply_to}
use Rattle.event_text.specs.Share.{answers_to}
use Rattle.event_text.specs.Laws.{with_call, calls_in, line_text, seen_later, printed}

-- what is seen of calls, from a record and a journal on
abbrev seen_from : Service → (journal : List ℕ) → List Call → List Seen
seen_from s j calls = run look next (record { service = s; journal = j }) calls

module _ (r : Registration) (lines : List (List ℕ))
    (later : (s : Service) (j : List ℕ) → s.registration ≡ r → answers_to s j lines ≡ printed r lines (seen_from s j (calls_in lines)))
    (s : Service) (j : List ℕ) (e : s.registration ≡ r) (event : Option Event) where
  -- one line and the later ones, by the call that it asks for
  one_line : (o : Option Call)
      → (reply_with s j event o).bytes ++ answers_to (reply_with s j event o).service (reply_with s j event o).journal lines
      ≡ line_text r event o (seen_from s j (with_call o (calls_in lines))) ++ printed r lines (seen_later o (seen_from s j (with_call o (calls_in lines))))
  unfolding run
  one_line None = ap (λ (text : List ℕ). refusal_text event ++ text) (later s j e)
  one_line (Some call) =
      let left = call_on s j call in
      rw (later left.service left.journal ((length_stays s j call).1 ∙ e), e)

-- all lines, from any record and journal on
pub printed_from : (r : Registration) (lines : List (List ℕ)) (s : Service) (j : List ℕ) → s.registration ≡ r
    → answers_to s j lines ≡ printed r lines (seen_from s j (calls_in lines))
unfolding answers_to reply_to printed calls_in
printed_from r [] s j e = refl
printed_from r (line ∷ lines) s j e = one_line r lines (printed_from r lines) s j e (event_in line) (call_of (event_in line))
