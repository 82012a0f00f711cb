-- What lines of events promise, as statements; `proofs/Laws.antt` proves each. Assumes nothing.
use Rattle.std.specs.Prelude.{ℕ, ◌^◌, ◌<◌, ◌≡◌, true, List, [], ◌∷◌, ◌++◌, nat_abs, Some}
use Rattle.columns.specs.Column.{signed_column_of}
use Rattle.columns.specs.Fields.{columns_of, fitting}
use Rattle.columns.specs.Laws.{digits}
use Rattle.lines.specs.Lines.{line_of}
use Rattle.event_reader.specs.declared.Event.{Event}
use Rattle.event_reader.specs.declared.Event.TheVariants.{Submission, Clear, Evaluation}
use Rattle.event_reader.specs.Events.{letter_m, letter_c, letter_e, widths_m, width_of_value, widths_c, widths_e, event_in}

-- the line of an event
abbrev pub line_of_event : Event → List ℕ
line_of_event (Submission asked) =
    letter_m
    ∷ (columns_of widths_m (asked.clock ∷ asked.code ∷ asked.date ∷ asked.quarter ∷ []) ++ (signed_column_of width_of_value asked.value ++ (10 ∷ [])))
line_of_event (Clear asked) = line_of letter_c widths_c (asked.date ∷ asked.stamp ∷ [])
line_of_event (Evaluation asked) = line_of letter_e widths_e (asked.date ∷ asked.quarter ∷ asked.until ∷ [])

-- the numbers of an event fit their columns
abbrev pub Fits : Event → Type 0
Fits (Submission asked) =
    (fitting widths_m (asked.clock ∷ asked.code ∷ asked.date ∷ asked.quarter ∷ []) ≡ true)
    × (nat_abs asked.value < 10 ^ digits width_of_value asked.value)
Fits (Clear asked) = fitting widths_c (asked.date ∷ asked.stamp ∷ []) ≡ true
Fits (Evaluation asked) = fitting widths_e (asked.date ∷ asked.quarter ∷ asked.until ∷ []) ≡ true

-- an event whose numbers fit is read back from its line
abbrev pub EventReadBack : Type 0
EventReadBack = (event : Event) → Fits event → event_in (line_of_event event) ≡ Some event

-- a line that asks for an event is the line of that event, and its numbers fit
abbrev pub EventWrittenAgain : Type 0
EventWrittenAgain = (line : List ℕ) (event : Event) → event_in line ≡ Some event → (line_of_event event ≡ line) × Fits event
