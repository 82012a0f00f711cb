-- What the code's functions promise, for any record, journal, line and buffer. Assumes nothing.
use Rattle.std.specs.Prelude.{ℕ, ◌≡◌, List, length, ltb, Result, Ok, Err}
use Rattle.answers.specs.declared.Refusal.{Refusal}
use Rattle.answers.specs.declared.Refusal.TheVariants.{TooShort}
use Rattle.answers.specs.Numbers.{Verdict}
use Rattle.answers.specs.Order.{refuse◌if◌else◌}
use Rattle.registration.specs.declared.Registration.{Registration}
use Rattle.service.specs.declared.Service.{Service}
use Rattle.service.specs.Record.{fresh_service}
use Rattle.event_calls.specs.Replies.{reply_to}
use Rattle.event_calls.specs.Promises.{answer_most, Replies}
use Rattle.event_text.specs.declared.Opened.{Opened}
use Rattle.event_text.specs.Share.{events_text, opening_of}

-- an input was opened by its registration: a fresh service, and the text from where its events begin
pub record OpenedBy (r : Registration) (input : List ℕ) (opened : Opened) : Type 0 where
  pub service : opened.service ≡ fresh_service r
  pub events : opened.events.now ≡ events_text input

-- what opening gives, by the registration or its refusal
abbrev pub OpensBy : Result Registration Refusal → (input : List ℕ) → Result Opened Refusal → Type 0
OpensBy (Ok r) input (Ok opened) = OpenedBy r input opened
OpensBy (Ok r) input (Err refusal) = ⊥
OpensBy (Err reason) input (Ok opened) = ⊥
OpensBy (Err reason) input (Err refusal) = refusal ≡ reason

-- the opening of an input
abbrev pub Opens : (input : List ℕ) → Result Opened Refusal → Type 0
Opens input = OpensBy (opening_of input) input

-- answering a line is refused by 16 where the buffer may be too short for the answer
unfoldable pub room_verdict : (buffer : List ℕ) → Verdict
room_verdict buffer =
    refuse TooShort if ltb (length buffer) answer_most else
    Ok tt

-- what answering gives, by that verdict: the reply to the line, or a refusal, with nothing altered
abbrev pub AnswersBy : Verdict → Service → (journal line buffer : List ℕ) → Service → (answer : Result ℕ Refusal) → (journal' buffer' : List ℕ) → Type 0
AnswersBy (Ok _) s j line buffer s' (Ok bytes) j' buffer' = Replies (reply_to s j line) buffer s' j' bytes buffer'
AnswersBy (Ok _) s j line buffer s' (Err refusal) j' buffer' = ⊥
AnswersBy (Err reason) s j line buffer s' answer j' buffer' = (answer ≡ Err reason) × (s' ≡ s) × (j' ≡ j) × (buffer' ≡ buffer)

-- the line of an input was answered, or refused with nothing altered
abbrev pub Answers : Service → (journal line buffer : List ℕ) → Service → (answer : Result ℕ Refusal) → (journal' buffer' : List ℕ) → Type 0
Answers s j line buffer = AnswersBy (room_verdict buffer) s j line buffer
