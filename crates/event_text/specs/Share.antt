-- Program `share`, from the bytes of its input to the bytes of its output. Assumes nothing.
use Rattle.std.specs.Prelude.{ℕ, Bool, cond, ◌||◌, List, [], ◌∷◌, ◌++◌, length, drop, replicate, ltb, eqb, Result, Ok, Err}
use Rattle.answers.specs.declared.Refusal.TheVariants.{NotInColumns}
use Rattle.answers.specs.declared.Refusal.{Refusal}
use Rattle.answers.specs.Numbers.{number_of}
use Rattle.answers.specs.Order.{refuse◌if◌else◌}
use Rattle.registration.specs.declared.Registration.{Registration}
use Rattle.registration_text.specs.Reader.{read_text}
use Rattle.service.specs.declared.Service.{Service}
use Rattle.service.specs.Record.{fresh_service}
use Rattle.event_reader.specs.Events.{letter_m, letter_c, letter_e, letter_of}
use Rattle.event_writer.specs.Answers.{line_a}
use Rattle.event_calls.specs.Replies.{reply_to}

-- ---- the lines of a text

-- a byte before the first of the lines
abbrev pub before : ℕ → List (List ℕ) → List (List ℕ)
before byte [] = (byte ∷ []) ∷ []
before byte (line ∷ lines) = (byte ∷ line) ∷ lines

-- the lines of a text: each reaches up to its LF, the last one, where that is missing, to the text's end
unfoldable pub lines_of : List ℕ → List (List ℕ)
lines_of [] = []
lines_of (byte ∷ bytes) = cond (eqb byte 10) ((byte ∷ []) ∷ lines_of bytes) (before byte (lines_of bytes))

-- a line that begins with M, C or E
abbrev pub is_event : List ℕ → Bool
is_event line = eqb (letter_of line) letter_m || eqb (letter_of line) letter_c || eqb (letter_of line) letter_e

-- the registration: the lines up to the first that begins with M, C or E
unfoldable pub registration_in : List (List ℕ) → List ℕ
registration_in [] = []
registration_in (line ∷ lines) = cond (is_event line) [] (line ++ registration_in lines)

-- the events: that line and all later ones
unfoldable pub events_in : List (List ℕ) → List (List ℕ)
events_in [] = []
events_in (line ∷ lines) = cond (is_event line) (line ∷ lines) (events_in lines)

-- the text from the first event on
abbrev pub events_text : List ℕ → List ℕ
events_text input = drop (length (registration_in (lines_of input))) input

-- ---- the program

-- the most bytes that are read
abbrev pub input_most : ℕ
input_most = 32768

-- the numbers of the journal, which has 1000 entries
abbrev pub journal_numbers : ℕ
journal_numbers = 3000

-- the answers to lines: each gets record and journal as the one before left them
unfoldable pub answers_to : Service → (journal : List ℕ) → List (List ℕ) → List ℕ
answers_to s j [] = []
answers_to s j (line ∷ lines) = (reply_to s j line).bytes ++ answers_to (reply_to s j line).service (reply_to s j line).journal lines

-- the registration of an input, read
abbrev pub registration_of : List ℕ → Result Registration Refusal
registration_of input = read_text (registration_in (lines_of input))

-- the registration for which the events of an input are answered: refused by 1 for too many bytes, then by what the registration is refused for
unfoldable pub opening_of : List ℕ → Result Registration Refusal
opening_of input =
    refuse NotInColumns if ltb input_most (length input) else
    registration_of input

-- a refused registration prints its answer and ends; otherwise the events are answered by a fresh service with an empty journal
abbrev pub share_if : Result Registration Refusal → List ℕ → List ℕ
share_if (Err refusal) input = line_a (number_of refusal) 0
share_if (Ok r) input = answers_to (fresh_service r) (replicate journal_numbers 0) (events_in (lines_of input))

-- what the program writes for what it reads
unfoldable pub share : List ℕ → List ℕ
share input = share_if (opening_of input) input
