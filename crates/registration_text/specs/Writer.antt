-- Writing a registration's text: 15, 16; the bytes written are returned, later bytes stay, and a refusal alters nothing. Assumes nothing.
use Rattle.std.specs.Prelude.{ℕ, zero, suc, ◌≡◌, List, [], ◌++◌, length, drop, ltb, Result, Ok, Err}
use Rattle.std.specs.Result.{result_and}
use Rattle.answers.specs.declared.Refusal.{Refusal}
use Rattle.answers.specs.declared.Refusal.TheVariants.{Damaged, TooShort}
use Rattle.answers.specs.Numbers.{Verdict}
use Rattle.answers.specs.Order.{refuse◌if◌else◌}
use Rattle.registration.specs.declared.Registration.{Registration}
use Rattle.registration.specs.Damage.{is_damaged}
use Rattle.registration_text.specs.Lines.{line_g, line_d, line_o}

-- the D lines of so many producers from one on
unfoldable pub lines_d : Registration → ℕ → ℕ → List ℕ
lines_d r producer zero = []
lines_d r producer (suc left) = line_d r producer ++ lines_d r (suc producer) left

-- the O lines of so many consumers from one on
unfoldable pub lines_o : Registration → ℕ → ℕ → List ℕ
lines_o r consumer zero = []
lines_o r consumer (suc left) = line_o r consumer ++ lines_o r (suc consumer) left

-- the text of a registration
unfoldable pub text_of : Registration → List ℕ
text_of r = line_g r ++ (lines_d r 0 r.producers ++ lines_o r 0 r.consumers)

-- 15, 16
unfoldable pub verdict_of_writing : Registration → List ℕ → Verdict
verdict_of_writing r out =
    refuse Damaged if is_damaged r else
    refuse TooShort if ltb (length out) (length (text_of r)) else
    Ok tt

-- how many bytes are written of a registration to a buffer, unless it is refused
abbrev pub bytes_written : Registration → List ℕ → Result ℕ Refusal
bytes_written r out = result_and (verdict_of_writing r out) (Ok (length (text_of r)))

-- the text in front, and later bytes as they were; nothing altered where it is refused
abbrev pub buffer_after : Verdict → List ℕ → List ℕ → List ℕ
buffer_after (Ok _) text out = text ++ drop (length text) out
buffer_after (Err refusal) text out = out

-- a registration was written, or refused with nothing altered
pub record Wrote (r : Registration) (before after : List ℕ) (written : Result ℕ Refusal) : Type 0 where
  pub answer : written ≡ bytes_written r before
  pub buffer : after ≡ buffer_after (verdict_of_writing r before) (text_of r) before
