-- Writing the registration of LIST and a damaged one to buffers of bytes 7: answers, bytes written, and the buffer after it. Assumes nothing.
use Prim.Native.Nat.{ℕ}
use Prim.Native.String.{String}
use mathlib.Core.Path.{◌≡◌, refl}
use mathlib.Core.Bool.{Bool, true, ◌&&◌}
use mathlib.Core.List.{List, [], ◌∷◌, ◌++◌}
use lib.Dec.{eqb}
use lib.ListN.{replicate}
use Rattle.std.specs.Result.{result_unwrap_or}
use Rattle.answers.specs.Order.{refuse◌if◌else◌}
use Rattle.answers.specs.Numbers.{answer_of}
use Rattle.columns.specs.Column.{column_of, lead_of, same_bytes}
use Rattle.columns.specs.Fields.{columns_of}
use Rattle.lists.specs.Below.{every, differ, sum_below}
use Rattle.registration.specs.declared.Registration.{Registration}
use Rattle.registration.specs.Code.{is_code, weighted}
use Rattle.registration.specs.Rules.{pairs_right}
use Rattle.registration.specs.Damage.{is_damaged}
use Rattle.registration_text.specs.Lines.{widths_of_pairs, pairs_from}
use Rattle.registration_text.specs.Reader.{with_point}
use Rattle.registration_text.specs.Writer.{text_of, lines_d, lines_o, verdict_of_writing, bytes_written, buffer_after}
use Rattle.registration_text.proofs.Cases.{bytes, g, d1, o1, o2, list, listed}

-- the registration of LIST with status 4 for its producer
damaged : Registration
damaged = with_point listed 0 859182400220162071 4

-- what a row shows, the registration, how many bytes the buffer has, and what writing gives: answer, bytes written, the buffer after it
record Row : Type 0 where
  shows : String
  registration : Registration
  room : ℕ
  answer : ℕ
  written : ℕ
  after : List ℕ

-- a row of the table
row : String → Registration → ℕ → ℕ → ℕ → List ℕ → Row
row shows registration room answer written after =
    record { shows = shows; registration = registration; room = room; answer = answer; written = written; after = after }

-- buffers that are just long enough, longer and too short, of an undamaged registration and of a damaged one
rows : List Row
rows =
    row "an exact buffer" listed 105 0 105 (bytes list) ∷
    row "later bytes stay" listed 108 0 105 (bytes list ++ (7 ∷ 7 ∷ 7 ∷ [])) ∷
    row "one byte too short" listed 104 16 0 (replicate 104 7) ∷
    row "no buffer" listed 0 16 0 [] ∷
    row "damaged, with room enough" damaged 108 15 0 (replicate 108 7) ∷
    row "damaged, and one byte too short: 15 comes before 16" damaged 104 15 0 (replicate 104 7) ∷
    row "damaged, and no buffer" damaged 0 15 0 [] ∷
    []

-- whether writing a row's registration to its buffer gives what the row says
written_right : Row → Bool
written_right r =
    let out = replicate {A = ℕ} r.room 7 in
    let text = text_of r.registration in
    let verdict = verdict_of_writing r.registration out in
    let written = bytes_written r.registration out in
    eqb (answer_of written) r.answer && eqb (result_unwrap_or written 0) r.written && same_bytes (buffer_after verdict text out) r.after

-- each row is right
right : List Row → Bool
right [] = true
right (r ∷ rest) = written_right r && right rest

-- each is answered as its row says, and leaves the buffer that it says
answers : right rows ≡ true
unfolding damaged row rows written_right right bytes g d1 o1 o2 list listed refuse◌if◌else◌ column_of lead_of columns_of every differ sum_below is_code weighted pairs_right is_damaged widths_of_pairs pairs_from with_point text_of lines_d lines_o verdict_of_writing
answers = refl
