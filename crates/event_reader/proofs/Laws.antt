-- What lines of events promise: what is written is read back, and what is read is what is written. Assumes nothing.
use Prim.Native.Nat.{ℕ, suc, ◌^◌, ◌<◌}
use mathlib.Core.Path.{◌≡◌, refl, sym, ap, ◌∙◌}
use mathlib.Core.Bool.{Bool, true, false, cond, ◌&&◌}
use mathlib.Core.List.{List, [], ◌∷◌, ◌++◌, append_assoc}
use Rattle.std.specs.Prelude.{Option, None, Some}
use native.Mathlib.Omega.{arith}
use borrow.Author.Tests.{eqb-true}
use lib.Dec.{eqb}
use lib.IntN.{ℤ, nat_abs}
use lib.ListN.{length, get_or, take, drop, length-append, length-drop}
use lib.Seq.{take_at, drop_at, take-add, length-take-le, get_or_at}
use Rattle.values.specs.Values.{is_negative}
use Rattle.columns.specs.Column.{signed_column_of, signed_in}
use Rattle.columns.specs.Fields.{columns_of, numbers_in, fitting}
use Rattle.columns.specs.Laws.{digits}
use Rattle.columns.proofs.Laws.{length_column, length_columns, fitting_length, fields_read_back, fields_written_again, signed_read_back, signed_written_again}
use Rattle.lines.specs.Lines.{line_of, is_framed, line_in}
use Rattle.lines.proofs.Laws.{line_read_back, line_written_again, closed, listing, listed}
use Rattle.lines.proofs.Parts.{framed_length}
use Rattle.lists.proofs.Below.{both}
use Rattle.lists.proofs.Cases.{by_test}
use Rattle.event_reader.specs.declared.Event.{Event}
use Rattle.event_reader.specs.declared.Event.TheVariants.{Submission, Clear, Evaluation}
use Rattle.event_reader.specs.Events.{letter_m, letter_c, letter_e, widths_m, widths_c, widths_e, letter_of, submission_from, submission_in, clear_from, clear_in, evaluation_from, evaluation_in, event_in}
use Rattle.event_reader.specs.Laws.{line_of_event, Fits, EventReadBack, EventWrittenAgain}

-- an M line has 55 bytes between its letter and its LF
module _ (line : List ℕ) where
  -- without its frame it asks for nothing
  unframed : is_framed letter_m 55 line ≡ false → submission_in line ≡ None
  unfolding submission_in
  unframed e = rw e

  -- in its frame it is what its columns say
  framed : is_framed letter_m 55 line ≡ true → submission_in line ≡ submission_from (numbers_in widths_m (drop 1 line)) (signed_in (take 10 (drop 46 line)))
  unfolding submission_in
  framed e = rw e

-- ---- what is written is read back

-- the bytes of an M line after its letter: four columns of numbers, that of the value, LF
module _ (numbers : List ℕ) (value : ℤ) (fits : fitting widths_m numbers ≡ true) where
  abbrev rest : List ℕ
  rest = signed_column_of 10 value ++ (10 ∷ [])

  abbrev bytes : List ℕ
  bytes = columns_of widths_m numbers ++ rest

  length_numbers : length (columns_of widths_m numbers) ≡ 45
  length_numbers = length_columns widths_m numbers (fitting_length widths_m numbers fits)

  length_value : length (signed_column_of 10 value) ≡ 10
  length_value = length_column (is_negative value) 10 (nat_abs value)

  length_bytes : length bytes ≡ 56
  length_bytes = rw (length-append, length_numbers, length-append, length_value) (omega arith)

  after_numbers : drop 45 bytes ≡ rest
  after_numbers = drop_at (columns_of widths_m numbers) rest 45 length_numbers

  last_byte : get_or bytes 55 0 ≡ 10
  last_byte =
      ap (λ (l : List ℕ). get_or l 55 0) (sym (append_assoc (columns_of widths_m numbers) (signed_column_of 10 value) (10 ∷ [])))
      ∙ get_or_at (columns_of widths_m numbers ++ signed_column_of 10 value) 10 [] 0 55 (rw (length-append, length_numbers, length_value))

  frame : is_framed letter_m 55 (letter_m ∷ bytes) ≡ true
  frame = rw (length_bytes, last_byte)

  submission_read : nat_abs value < 10 ^ digits 10 value → submission_in (letter_m ∷ bytes) ≡ submission_from (Some numbers) (Some value)
  submission_read h =
      framed (letter_m ∷ bytes) frame
      ∙ rw (
        fields_read_back widths_m numbers rest fits,
        after_numbers,
        take_at (signed_column_of 10 value) (10 ∷ []) 10 length_value,
        signed_read_back 10 value (omega arith) (omega arith) h,
      )

pub event_read_back : EventReadBack
unfolding event_in clear_in evaluation_in
event_read_back (Submission asked) fits =
    submission_read (asked.clock ∷ asked.code ∷ asked.date ∷ asked.quarter ∷ []) asked.value fits.0 fits.1
event_read_back (Clear asked) fits = ap clear_from (line_read_back letter_c widths_c (asked.date ∷ asked.stamp ∷ []) fits)
event_read_back (Evaluation asked) fits =
    ap evaluation_from (line_read_back letter_e widths_e (asked.date ∷ asked.quarter ∷ asked.until ∷ []) fits)

-- ---- what is read is what is written

-- an event, if it is asked for, has this line, and its numbers fit
abbrev Again : List ℕ → Option Event → Type 0
Again line answer = (event : Event) → answer ≡ Some event → (line_of_event event ≡ line) × Fits event

-- a line that is read as numbers is the line of those numbers one by one, and they fit
line_again : (letter : ℕ) (widths line ns : List ℕ) → line_in letter widths line ≡ Some ns → let ms = listing (λ k. get_or ns k 0) (length widths) in
    (line_of letter widths ms ≡ line) × (fitting widths ms ≡ true)
line_again letter widths line ns e =
    let w = line_written_again letter widths line ns e in
    let all = listed (length widths) ns (sym (fitting_length widths ns w.1)) in
    (ap (line_of letter widths) (sym all) ∙ sym w.0, ap (fitting widths) (sym all) ∙ w.1)

-- an M line that is read as numbers and a value is their line, and they fit
submission_written : (line ns : List ℕ) (value : ℤ) → is_framed letter_m 55 line ≡ true → numbers_in widths_m (drop 1 line) ≡ Some ns
    → signed_in (take 10 (drop 46 line)) ≡ Some value
    → (letter_m ∷ (columns_of widths_m ns ++ (signed_column_of 10 value ++ (10 ∷ []))) ≡ line) × (fitting widths_m ns ≡ true) × (nat_abs value < 10 ^ digits 10 value)
submission_written [] ns value t e v = absurd (omega (arith, framed_length letter_m 55 [] t))
submission_written (byte ∷ bytes) ns value t e v =
    let l : suc (length bytes) ≡ 57 = framed_length letter_m 55 (byte ∷ bytes) t in
    let a = both (eqb (suc (length bytes)) 57 && eqb byte letter_m) (eqb (get_or bytes 55 0) 10) t in
    let first = eqb-true byte letter_m (both (eqb (suc (length bytes)) 57) (eqb byte letter_m) a.0).1 in
    let lf = eqb-true (get_or bytes 55 0) 10 a.1 in
    let f = fields_written_again widths_m bytes ns (omega arith) e in
    let n : length (take 10 (drop 45 bytes)) ≡ 10 = length-take-le 10 (drop 45 bytes) (omega (arith, length-drop 45 bytes)) in
    let g = rw n at (signed_written_again (take 10 (drop 45 bytes)) value v) in
    let numbers = columns_of widths_m ns in
    let whole : numbers ++ (signed_column_of 10 value ++ (10 ∷ [])) ≡ bytes =
    sym (append_assoc numbers (signed_column_of 10 value) (10 ∷ [])) ∙ rw (f.0, g.0, ← take-add 45 10 bytes) (sym (closed bytes 55 (omega arith) lf)) in
    (cc (first, whole), f.1, g.2)

-- nothing is asked for, and the event that is
nothing : (line : List ℕ) → Again line None
nothing line event h = let z : ◌≡◌ {A = ℕ} 0 1 = cc in absurd (omega arith)

just : (line : List ℕ) (event : Event) → (line_of_event event ≡ line) × Fits event → Again line (Some event)
just line event w other h = let e : event ≡ other = cc in rw (← e) w

module _ (line : List ℕ) where
  clear_again : (o : Option (List ℕ)) → line_in letter_c widths_c line ≡ o → Again line (clear_from o)
  clear_again None e = nothing line
  clear_again (Some ns) e = just line _ (line_again letter_c widths_c line ns e)

  evaluation_again : (o : Option (List ℕ)) → line_in letter_e widths_e line ≡ o → Again line (evaluation_from o)
  evaluation_again None e = nothing line
  evaluation_again (Some ns) e = just line _ (line_again letter_e widths_e line ns e)

  submission_again : is_framed letter_m 55 line ≡ true → (o : Option (List ℕ)) (v : Option ℤ) → numbers_in widths_m (drop 1 line) ≡ o
      → signed_in (take 10 (drop 46 line)) ≡ v → Again line (submission_from o v)
  submission_again t None v e q = nothing line
  submission_again t (Some ns) None e q = nothing line
  submission_again t (Some ns) (Some value) e q =
      let w = submission_written line ns value t e q in
      let four = listed 4 ns (sym (fitting_length widths_m ns w.1)) in
      just line _ (
        ap (λ (ms : List ℕ). letter_m ∷ (columns_of widths_m ms ++ (signed_column_of 10 value ++ (10 ∷ [])))) (sym four) ∙ w.0,
        (ap (fitting widths_m) (sym four) ∙ w.1, w.2),
      )

  m_again : Again line (submission_in line)
  m_again =
      by_test (is_framed letter_m 55 line)
      (λ t. rw (framed line t) (submission_again t (numbers_in widths_m (drop 1 line)) (signed_in (take 10 (drop 46 line))) refl refl))
      (λ t. rw (unframed line t) (nothing line))

  c_again : Again line (clear_in line)
  unfolding clear_in
  c_again = clear_again (line_in letter_c widths_c line) refl

  e_again : Again line (evaluation_in line)
  unfolding evaluation_in
  e_again = evaluation_again (line_in letter_e widths_e line) refl

  -- whichever the letter is
  by_letter : (m c e : Bool) → Again line (cond m (submission_in line) (cond c (clear_in line) (cond e (evaluation_in line) None)))
  by_letter true c e = m_again
  by_letter false true e = c_again
  by_letter false false true = e_again
  by_letter false false false = nothing line

pub event_written_again : EventWrittenAgain
unfolding event_in
event_written_again line = by_letter line (eqb (letter_of line) letter_m) (eqb (letter_of line) letter_c) (eqb (letter_of line) letter_e)
