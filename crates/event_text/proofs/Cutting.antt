-- A text by its lines: the first and the later ones, the registration in front of the first event, and the events from there on. Assumes nothing.
use Prim.Native.Nat.{ℕ, zero, suc, ◌+◌, ◌-◌, ◌≤◌, ◌<◌}
use mathlib.Core.Path.{◌≡◌, refl, sym, ap, ◌∙◌}
use mathlib.Core.Bool.{true, false, cond}
use mathlib.Core.List.{List, [], ◌∷◌, ◌++◌, append_assoc}
use native.Mathlib.Omega.{arith}
use lib.Dec.{eqb}
use lib.ListN.{length, get_or, take, drop, length-append, length-drop}
use lib.Seq.{take-append_seam, drop-append_seam, drop-append-add}
use Rattle.lists.proofs.Cases.{by_test}
use Rattle.lines.specs.Line.{first_line, after_line}
use Rattle.lines.proofs.Laws.{first_line_nil, first_line_cons, after_line_nil, after_line_cons, lines_join}
use Rattle.event_text.specs.Share.{before, lines_of, is_event, registration_in, events_in, events_text}

-- ---- the clauses of the definitions

pub lines_none : lines_of [] ≡ []
unfolding lines_of
lines_none = refl

lines_cons : (byte : ℕ) (bytes : List ℕ) → lines_of (byte ∷ bytes) ≡ cond (eqb byte 10) ((byte ∷ []) ∷ lines_of bytes) (before byte (lines_of bytes))
unfolding lines_of
lines_cons byte bytes = refl

registration_nil : registration_in [] ≡ []
unfolding registration_in
registration_nil = refl

registration_cons : (line : List ℕ) (lines : List (List ℕ)) → registration_in (line ∷ lines) ≡ cond (is_event line) [] (line ++ registration_in lines)
unfolding registration_in
registration_cons line lines = refl

events_nil : events_in [] ≡ []
unfolding events_in
events_nil = refl

events_cons : (line : List ℕ) (lines : List (List ℕ)) → events_in (line ∷ lines) ≡ cond (is_event line) (line ∷ lines) (events_in lines)
unfolding events_in
events_cons line lines = refl

-- ---- the first line and the later ones

-- one byte more, before the first line or, where it is an LF, as a line of its own
one_more : (byte : ℕ) (bytes : List ℕ) → before byte (lines_of bytes) ≡ (byte ∷ first_line bytes) ∷ lines_of (after_line bytes)
    → lines_of (byte ∷ bytes) ≡ first_line (byte ∷ bytes) ∷ lines_of (after_line (byte ∷ bytes))
one_more byte bytes e = rw (lines_cons, first_line_cons, after_line_cons) (by_test (eqb byte 10) (λ t. rw t) (λ t. rw t e))

-- the lines of a text are its first line, and those of the text after it
pub lines_first : (byte : ℕ) (bytes : List ℕ) → lines_of (byte ∷ bytes) ≡ first_line (byte ∷ bytes) ∷ lines_of (after_line (byte ∷ bytes))
lines_first byte [] = one_more byte [] (rw (lines_none, first_line_nil, after_line_nil, lines_none))
lines_first byte (second ∷ bytes) = one_more byte (second ∷ bytes) (rw (lines_first second bytes))

-- the text after the first line of a text that has a byte is shorter
pub after_shorter : (byte : ℕ) (bytes : List ℕ) → length (after_line (byte ∷ bytes)) ≤ length bytes
after_shorter byte bytes =
    let text = byte ∷ bytes in
    let first = ap length (first_line_cons byte bytes) in
    omega (arith, ap length (lines_join text), first, length-append (first_line text) (after_line text))

-- ---- the registration and the events, by the first line

pub registration_none : registration_in (lines_of []) ≡ []
registration_none = rw (lines_none, registration_nil)

pub events_none : events_in (lines_of []) ≡ []
events_none = rw (lines_none, events_nil)

-- a text that begins with M, C or E has no registration, and all of its lines are events
pub registration_ended : (text : List ℕ) → is_event text ≡ true → registration_in (lines_of text) ≡ []
registration_ended [] e = registration_none
registration_ended (byte ∷ bytes) e = rw (lines_first, registration_cons, first_line_cons, e)

pub events_begun : (text : List ℕ) → is_event text ≡ true → events_in (lines_of text) ≡ lines_of text
events_begun [] e = rw (lines_none, events_nil)
events_begun (byte ∷ bytes) e = rw (lines_first, events_cons, first_line_cons, e)

-- the first line of any other text is the registration's, and no event
pub registration_more : (text : List ℕ) → is_event text ≡ false
    → registration_in (lines_of text) ≡ first_line text ++ registration_in (lines_of (after_line text))
registration_more [] e = rw (first_line_nil, after_line_nil, registration_none)
registration_more (byte ∷ bytes) e = rw (lines_first, registration_cons, first_line_cons, e)

pub events_later : (text : List ℕ) → is_event text ≡ false → events_in (lines_of text) ≡ events_in (lines_of (after_line text))
events_later [] e = rw after_line_nil
events_later (byte ∷ bytes) e = rw (lines_first, events_cons, first_line_cons, e)

-- ---- the text cut where its events begin

-- the part of a text from its first event on
record Cut (text : List ℕ) : Type 0 where
  rest : List ℕ
  joins : registration_in (lines_of text) ++ rest ≡ text
  lines : lines_of rest ≡ events_in (lines_of text)

cut_none : Cut []
cut_none = record { rest = []; joins = rw registration_none; lines = rw (events_none, lines_none) }

-- line by line, for texts of at most n bytes
cut : (n : ℕ) (text : List ℕ) → length text ≤ n → Cut text
cut zero [] h = cut_none
cut zero (byte ∷ bytes) h = absurd (omega arith)
cut (suc n) [] h = cut_none
cut (suc n) (byte ∷ bytes) h =
    let text = byte ∷ bytes in
    by_test (is_event text)
    (λ t. record { rest = text; joins = rw (registration_ended text t); lines = sym (events_begun text t) })
    (λ t.
    let later = cut n (after_line text) (omega (arith, after_shorter byte bytes)) in
    record {
      rest = later.rest;
      joins = rw (registration_more text t, append_assoc, later.joins) (lines_join text);
      lines = later.lines ∙ sym (events_later text t);
    })

module _ (input : List ℕ) where
  parts : Cut input
  parts = cut (length input) input (omega arith)

  -- the registration is the input's first part
  pub registration_taken : take (length (registration_in (lines_of input))) input ≡ registration_in (lines_of input)
  registration_taken =
      let registration = registration_in (lines_of input) in
      ap (take (length registration)) (sym parts.joins) ∙ take-append_seam registration parts.rest

  -- the lines from its end on are the events
  pub events_left : lines_of (events_text input) ≡ events_in (lines_of input)
  events_left =
      let registration = registration_in (lines_of input) in
      ap lines_of (ap (drop (length registration)) (sym parts.joins) ∙ drop-append_seam registration parts.rest) ∙ parts.lines

  -- what is left of the input before the text from the first event on is the registration
  pub registration_before : (events : List ℕ) → events ≡ events_text input → take (length input - length events) input ≡ registration_in (lines_of input)
  registration_before events e =
      let registration = registration_in (lines_of input) in
      let long = ap length parts.joins in
      let front : length input - length events ≡ length registration =
      omega (arith, long, length-append registration parts.rest, ap length e, length-drop (length registration) input) in
      rw front registration_taken

-- ---- the text from the first event on, line by line

pub events_ended : (text : List ℕ) → is_event text ≡ true → text ≡ events_text text
events_ended text e = rw (registration_ended text e)

pub events_after : (text : List ℕ) → is_event text ≡ false → events_text (after_line text) ≡ events_text text
events_after text e =
    let first = first_line text in
    let later = registration_in (lines_of (after_line text)) in
    sym
    (ap (λ (n : ℕ). drop n text) (ap length (registration_more text e) ∙ length-append first later)
    ∙ ap (drop (length first + length later)) (sym (lines_join text))
    ∙ drop-append-add first (after_line text) (length later))

-- a text that has a byte is an event by that byte
pub event_by_byte : (text : List ℕ) (byte : ℕ) → 0 < length text → byte ≡ get_or text 0 0 → is_event text ≡ is_event (byte ∷ [])
event_by_byte [] byte h e = absurd (omega arith)
event_by_byte (first ∷ bytes) byte h e = rw e refl

-- and the text after its first line is shorter
pub shorter : (text : List ℕ) → 0 < length text → length (after_line text) < length text
shorter [] h = absurd (omega arith)
shorter (byte ∷ bytes) h = omega (arith, after_shorter byte bytes)
