-- The lines of a text: the first one byte by byte, what joins to the text, and bytes without an LF. Assumes nothing.
use Prim.Native.Nat.{ℕ, zero, suc, ◌+◌, ◌-◌, ◌/◌, ◌%◌, ◌≤◌}
use mathlib.Core.Path.{◌≡◌, refl, sym, ap, ◌∙◌}
use mathlib.Core.Bool.{Bool, true, false, cond, not, ◌&&◌}
use mathlib.Core.List.{List, [], ◌∷◌, ◌++◌}
use native.Mathlib.Omega.{arith}
use borrow.Author.Tests.{ne_eqb, lt-ltb, le-ltb, ltb-true, ltb-false}
use Rattle.std.specs.Prelude.{Option, None, Some, position}
use Rattle.std.specs.List.{position_or_len}
use lib.Dec.{eqb, ltb, eqb-suc-zero}
use lib.ListN.{length, take, drop, length-append, length-drop}
use lib.Seq.{drop-drop, take-append_seam, drop-append_seam}
use Rattle.columns.specs.Column.{byte_before, lead_of, column_of}
use Rattle.columns.specs.Fields.{columns_of}
use Rattle.lines.specs.Line.{first_line, after_line}
use Rattle.lines.specs.Laws.{LinesJoin}

-- ---- the clauses of each definition, as equations

pub first_line_nil : first_line [] ≡ []
unfolding first_line
first_line_nil = refl

pub after_line_nil : after_line [] ≡ []
unfolding after_line
after_line_nil = refl

pub first_line_cons : (byte : ℕ) (bytes : List ℕ) → first_line (byte ∷ bytes) ≡ byte ∷ cond (eqb byte 10) [] (first_line bytes)
unfolding first_line
first_line_cons byte bytes = refl

pub after_line_cons : (byte : ℕ) (bytes : List ℕ) → after_line (byte ∷ bytes) ≡ cond (eqb byte 10) bytes (after_line bytes)
unfolding after_line
after_line_cons byte bytes = refl

-- bytes without an LF
abbrev pub Plain : List ℕ → Type 0
Plain [] = Unit
Plain (byte ∷ bytes) = (byte ≡ 10 → ⊥) × Plain bytes

pub plain_append : (xs ys : List ℕ) → Plain xs → Plain ys → Plain (xs ++ ys)
plain_append [] ys p q = q
plain_append (x ∷ xs) ys p q = (p.0, plain_append xs ys p.1 q)

digit_plain : (n : ℕ) → 48 + n % 10 ≡ 10 → ⊥
digit_plain n e = omega arith

before_plain : (minus : Bool) (n : ℕ) → byte_before minus n ≡ 10 → ⊥
before_plain true zero e = omega arith
before_plain false zero e = omega arith
before_plain minus (suc n) e = digit_plain (suc n) (simp eqb-suc-zero at e)

lead_plain : (minus : Bool) (w n : ℕ) → Plain (lead_of minus w n)
unfolding lead_of
lead_plain minus zero n = tt
lead_plain minus (suc w) n =
    let due = minus && not (eqb n 0) in
    plain_append (lead_of due w (n / 10)) (byte_before minus n ∷ []) (lead_plain due w (n / 10)) (before_plain minus n, tt)

-- no column has an LF
pub plain_column : (minus : Bool) (w n : ℕ) → Plain (column_of minus w n)
unfolding column_of
plain_column minus zero n = tt
plain_column minus (suc w) n = plain_append (lead_of minus w (n / 10)) ((48 + n % 10) ∷ []) (lead_plain minus w (n / 10)) (digit_plain n, tt)

pub plain_columns : (ws ns : List ℕ) → Plain (columns_of ws ns)
unfolding columns_of
plain_columns [] ns = tt
plain_columns (w ∷ ws) [] = tt
plain_columns (w ∷ ws) (n ∷ ns) = plain_append (column_of false w n) (columns_of ws ns) (plain_column false w n) (plain_columns ws ns)

-- bytes without an LF, and an LF after them, are a line
pub first_plain : (bytes rest : List ℕ) → Plain bytes → first_line (bytes ++ (10 ∷ rest)) ≡ bytes ++ (10 ∷ [])
unfolding first_line
first_plain [] rest p = refl
first_plain (x ∷ bytes) rest p = rw (ne_eqb x 10 p.0, first_plain bytes rest p.1)

pub after_plain : (bytes rest : List ℕ) → Plain bytes → after_line (bytes ++ (10 ∷ rest)) ≡ rest
unfolding after_line
after_plain [] rest p = refl
after_plain (x ∷ bytes) rest p = rw (ne_eqb x 10 p.0, after_plain bytes rest p.1)

pub lines_join : LinesJoin
unfolding first_line after_line
lines_join [] = refl
lines_join (byte ∷ bytes) = by_test (eqb byte 10) (lines_join bytes)
  where
    by_test : (t : Bool) → first_line bytes ++ after_line bytes ≡ bytes → (byte ∷ cond t [] (first_line bytes)) ++ cond t bytes (after_line bytes) ≡ byte ∷ bytes
    by_test true e = refl
    by_test false e = rw e

-- a text's first line is its first part, and the rest follows
pub first_part : (text : List ℕ) → take (length (first_line text)) text ≡ first_line text
first_part text = ap (take (length (first_line text))) (sym (lines_join text)) ∙ take-append_seam (first_line text) (after_line text)

pub after_part : (text : List ℕ) → drop (length (first_line text)) text ≡ after_line text
after_part text = ap (drop (length (first_line text))) (sym (lines_join text)) ∙ drop-append_seam (first_line text) (after_line text)

-- where the first line ends: after the first LF, if there is one, or at the text's end
abbrev pub end_of : Option ℕ → ℕ → ℕ
end_of None n = n
end_of (Some place) n = place + 1

-- by the bytes before the first LF
ends : (text : List ℕ) (n : ℕ) → n ≡ length text
    → end_of (cond (ltb (position_or_len (λ byte. eqb byte 10) text) n) (Some (position_or_len (λ byte. eqb byte 10) text)) None) n ≡ length (first_line text)
unfolding first_line
ends [] n e = rw e
ends (byte ∷ bytes) n e = by_test (eqb byte 10) (ends bytes (length bytes) refl)
  where
    place : ℕ
    place = position_or_len (λ (b : ℕ). eqb b 10) bytes

    by_place : (u : Bool) → ltb place (length bytes) ≡ u → end_of (cond u (Some place) None) (length bytes) ≡ length (first_line bytes)
        → end_of (cond (ltb (1 + place) n) (Some (1 + place)) None) n ≡ suc (length (first_line bytes))
    by_place true u i = rw (lt-ltb (1 + place) n (omega (arith, ltb-true place (length bytes) u))) (omega arith)
    by_place false u i = rw (le-ltb (1 + place) n (omega (arith, ltb-false place (length bytes) u))) (omega arith)

    by_test : (t : Bool) → end_of (cond (ltb place (length bytes)) (Some place) None) (length bytes) ≡ length (first_line bytes)
        → end_of (cond (ltb (cond (not t) (1 + place) 0) n) (Some (cond (not t) (1 + place) 0)) None) n ≡ suc (length (cond t [] (first_line bytes)))
    by_test true i = rw (lt-ltb 0 n (omega arith))
    by_test false i = by_place (ltb place (length bytes)) refl i

pub line_ends : (text : List ℕ) → end_of (position (λ byte. eqb byte 10) text) (length text) ≡ length (first_line text)
line_ends text = ends text (length text) refl

pub first_line_length : (text : List ℕ) → length (first_line text) ≤ length text
first_line_length text = omega (arith, ap length (lines_join text), length-append (first_line text) (after_line text))

-- ---- a line as a part of the text, from its start to its end

module _ (text : List ℕ) (at end : ℕ) (ends : end ≡ at + length (first_line (drop at text))) where
  pub line_part : take (end - at) (drop at text) ≡ first_line (drop at text)
  line_part =
      let long : end - at ≡ length (first_line (drop at text)) = omega arith in
      rw long (first_part (drop at text))

  pub rest_part : drop end text ≡ after_line (drop at text)
  rest_part = rw (ends, ← drop-drop) (after_part (drop at text))

  pub end_within : at ≤ length text → end ≤ length text
  end_within h = omega (arith, first_line_length (drop at text), length-drop at text)
