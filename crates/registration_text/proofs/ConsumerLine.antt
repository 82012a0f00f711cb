-- The line of a consumer: what is written is read, and what is read is what is written of it. Assumes nothing.
use Prim.Native.Nat.{ℕ, suc, ◌+◌, ◌*◌}
use mathlib.Core.Path.{◌≡◌, refl, sym, ap, ◌∙◌}
use mathlib.Core.Bool.{true, false}
use mathlib.Core.List.{List, [], ◌∷◌, ◌++◌, append_assoc}
use Rattle.std.specs.Prelude.{Option, None, Some}
use native.Mathlib.Omega.{arith}
use native.Mathlib.Nat.{zero-add}
use borrow.Author.Tests.{eq-eqb, eqb-true, le-leb}
use lib.Dec.{leb, eqb}
use lib.ListN.{length, get_or, take, drop, length-append, length-drop}
use lib.Seq.{get_or_at, get_or-append-add, drop_at, take-add}
use Rattle.columns.specs.Fields.{total, columns_of, numbers_in, fitting, nth, is_none}
use Rattle.lines.specs.Line.{first_line, after_line}
use Rattle.columns.proofs.Laws.{fields_read_back, fields_written_again, fitting_length, length_columns, columns_append}
use Rattle.lists.proofs.Below.{both}
use Rattle.lines.specs.Lines.{line_of}
use Rattle.lines.proofs.Laws.{line_first, begins, when_some, closed, listed}
use Rattle.registration_text.specs.Lines.{letter_o, widths_o, widths_of_pairs, pairs_from}
use Rattle.registration_text.specs.Reader.{fixed_in, rest_in, nth_source, nth_key}
use Rattle.registration_text.proofs.Named.{total_pairs, length_widths, pairs_listed}

-- what such a line says: code, status, how many producers it names, and by priority their numbers and the keys
pub record Said : Type 0 where
  pub code : ℕ
  pub status : ℕ
  pub count : ℕ
  pub source : ℕ → ℕ
  pub key : ℕ → ℕ

abbrev pub fixed_said : Said → List ℕ
fixed_said l = l.code ∷ l.status ∷ l.count ∷ []

abbrev pub pairs_said : Said → List ℕ
pairs_said l = pairs_from l.source l.key 0 l.count

abbrev pub line_said : Said → List ℕ
line_said l = line_of letter_o (widths_o ++ widths_of_pairs l.count) (fixed_said l ++ pairs_said l)

module _ (count : ℕ) (fixed pairs : List ℕ) (fits : fitting widths_o fixed ≡ true) (fit : fitting (widths_of_pairs count) pairs ≡ true) where
  abbrev rest : List ℕ
  rest = columns_of (widths_of_pairs count) pairs ++ (10 ∷ [])

  abbrev whole : List ℕ
  whole = letter_o ∷ (columns_of widths_o fixed ++ rest)

  apart : line_of letter_o (widths_o ++ widths_of_pairs count) (fixed ++ pairs) ≡ whole
  apart = rw (columns_append widths_o fixed (widths_of_pairs count) pairs (fitting_length widths_o fixed fits), append_assoc)

  length_fixed : length (columns_of widths_o fixed) ≡ 23
  length_fixed = length_columns widths_o fixed (fitting_length widths_o fixed fits)

  length_rest : length (columns_of (widths_of_pairs count) pairs) ≡ 10 * count
  length_rest = length_columns (widths_of_pairs count) pairs (fitting_length (widths_of_pairs count) pairs fit) ∙ total_pairs count

  length_whole : length whole ≡ 10 * count + 25
  length_whole = rw (length-append, length_fixed, length-append, length_rest) (omega arith)

  whole_fixed : fixed_in whole ≡ Some fixed
  unfolding fixed_in
  whole_fixed = rw (le-leb 24 (length whole) (omega (arith, length_whole))) (fields_read_back widths_o fixed rest fits)

  whole_rest : rest_in count whole ≡ Some pairs
  unfolding rest_in
  whole_rest =
      let n : 10 * count + 24 ≡ suc (23 + 10 * count) = omega arith in
      let lf : get_or (columns_of widths_o fixed ++ rest) (23 + 10 * count) 0 ≡ 10 =
      ap (λ (i : ℕ). get_or (columns_of widths_o fixed ++ rest) (i + 10 * count) 0) (sym length_fixed)
      ∙ get_or-append-add (columns_of widths_o fixed) rest (10 * count) 0
      ∙ get_or_at (columns_of (widths_of_pairs count) pairs) 10 [] 0 (10 * count) length_rest in
      let e : get_or whole (10 * count + 24) 0 ≡ 10 = rw n lf in
      rw (eq-eqb _ _ length_whole, eq-eqb _ _ e, drop_at (columns_of widths_o fixed) rest 23 length_fixed)
      (fields_read_back (widths_of_pairs count) pairs (10 ∷ []) fit)

consumer_written : (count : ℕ) (line fixed pairs : List ℕ) → fixed_in line ≡ Some fixed → rest_in count line ≡ Some pairs
    → (line ≡ line_of letter_o (widths_o ++ widths_of_pairs count) (fixed ++ pairs)) × (fitting widths_o fixed ≡ true)
    × (fitting (widths_of_pairs count) pairs ≡ true)
unfolding fixed_in rest_in
consumer_written count [] fixed pairs e q = let z : ◌≡◌ {A = ℕ} 0 1 = cc in absurd (omega arith)
consumer_written count (byte ∷ bytes) fixed pairs e q =
    let n = 10 * count in
    let t = when_some _ (numbers_in widths_o bytes) fixed e in
    let u = when_some _ (numbers_in (widths_of_pairs count) (drop 23 bytes)) pairs q in
    let a = both (leb 24 (suc (length bytes))) (eqb byte letter_o) t.0 in
    let b = both (eqb (suc (length bytes)) (n + 25)) (eqb (get_or (byte ∷ bytes) (n + 24) 0) 10) u.0 in
    let l : suc (length bytes) ≡ n + 25 = eqb-true _ _ b.0 in
    let m : n + 24 ≡ suc (23 + n) = omega arith in
    let lf : get_or bytes (23 + n) 0 ≡ 10 = rw m at (eqb-true (get_or (byte ∷ bytes) (n + 24) 0) 10 b.1) in
    let w : total (widths_of_pairs count) ≡ n = total_pairs count in
    let f = fields_written_again widths_o bytes fixed (omega arith) t.1 in
    let g = fields_written_again (widths_of_pairs count) (drop 23 bytes) pairs (rw (w, length-drop) (omega arith)) u.1 in
    let e : columns_of (widths_o ++ widths_of_pairs count) (fixed ++ pairs) ≡ take (23 + n) bytes =
    columns_append widths_o fixed (widths_of_pairs count) pairs (fitting_length widths_o fixed f.1) ∙ cc (f.0, g.0, w, take-add 23 n bytes) in
    (cc (eqb-true byte letter_o a.1, closed bytes (23 + n) (omega arith) lf, e), f.1, g.1)

-- a text that begins with a consumer's line is read so, and one whose first line is read begins with it
pub begins_consumer_read : (l : Said) (rest : List ℕ) → fitting widths_o (fixed_said l) ≡ true → fitting (widths_of_pairs l.count) (pairs_said l) ≡ true
    → (fixed_in (first_line (line_said l ++ rest)) ≡ Some (fixed_said l)) × (rest_in l.count (first_line (line_said l ++ rest)) ≡ Some (pairs_said l))
    × (after_line (line_said l ++ rest) ≡ rest)
begins_consumer_read l rest fits fit =
    let n = l.count in
    let widths = widths_o ++ widths_of_pairs n in
    let first = line_first letter_o widths (fixed_said l ++ pairs_said l) rest (omega arith) in
    let a = first.0 ∙ apart n (fixed_said l) (pairs_said l) fits fit in (
      ap fixed_in a ∙ whole_fixed n (fixed_said l) (pairs_said l) fits fit,
      ap (rest_in n) a ∙ whole_rest n (fixed_said l) (pairs_said l) fits fit,
      first.1,
    )

-- what the numbers of the fixed part and of the rest say
abbrev pub said_by : Option (List ℕ) → Option (List ℕ) → Said
said_by fixed rest = record { code = nth 0 fixed; status = nth 1 fixed; count = nth 2 fixed; source = nth_source rest; key = nth_key rest }

pub begins_consumer_written : (text : List ℕ) → let fixed = fixed_in (first_line text) in let rest = rest_in (nth 2 fixed) (first_line text) in
    is_none fixed ≡ false → is_none rest ≡ false → text ≡ line_said (said_by fixed rest) ++ after_line text
begins_consumer_written text e q = go (fixed_in (first_line text)) (rest_in (nth 2 (fixed_in (first_line text))) (first_line text)) refl refl e q
  where
    go : (fixed rest : Option (List ℕ)) → fixed_in (first_line text) ≡ fixed → rest_in (nth 2 fixed) (first_line text) ≡ rest
        → is_none fixed ≡ false → is_none rest ≡ false → text ≡ line_said (said_by fixed rest) ++ after_line text
    go None rest f g e q = let z : ◌≡◌ {A = ℕ} 0 1 = cc in absurd (omega arith)
    go (Some ns) None f g e q = let z : ◌≡◌ {A = ℕ} 0 1 = cc in absurd (omega arith)
    go (Some ns) (Some ms) f g e q =
        let count = get_or ns 2 0 in
        let w = consumer_written count (first_line text) ns ms f g in
        let three : ns ≡ get_or ns 0 0 ∷ get_or ns 1 0 ∷ count ∷ [] = listed 3 ns (sym (fitting_length widths_o ns w.1)) in
        let l : length ms ≡ 2 * count = sym (fitting_length (widths_of_pairs count) ms w.2) ∙ length_widths count in
        let pairs : pairs_from (nth_source (Some ms)) (nth_key (Some ms)) 0 count ≡ ms =
        pairs_listed (nth_source (Some ms)) (nth_key (Some ms)) 0 count ms l (λ k h. (rw zero-add, rw zero-add)) in
        begins text _ (w.0 ∙ ap (line_of letter_o (widths_o ++ widths_of_pairs count)) (ap (λ (ls : List ℕ). ls ++ ms) three ∙ cc pairs))
