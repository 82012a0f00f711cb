-- What lines promise: what is written is read back, and what is read is what is written. Assumes nothing.
use Prim.Native.Nat.{ℕ, zero, suc, ◌+◌}
use mathlib.Core.Path.{◌≡◌, refl, sym, ap, ◌∙◌}
use mathlib.Core.Bool.{Bool, true, false, cond, ◌&&◌}
use mathlib.Core.List.{List, [], ◌∷◌, ◌++◌, append_assoc}
use Rattle.std.specs.Prelude.{Option, None, Some}
use native.Mathlib.Omega.{arith}
use native.Mathlib.Numerals.{add-one}
use borrow.Author.Tests.{eq-eqb, eqb-true}
use lib.Dec.{eqb}
use lib.ListN.{length, get_or, take, drop, length-append, drop_of_length-le}
use lib.Seq.{get_or_at, split_at}
use Rattle.columns.specs.Fields.{total, columns_of, numbers_in, fitting, nth, is_none}
use Rattle.columns.proofs.Laws.{fields_read_back, fields_written_again, fitting_length, length_columns}
use Rattle.lists.proofs.Below.{both}
use Rattle.lines.specs.Line.{first_line, after_line}
use Rattle.lines.specs.Lines.{line_of, line_in}
use Rattle.lines.specs.Laws.{LineReadBack, LineWrittenAgain, LineFirst}
use Rattle.lines.proofs.Line.{plain_columns, first_plain, after_plain}
pub use Rattle.lines.proofs.Line.{first_line_nil, first_line_cons, after_line_nil, after_line_cons, lines_join, line_part, rest_part, end_within}

-- a line is as long as its columns together, its letter and its LF
pub length_line : (letter : ℕ) (ws ns : List ℕ) → length ws ≡ length ns → length (line_of letter ws ns) ≡ total ws + 2
length_line letter ws ns e = rw (length-append, length_columns ws ns e) (omega arith)

pub line_first : LineFirst
line_first letter widths numbers rest other =
    let bytes = letter ∷ columns_of widths numbers in
    let whole : line_of letter widths numbers ++ rest ≡ bytes ++ (10 ∷ rest) = append_assoc bytes (10 ∷ []) rest in (
      ap first_line whole ∙ first_plain bytes rest (other, plain_columns widths numbers),
      ap after_line whole ∙ after_plain bytes rest (other, plain_columns widths numbers),
    )

pub line_read_back : LineReadBack
unfolding line_in
line_read_back letter widths numbers fits =
    let bytes = columns_of widths numbers in
    let l : length bytes ≡ total widths = length_columns widths numbers (fitting_length widths numbers fits) in
    let a : suc (length (bytes ++ (10 ∷ []))) ≡ total widths + 2 = rw (length-append, l) (omega arith) in
    let b : get_or (letter ∷ (bytes ++ (10 ∷ []))) (total widths + 1) 0 ≡ 10 = rw add-one (get_or_at bytes 10 [] 0 (total widths) l) in
    rw (eq-eqb _ _ a, eq-eqb letter letter refl, eq-eqb _ _ b) (fields_read_back widths numbers (10 ∷ []) fits)

-- what a test lets through has passed it
pub when_some : (b : Bool) (o : Option (List ℕ)) (ns : List ℕ) → cond b o None ≡ Some ns → (b ≡ true) × (o ≡ Some ns)
when_some true o ns e = (refl, e)
when_some false o ns e = let z : ◌≡◌ {A = ℕ} 0 1 = cc in absurd (omega arith)

-- bytes of which the last is LF
pub closed : (bytes : List ℕ) (n : ℕ) → length bytes ≡ suc n → get_or bytes n 0 ≡ 10 → bytes ≡ take n bytes ++ (10 ∷ [])
closed bytes n l e =
    let last : drop (suc n) bytes ≡ [] = drop_of_length-le bytes {i = suc n} (omega arith) in
    split_at bytes n 0 (omega arith) ∙ rw (e, last)

pub line_written_again : LineWrittenAgain
unfolding line_in
line_written_again letter widths [] numbers e =
    let z : 0 ≡ total widths + 2 = eqb-true _ _ (both (eqb 0 (total widths + 2)) _ (both _ (eqb 0 10) (when_some _ _ numbers e).0).0).0 in
    absurd (omega arith)
line_written_again letter widths (byte ∷ bytes) numbers e =
    let w = total widths in
    let t = when_some _ (numbers_in widths bytes) numbers e in
    let a = both (eqb (suc (length bytes)) (w + 2) && eqb byte letter) (eqb (get_or (byte ∷ bytes) (w + 1) 0) 10) t.0 in
    let b = both (eqb (suc (length bytes)) (w + 2)) (eqb byte letter) a.0 in
    let l : suc (length bytes) ≡ w + 2 = eqb-true _ _ b.0 in
    let f = fields_written_again widths bytes numbers (omega arith) t.1 in
    let lf : get_or bytes w 0 ≡ 10 = rw add-one at (eqb-true (get_or (byte ∷ bytes) (w + 1) 0) 10 a.1) in
    (cc (eqb-true byte letter b.1, closed bytes w (omega arith) lf, f.0), f.1)

-- ---- texts that begin with a line

-- a text whose first line is known begins with it
pub begins : (text line : List ℕ) → first_line text ≡ line → text ≡ line ++ after_line text
begins text line e = sym (lines_join text) ∙ ap (λ (l : List ℕ). l ++ after_line text) e

-- so many numbers as a list, one by one
abbrev pub listing : (ℕ → ℕ) → ℕ → List ℕ
listing f zero = []
listing f (suc n) = f 0 ∷ listing (λ k. f (suc k)) n

pub listed : (n : ℕ) (ns : List ℕ) → length ns ≡ n → ns ≡ listing (λ k. get_or ns k 0) n
listed zero [] l = refl
listed zero (x ∷ ns) l = absurd (omega arith)
listed (suc n) [] l = absurd (omega arith)
listed (suc n) (x ∷ ns) l = ap (λ (ms : List ℕ). x ∷ ms) (listed n ns (omega arith))

-- a text that begins with a line is read so, and one whose first line is read begins with it
pub begins_read : (letter : ℕ) (widths numbers rest : List ℕ) → (letter ≡ 10 → ⊥) → fitting widths numbers ≡ true
    → (line_in letter widths (first_line (line_of letter widths numbers ++ rest)) ≡ Some numbers) × (after_line (line_of letter widths numbers ++ rest) ≡ rest)
begins_read letter widths numbers rest plain fits = (
  ap (line_in letter widths) (line_first letter widths numbers rest plain).0 ∙ line_read_back letter widths numbers fits,
  (line_first letter widths numbers rest plain).1,
)

pub begins_written : (letter : ℕ) (widths text : List ℕ) → is_none (line_in letter widths (first_line text)) ≡ false
    → text ≡ line_of letter widths (listing (λ k. nth k (line_in letter widths (first_line text))) (length widths)) ++ after_line text
begins_written letter widths text e = go (line_in letter widths (first_line text)) refl e
  where
    go : (o : Option (List ℕ)) → line_in letter widths (first_line text) ≡ o → is_none o ≡ false
        → text ≡ line_of letter widths (listing (λ k. nth k o) (length widths)) ++ after_line text
    go None q e = let z : ◌≡◌ {A = ℕ} 0 1 = cc in absurd (omega arith)
    go (Some ns) q e =
        let w = line_written_again letter widths (first_line text) ns q in
        begins text _ (w.0 ∙ ap (line_of letter widths) (listed (length widths) ns (sym (fitting_length widths ns w.1))))
