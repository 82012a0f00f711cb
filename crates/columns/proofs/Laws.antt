-- What is written is read back, what is read is what is written, and how both look: one column, and several. Assumes nothing.
use Prim.Native.Nat.{ℕ, zero, suc, ◌+◌, ◌-◌, ◌^◌, ◌≤◌, ◌<◌}
use mathlib.Core.Path.{◌≡◌, refl, sym, ap, ◌∙◌}
use mathlib.Core.Bool.{Bool, true, false, cond, not, ◌&&◌}
use mathlib.Core.List.{List, [], ◌∷◌, ◌++◌, append_assoc}
use Rattle.std.specs.Prelude.{Option, None, Some}
use native.Mathlib.Omega.{arith}
use native.Mathlib.Numerals.{sub-one}
use borrow.Author.Tests.{le-leb, eqb-true, leb-true}
use lib.Dec.{leb, eqb, eqb-suc-zero}
use lib.IntN.{ℤ, pos, negsuc, neg_ℤ, nat_abs}
use lib.ListN.{length, get_or, take, drop, length-drop}
use lib.Seq.{take_at, drop_at, take-add, length-take-le}
use Rattle.columns.specs.Column.{column_of, signed_column_of, value_from, is_column, has_minus, number_if, number_in, signed_if, signed_in, space_byte, widest}
use Rattle.columns.specs.Fields.{total, columns_of, with_first, numbers_in}
use Rattle.columns.specs.Laws.{NumberReadBack, NumberWrittenAgain, SignedReadBack, SignedWrittenAgain, FieldsReadBack, FieldsWrittenAgain, digits}
use Rattle.columns.specs.Laws.{NumberLooks, SignedLooks, NumberReadLooks, SignedReadLooks}
use Rattle.lists.proofs.Below.{both}
use Rattle.columns.proofs.Same.{same_self, same_eq}
use Rattle.columns.proofs.Values.{value_column, value_room, most}
use Rattle.columns.proofs.Front.{space_number, space_negative, room_negative, two_places}
use Rattle.columns.proofs.Minus.{no_minus, one_minus}
use Rattle.columns.proofs.Shape.{positive_looks, negative_looks}
pub use Rattle.columns.proofs.Clauses.{lead_of_suc, column_of_suc, value_from_cons, same_bytes_cons, has_minus_cons}
pub use Rattle.columns.proofs.Clauses.{columns_of_nil, columns_of_cons, numbers_in_nil, numbers_in_cons, fitting_nil, fitting_cons}
pub use Rattle.columns.proofs.Fill.{length_column}
pub use Rattle.columns.proofs.Lists.{fits_more, fits_first, fitting_length, length_columns, columns_append, total_sum}

-- ---- one column

-- what is written passes the reader's tests, if a space stands in front
passes : (minus : Bool) (w n : ℕ) → w ≤ widest → n < 10 ^ w → get_or (column_of minus w n) 0 0 ≡ space_byte → is_column minus (column_of minus w n) ≡ true
passes minus w n l m f = rw (length_column, le-leb w widest l, f, value_column minus w n m, same_self)

more : (w n : ℕ) → n < 10 ^ w → n < 10 ^ suc w
more w n h = omega (arith, most w (suc w) (omega arith))

pub number_read_back : NumberReadBack
unfolding number_in
number_read_back zero n h l m = absurd (omega arith)
number_read_back (suc zero) n h l m = absurd (omega arith)
number_read_back (suc (suc w)) n h l m =
    let few : n < 10 ^ suc w = simp sub-one at m in
    let fit = more (suc w) n few in
    rw (passes false (suc (suc w)) n l fit (space_number w n few), value_column false (suc (suc w)) n fit)

-- what the tests say of a column that passes them
record Read (minus : Bool) (column : List ℕ) : Type 0 where
  narrow : length column ≤ widest
  space : get_or column 0 0 ≡ space_byte
  is : column_of minus (length column) (value_from 0 column) ≡ column

read : (minus : Bool) (column : List ℕ) → is_column minus column ≡ true → Read minus column
read minus column t =
    let a = both (leb (length column) widest && eqb (get_or column 0 0) space_byte) _ t in
    let b = both (leb (length column) widest) _ a.0 in
    record { narrow = leb-true _ _ b.0; space = eqb-true _ _ b.1; is = same_eq _ _ a.1 }

number_if_lem : (t : Bool) (v n : ℕ) → number_if t v ≡ Some n → (t ≡ true) × (v ≡ n)
number_if_lem true v n e = (refl, cc)
number_if_lem false v n e = let z : ◌≡◌ {A = ℕ} 0 1 = cc in absurd (omega arith)

pub number_written_again : NumberWrittenAgain
unfolding number_in
number_written_again column n e =
    let a = number_if_lem (is_column false column) (value_from 0 column) n e in
    let r = read false column a.0 in
    let room = (value_room column r.space).1 in
    rw (← a.1) (r.is, two_places column false _ r.is r.space, r.narrow, room)

-- ---- a signed column

pub signed_read_back : SignedReadBack
unfolding signed_in
signed_read_back zero value h l m = absurd (omega arith)
signed_read_back (suc zero) value h l m = absurd (omega arith)
signed_read_back (suc (suc zero)) value h l m = absurd (omega arith)
signed_read_back (suc (suc (suc w))) (pos n) h l m =
    let few : n < 10 ^ suc (suc w) = simp sub-one at m in
    let fit = more (suc (suc w)) n few in
    rw (no_minus, passes false (suc (suc (suc w))) n l fit (space_number (suc w) n few), value_column false (suc (suc (suc w))) n fit)
signed_read_back (suc (suc (suc w))) (negsuc n) h l m =
    let q : suc (suc (suc w)) - 2 ≡ suc w = omega arith in
    let few : suc n < 10 ^ suc w = rw q at m in
    let less = more (suc w) (suc n) few in
    let fit = more (suc (suc w)) (suc n) less in
    rw (
      one_minus (suc w) (suc n) less,
      passes true (suc (suc (suc w))) (suc n) l fit (space_negative w (suc n) few),
      value_column true (suc (suc (suc w))) (suc n) fit,
      eqb-suc-zero,
    )

-- n with its sign
abbrev valued : Bool → ℕ → ℤ
valued minus n = cond minus (neg_ℤ (pos n)) (pos n)

signed_if_lem : (t minus : Bool) (n : ℕ) (value : ℤ) → signed_if t minus n ≡ Some value → (t ≡ true) × (value ≡ valued minus n)
signed_if_lem true true n value e = (refl, cc)
signed_if_lem true false n value e = (refl, cc)
signed_if_lem false minus n value e = let z : ◌≡◌ {A = ℕ} 0 1 = cc in absurd (omega arith)

-- a value that is read with or without a minus is written so
written : (minus : Bool) (column : List ℕ) (n : ℕ) → n ≡ value_from 0 column → Read minus column → not (minus && eqb n 0) ≡ true
    → (signed_column_of (length column) (valued minus n) ≡ column) × (length column ≤ widest) × (nat_abs (valued minus n) < 10 ^ digits (length column) (valued minus n))
written false column n e r t = rw e (r.is, r.narrow, (value_room column r.space).1)
written true column zero e r t = let z : ◌≡◌ {A = ℕ} 0 1 = cc in absurd (omega arith)
written true column (suc n) e r t =
    let s : column_of true (length column) (suc n) ≡ column = rw e r.is in
    (s, r.narrow, room_negative (length column) (suc n) (ap (λ (l : List ℕ). get_or l 0 0) s ∙ r.space))

pub signed_written_again : SignedWrittenAgain
unfolding signed_in
signed_written_again column value e =
    let minus = has_minus column in
    let n = value_from 0 column in
    let a = signed_if_lem (is_column minus column && not (minus && eqb n 0)) minus n value e in
    let b = both (is_column minus column) _ a.0 in
    rw a.1 (written minus column n refl (read minus column b.0) b.1)

-- ---- how a column looks

pub number_looks : NumberLooks
number_looks zero n h m = absurd (omega arith)
number_looks (suc zero) n h m = absurd (omega arith)
number_looks (suc (suc w)) n h m = positive_looks w n (simp sub-one at m)

pub signed_looks : SignedLooks
signed_looks w (pos n) h m = number_looks w n h m
signed_looks zero (negsuc n) h m = absurd (omega arith)
signed_looks (suc zero) (negsuc n) h m = absurd (omega arith)
signed_looks (suc (suc zero)) (negsuc n) h m = absurd (omega arith)
signed_looks (suc (suc (suc w))) (negsuc n) h m =
    let q : suc (suc (suc w)) - 2 ≡ suc w = omega arith in
    negative_looks w (suc n) (rw q at m)

pub number_read_looks : NumberReadLooks
number_read_looks column n e =
    let a = number_written_again column n e in
    rw a.0 at (number_looks (length column) n a.1 a.3)

-- a column that is read as a signed value has two places or more
signed_places : (column : List ℕ) (value : ℤ) → signed_in column ≡ Some value → 2 ≤ length column
unfolding signed_in
signed_places column value e =
    let minus = has_minus column in
    let n = value_from 0 column in
    let a = signed_if_lem (is_column minus column && not (minus && eqb n 0)) minus n value e in
    let r = read minus column (both (is_column minus column) _ a.0).0 in
    two_places column minus n r.is r.space

pub signed_read_looks : SignedReadLooks
signed_read_looks column value e =
    let a = signed_written_again column value e in
    rw a.0 at (signed_looks (length column) value (signed_places column value e) a.2)

-- ---- several columns

pub fields_read_back : FieldsReadBack
fields_read_back [] [] rest t = numbers_in_nil _
fields_read_back [] (n ∷ ns) rest t = absurd (omega (arith, fitting_length [] (n ∷ ns) t))
fields_read_back (w ∷ ws) [] rest t = absurd (omega (arith, fitting_length (w ∷ ws) [] t))
fields_read_back (w ∷ ws) (n ∷ ns) rest t =
    let f = fits_first w n ws ns t in
    let tail = columns_of ws ns ++ rest in
    rw (
      numbers_in_cons,
      columns_of_cons,
      append_assoc,
      take_at (column_of false w n) tail w (length_column false w n),
      drop_at (column_of false w n) tail w (length_column false w n),
      number_read_back w n f.0 f.1 f.2,
      fields_read_back ws ns rest f.3,
    )

-- the first number and the others
record Parts (first : Option ℕ) (rest : Option (List ℕ)) (numbers : List ℕ) : Type 0 where
  n : ℕ
  ns : List ℕ
  number : first ≡ Some n
  others : rest ≡ Some ns
  all : numbers ≡ n ∷ ns

parts : (first : Option ℕ) (rest : Option (List ℕ)) (numbers : List ℕ) → with_first first rest ≡ Some numbers → Parts first rest numbers
parts None rest numbers e = let z : ◌≡◌ {A = ℕ} 0 1 = cc in absurd (omega arith)
parts (Some n) None numbers e = let z : ◌≡◌ {A = ℕ} 0 1 = cc in absurd (omega arith)
parts (Some n) (Some ns) numbers e = record { n = n; ns = ns; number = refl; others = refl; all = cc }

pub fields_written_again : FieldsWrittenAgain
fields_written_again [] bytes numbers l e =
    let z : numbers ≡ [] = cc (numbers_in_nil bytes) in
    rw (z, columns_of_nil) (refl, fitting_nil)
fields_written_again (w ∷ ws) bytes numbers l e =
    let p = parts (number_in (take w bytes)) (numbers_in ws (drop w bytes)) numbers (sym (numbers_in_cons w ws bytes) ∙ e) in
    let k : w + total ws ≤ length bytes = l in
    let q : length (take w bytes) ≡ w = length-take-le w bytes (omega arith) in
    let a = number_written_again (take w bytes) p.n p.number in
    let i = fields_written_again ws (drop w bytes) p.ns (rw length-drop (omega arith)) p.others in
    let b = rw q at a in
    rw (p.all, columns_of_cons, take-add, b.0, i.0) (refl, fits_more w p.n ws p.ns b.1 b.2 b.3 i.1)
