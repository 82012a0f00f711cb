-- What columns promise, as statements; `proofs/Laws.antt` proves each, once over the width. Assumes nothing.
use Rattle.std.specs.Prelude.{ℕ, ◌+◌, ◌-◌, ◌*◌, ◌^◌, ◌≤◌, ◌<◌, ◌≡◌, true, false, cond, List, [], ◌∷◌, ◌++◌, ℤ, pos, negsuc, nat_abs, length, get_or, take, replicate, Some}
use Rattle.values.specs.Values.{is_negative}
use Rattle.columns.specs.Column.{column_of, signed_column_of, number_in, signed_in, widest}
use Rattle.columns.specs.Fields.{total, columns_of, numbers_in, fitting}

-- a number that leaves a place for the leading space is read back from its column
abbrev pub NumberReadBack : Type 0
NumberReadBack = (w n : ℕ) → 2 ≤ w → w ≤ widest → n < 10 ^ (w - 1) → number_in (column_of false w n) ≡ Some n

-- a column that is read as n is the column of n, and n leaves a place for the leading space
abbrev pub NumberWrittenAgain : Type 0
NumberWrittenAgain =
    (column : List ℕ) (n : ℕ) → number_in column ≡ Some n
    → (column_of false (length column) n ≡ column) × (2 ≤ length column) × (length column ≤ widest) × (n < 10 ^ (length column - 1))

-- how many places of a column a value's sign leaves to its digits
abbrev pub digits : ℕ → ℤ → ℕ
digits w value = cond (is_negative value) (w - 2) (w - 1)

-- a signed value that leaves a place for its sign and the leading space is read back from its column
abbrev pub SignedReadBack : Type 0
SignedReadBack =
    (w : ℕ) (value : ℤ) → 3 ≤ w → w ≤ widest → nat_abs value < 10 ^ digits w value → signed_in (signed_column_of w value) ≡ Some value

-- a column that is read as a signed value is the column of that value
abbrev pub SignedWrittenAgain : Type 0
SignedWrittenAgain =
    (column : List ℕ) (value : ℤ) → signed_in column ≡ Some value
    → (signed_column_of (length column) value ≡ column) × (length column ≤ widest) × (nat_abs value < 10 ^ digits (length column) value)

-- ---- how a column looks

-- the number that bytes make as decimal digits, after v
unfoldable pub decimal_from : ℕ → List ℕ → ℕ
decimal_from v [] = v
decimal_from v (byte ∷ bytes) = decimal_from (v * 10 + (byte - 48)) bytes

-- w bytes: spaces (32), at least one; the sign's byte where there is one; then n in decimal digits (48 to 57), with no leading 0 (48): 0 is the digit 0 alone
pub record ColumnLooks (sign : List ℕ) (w n : ℕ) (column : List ℕ) : Type 0 where
  pub spaces : ℕ
  pub decimals : List ℕ
  pub whole : column ≡ replicate spaces 32 ++ (sign ++ decimals)
  pub width : length column ≡ w
  pub space : 1 ≤ spaces
  pub digit : 1 ≤ length decimals
  pub each : (i : ℕ) → i < length decimals → (48 ≤ get_or decimals i 0) × (get_or decimals i 0 ≤ 57)
  pub leading : get_or decimals 0 0 ≡ 48 → n ≡ 0
  pub none : n ≡ 0 → decimals ≡ 48 ∷ []
  pub value : decimal_from 0 decimals ≡ n

-- the column of a number that leaves a place for the leading space is spaces and the number's digits
abbrev pub NumberLooks : Type 0
NumberLooks = (w n : ℕ) → 2 ≤ w → n < 10 ^ (w - 1) → ColumnLooks [] w n (column_of false w n)

-- the sign of a value: a minus (45) below 0, and otherwise nothing
abbrev pub sign_of : ℤ → List ℕ
sign_of (pos n) = []
sign_of (negsuc n) = 45 ∷ []

-- the column of a signed value that leaves a place for its sign and the leading space is spaces, the sign and the magnitude's digits
abbrev pub SignedLooks : Type 0
SignedLooks =
    (w : ℕ) (value : ℤ) → 2 ≤ w → nat_abs value < 10 ^ digits w value → ColumnLooks (sign_of value) w (nat_abs value) (signed_column_of w value)

-- a column that is read as a number is spaces and that number's digits
abbrev pub NumberReadLooks : Type 0
NumberReadLooks = (column : List ℕ) (n : ℕ) → number_in column ≡ Some n → ColumnLooks [] (length column) n column

-- a column that is read as a signed value is spaces, its sign and its magnitude's digits
abbrev pub SignedReadLooks : Type 0
SignedReadLooks =
    (column : List ℕ) (value : ℤ) → signed_in column ≡ Some value → ColumnLooks (sign_of value) (length column) (nat_abs value) column

-- ---- several columns

-- numbers that fit are read back from their columns, whatever follows
abbrev pub FieldsReadBack : Type 0
FieldsReadBack =
    (widths numbers rest : List ℕ) → fitting widths numbers ≡ true → numbers_in widths (columns_of widths numbers ++ rest) ≡ Some numbers

-- bytes that are read as numbers begin with the columns of these numbers, and the numbers fit
abbrev pub FieldsWrittenAgain : Type 0
FieldsWrittenAgain =
    (widths bytes numbers : List ℕ) → total widths ≤ length bytes → numbers_in widths bytes ≡ Some numbers
    → (columns_of widths numbers ≡ take (total widths) bytes) × (fitting widths numbers ≡ true)
