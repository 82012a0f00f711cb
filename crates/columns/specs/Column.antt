-- A number in a column of fixed width: right-justified, at least one leading space, no leading zeros; a minus stands directly before the
-- digits, and never before 0. A column is given by what is written, and is read as a number if it is that number's. Assumes nothing.
use Rattle.std.specs.Prelude.{ℕ, zero, suc, ◌+◌, ◌-◌, ◌*◌, ◌/◌, ◌%◌, Bool, true, false, cond, not, ◌&&◌, List, [], ◌∷◌, ◌++◌, ℤ, pos, neg_ℤ, nat_abs, length, get_or, leb, ltb, eqb, Option, None, Some}
use Rattle.std.specs.List.{list_any}
use Rattle.std.specs.Str.{bytes_eq}
use Rattle.values.specs.Values.{is_negative}

-- ---- what is written

-- what fills a column before its digits
abbrev pub space_byte : ℕ
space_byte = 32

-- n's last digit, 0 being none any more: then a minus where one is still due, and else a space
abbrev pub byte_before : Bool → ℕ → ℕ
byte_before minus n = cond (eqb n 0) (cond minus 45 space_byte) (48 + n % 10)

-- the bytes before the last digit: n's digits at the right end of w places, a minus if one is due, spaces
unfoldable pub lead_of : Bool → ℕ → ℕ → List ℕ
lead_of minus zero n = []
lead_of minus (suc w) n = lead_of (minus && not (eqb n 0)) w (n / 10) ++ (byte_before minus n ∷ [])

-- a column of w places, with or without a minus
unfoldable pub column_of : Bool → ℕ → ℕ → List ℕ
column_of minus zero n = []
column_of minus (suc w) n = lead_of minus w (n / 10) ++ ((48 + n % 10) ∷ [])

-- the column of a signed value
abbrev pub signed_column_of : ℕ → ℤ → List ℕ
signed_column_of w value = column_of (is_negative value) w (nat_abs value)

-- ---- what is read

-- what a byte counts as a digit, 0 where it is none
abbrev pub digit_of : ℕ → ℕ
digit_of byte = cond (ltb byte 48) 0 (cond (ltb 57 byte) 0 (byte - 48))

-- the number that the digits make, after v; any other byte counts as a 0
unfoldable pub value_from : ℕ → List ℕ → ℕ
value_from v [] = v
value_from v (byte ∷ bytes) = value_from (v * 10 + digit_of byte) bytes

-- whether two lists of bytes are equal
abbrev pub same_bytes : List ℕ → List ℕ → Bool
same_bytes = bytes_eq

-- the widest column that is read
abbrev pub widest : ℕ
widest = 19

-- no wider than that, with a space in front, and otherwise just what is written of the value
abbrev pub is_column : Bool → List ℕ → Bool
is_column minus column =
    leb (length column) widest && eqb (get_or column 0 0) space_byte && same_bytes (column_of minus (length column) (value_from 0 column)) column

-- a number, if it was in its column
abbrev pub number_if : Bool → ℕ → Option ℕ
number_if true n = Some n
number_if false n = None

-- the number in a column
unfoldable pub number_in : List ℕ → Option ℕ
number_in column = number_if (is_column false column) (value_from 0 column)

-- whether a minus stands among the bytes
abbrev pub has_minus : List ℕ → Bool
has_minus bytes = list_any (λ byte. eqb byte 45) bytes

-- a value with its sign, if it was in its column
abbrev pub signed_if : Bool → Bool → ℕ → Option ℤ
signed_if true true n = Some (neg_ℤ (pos n))
signed_if true false n = Some (pos n)
signed_if false minus n = None

-- the signed value in a column
unfoldable pub signed_in : List ℕ → Option ℤ
signed_in column =
    let minus = has_minus column in
    let n = value_from 0 column in
    signed_if (is_column minus column && not (minus && eqb n 0)) minus n
