-- Texts and their answers, by one test that is computed over the rows of a table: case LIST, an example of each refusal, the most that a line
-- may name, and that nothing is given back of a refused text. Assumes nothing.
use Prim.Native.Nat.{ℕ}
use Prim.Native.Char.{code}
use Prim.Native.String.{String, [] as end, ◌∷◌ as ◌then◌, ◌++◌}
use mathlib.Core.Path.{◌≡◌, refl}
use mathlib.Core.Bool.{Bool, true, ◌&&◌}
use mathlib.Core.List.{List, [], ◌∷◌}
use lib.Dec.{eqb}
use lib.ListN.{replicate}
use Rattle.answers.specs.declared.Refusal.TheVariants.{NotInColumns, ProducerOrKeyWrong, KeysAbove}
use Rattle.std.specs.Prelude.{Ok, Err}
use Rattle.answers.specs.Order.{refuse◌if◌else◌}
use Rattle.answers.specs.Numbers.{answer_of}
use Rattle.columns.specs.Column.{column_of, lead_of, value_from, number_in}
use Rattle.columns.specs.Fields.{numbers_in, columns_of}
use Rattle.lines.specs.Line.{first_line, after_line}
use Rattle.lines.specs.Lines.{line_in}
use Rattle.lists.specs.Below.{every, differ, sum_below}
use Rattle.registration.specs.declared.Registration.{Registration}
use Rattle.registration.specs.Code.{is_code, weighted}
use Rattle.registration.specs.Rules.{pairs_right}
use Rattle.registration.specs.Damage.{empty}
use Rattle.registration_text.specs.Lines.{letter_g, widths_g, widths_of_pairs, pairs_from}
use Rattle.registration_text.specs.Reader.{read_text, read_g, read_d, read_o, fixed_in, rest_in, verdict_g, verdict_d, verdict_o, verdict_of_all, with_point, with_count, with_pair, with_pairs}
use Rattle.registration_text.specs.Writer.{text_of, lines_d, lines_o}

-- the bytes of a text
unfoldable pub bytes : String → List ℕ
bytes end = []
bytes (c then s) = code c ∷ bytes s

-- the lines of LIST
unfoldable pub g : String
g = "G   1   2 1\n"

unfoldable pub d1 : String
d1 = "D 859182400220162071 0\n"

unfoldable pub o1 : String
o1 = "O 859182400220162088 0 1   1  4000\n"

unfoldable pub o2 : String
o2 = "O 859182400220162095 0 1   1  6000\n"

-- the text of LIST
unfoldable pub list : String
list = g ++ d1 ++ o1 ++ o2

-- what a text shows, the text, and the answer that it gets
record Row : Type 0 where
  shows : String
  text : String
  answer : ℕ

row : String → String → ℕ → Row
row shows text answer = record { shows = shows; text = text; answer = answer }

rows : List Row
rows =
    row "LIST" list 0 ∷
    row "the columns are too narrow" ("G 1 2 1") 1 ∷
    row "nothing at all" ("") 1 ∷
    row "a small letter" ("g   1   2 1\n" ++ d1 ++ o1 ++ o2) 1 ∷
    row "a leading zero" ("G  01   2 1\n" ++ d1 ++ o1 ++ o2) 1 ∷
    row "CR before LF" ("G   1   2 1\r\n" ++ d1 ++ o1 ++ o2) 1 ∷
    row "no producer; 3 comes before 5" ("G   0   2 2\n" ++ d1 ++ o1 ++ o2) 3 ∷
    row "no consumer" ("G   1   0 1\n" ++ d1) 3 ∷
    row "65 points" ("G   1  64 1\n" ++ d1 ++ o1 ++ o2) 3 ∷
    row "iteration 2" ("G   1   2 2\n" ++ d1 ++ o1 ++ o2) 5 ∷
    row "a false check digit" (g ++ "D 859182400220162072 0\n" ++ o1 ++ o2) 2 ∷
    row "17 digits" (g ++ "D  85918240022016207 0\n" ++ o1 ++ o2) 2 ∷
    row "a leading zero" (g ++ "D 059182400220162071 0\n" ++ o1 ++ o2) 1 ∷
    row "status 4; 5 comes before 2" (g ++ "D 859182400220162072 4\n" ++ o1 ++ o2) 5 ∷
    row "key 0" (g ++ d1 ++ "O 859182400220162088 0 1   1     0\n" ++ o2) 6 ∷
    row "key 10001" (g ++ d1 ++ "O 859182400220162088 0 1   1 10001\n" ++ o2) 6 ∷
    row "an unknown producer" (g ++ d1 ++ "O 859182400220162088 0 1   2  4000\n" ++ o2) 6 ∷
    row "a producer twice on one line" (g ++ d1 ++ "O 859182400220162088 0 2   1  4000   1  1000\n" ++ o2) 6 ∷
    row "count 0, and the LF is missing" (g ++ d1 ++ "O 859182400220162088 0 0") 3 ∷
    row "count 6" (g ++ d1 ++ "O 859182400220162088 0 6\n") 3 ∷
    row "the LF is missing; 1 for the rest comes before 5" (g ++ d1 ++ "O 859182400220162088 4 1   1     0") 1 ∷
    row "5 comes before 2 and 6" (g ++ d1 ++ "O 859182400220162089 4 1   1     0\n" ++ o2) 5 ∷
    row "2 comes before 6" (g ++ d1 ++ "O 859182400220162089 0 1   1     0\n" ++ o2) 2 ∷
    row "a line is missing" (g ++ d1 ++ o1) 1 ∷
    row "an empty line is extra text" (g ++ d1 ++ o1 ++ o2 ++ "\n") 1 ∷
    row "the last LF is missing" (g ++ d1 ++ o1 ++ "O 859182400220162095 0 1   1  6000") 1 ∷
    row "two equal D lines" ("G   2   1 1\n" ++ d1 ++ d1 ++ o1) 4 ∷
    row "1 for extra text comes before 4" ("G   2   1 1\n" ++ d1 ++ d1 ++ o1 ++ o2) 1 ∷
    row "keys 4000 and 6001" (g ++ d1 ++ o1 ++ "O 859182400220162095 0 1   1  6001\n") 7 ∷
    row "4 comes before 7" (g ++ d1 ++ o1 ++ "O 859182400220162088 0 1   1  6001\n") 4 ∷
    row "one key of 10000" ("G   1   1 0\n" ++ d1 ++ "O 859182400220162088 3 1   1 10000\n") 0 ∷
    []

-- each row's text gets its answer
right : List Row → Bool
right [] = true
right (r ∷ rest) = eqb (answer_of (read_text (bytes r.text))) r.answer && right rest

answers : right rows ≡ true
unfolding bytes g d1 o1 o2 list row rows right refuse◌if◌else◌ column_of lead_of value_from number_in numbers_in columns_of first_line after_line every differ sum_below is_code weighted pairs_right empty widths_of_pairs pairs_from read_text read_g read_d read_o line_in fixed_in rest_in verdict_g verdict_d verdict_o verdict_of_all with_point with_count with_pair with_pairs
answers = refl

-- ---- the most that a line may name

-- the D lines of four more producers
d2 : String
d2 = "D 859182400220162101 0\n"

d3 : String
d3 = "D 859182400220162118 1\n"

d4 : String
d4 = "D 859182400220162125 2\n"

d5 : String
d5 = "D 859182400220162132 3\n"

-- an O line that names five producers is read, and of one that names six the count is refused
named : List Row
named =
    row "five producers on one line" ("G   5   1 1\n" ++ d1 ++ d2 ++ d3 ++ d4 ++ d5 ++ "O 859182400220162088 0 5   5  1000   4  2000   3 10000   2     1   1  3000\n") 0 ∷
    row "six producers on one line" ("G   6   1 1\n" ++ d1 ++ d2 ++ d3 ++ d4 ++ d5 ++ "D 859182400220162149 0\n" ++ "O 859182400220162088 0 6   6  1000   5  1000   4  2000   3 10000   2     1   1  3000\n") 3 ∷
    []

-- the texts that name five producers and six get their answers
names : right named ≡ true
unfolding bytes g d1 d2 d3 d4 d5 row right named refuse◌if◌else◌ column_of lead_of value_from number_in numbers_in columns_of first_line after_line every differ sum_below is_code weighted pairs_right empty widths_of_pairs pairs_from read_text read_g read_d read_o line_in fixed_in rest_in verdict_g verdict_d verdict_o verdict_of_all with_point with_count with_pair with_pairs
names = refl

-- the G line alone: 64 points at most, and at least one of each kind
groups : List Row
groups =
    row "1 producer and 63 consumers" "G   1  63 1\n" 0 ∷
    row "63 producers and 1 consumer" "G  63   1 0\n" 0 ∷
    row "32 producers and 32 consumers" "G  32  32 0\n" 0 ∷
    row "two points" "G   1   1 1\n" 0 ∷
    row "1 producer and 64 consumers" "G   1  64 1\n" 3 ∷
    row "64 producers and 1 consumer" "G  64   1 0\n" 3 ∷
    row "33 producers and 32 consumers" "G  33  32 0\n" 3 ∷
    row "no consumer" "G  64   0 0\n" 3 ∷
    row "no producer" "G   0  64 0\n" 3 ∷
    []

-- each row's line gets its answer
group_right : List Row → Bool
group_right [] = true
group_right (r ∷ rest) = eqb (answer_of (verdict_g (line_in letter_g widths_g (bytes r.text)))) r.answer && group_right rest

-- the G lines get their answers
group_answers : group_right groups ≡ true
unfolding bytes row groups group_right refuse◌if◌else◌ column_of lead_of value_from number_in numbers_in line_in verdict_g
group_answers = refl

-- ---- a refused text

-- LIST with a key of 0 on its last line: nothing stays of the lines before it
last_line : read_text (bytes (g ++ d1 ++ o1 ++ "O 859182400220162095 0 1   1     0\n")) ≡ Err ProducerOrKeyWrong
unfolding bytes g d1 o1 refuse◌if◌else◌ column_of lead_of value_from number_in numbers_in columns_of first_line after_line every differ sum_below is_code weighted pairs_right empty widths_of_pairs pairs_from read_text read_g read_d read_o line_in fixed_in rest_in verdict_g verdict_d verdict_o verdict_of_all with_point with_count with_pair with_pairs
last_line = refl

-- LIST and one byte more: nothing stays of all its lines
extra_text : read_text (bytes (list ++ "O")) ≡ Err NotInColumns
unfolding bytes g d1 o1 o2 list refuse◌if◌else◌ column_of lead_of value_from number_in numbers_in columns_of first_line after_line every differ sum_below is_code weighted pairs_right empty widths_of_pairs pairs_from read_text read_g read_d read_o line_in fixed_in rest_in verdict_g verdict_d verdict_o verdict_of_all with_point with_count with_pair with_pairs
extra_text = refl

-- LIST with keys that sum to 10001: nothing stays of all its lines
keys_above : read_text (bytes (g ++ d1 ++ o1 ++ "O 859182400220162095 0 1   1  6001\n")) ≡ Err KeysAbove
unfolding bytes g d1 o1 refuse◌if◌else◌ column_of lead_of value_from number_in numbers_in columns_of first_line after_line every differ sum_below is_code weighted pairs_right empty widths_of_pairs pairs_from read_text read_g read_d read_o line_in fixed_in rest_in verdict_g verdict_d verdict_o verdict_of_all with_point with_count with_pair with_pairs
keys_above = refl

-- ---- LIST, read and written again

-- the registration of LIST, written out
unfoldable pub listed : Registration
listed =
    record {
      producers = 1;
      consumers = 2;
      iteration = 1;
      codes = 859182400220162071 ∷ 859182400220162088 ∷ 859182400220162095 ∷ replicate 61 0;
      statuses = replicate 64 0;
      counts = 1 ∷ 1 ∷ replicate 62 0;
      sources = 1 ∷ 0 ∷ 0 ∷ 0 ∷ 0 ∷ 1 ∷ replicate 314 0;
      keys = 4000 ∷ 0 ∷ 0 ∷ 0 ∷ 0 ∷ 6000 ∷ replicate 314 0;
    }

list_read : read_text (bytes list) ≡ Ok listed
unfolding bytes g d1 o1 o2 list listed refuse◌if◌else◌ column_of lead_of value_from number_in numbers_in columns_of first_line after_line every differ sum_below is_code weighted pairs_right empty widths_of_pairs pairs_from read_text read_g read_d read_o line_in fixed_in rest_in verdict_g verdict_d verdict_o verdict_of_all with_point with_count with_pair with_pairs
list_read = refl

list_written : text_of listed ≡ bytes list
unfolding bytes g d1 o1 o2 list listed column_of lead_of columns_of widths_of_pairs pairs_from text_of lines_d lines_o
list_written = refl
