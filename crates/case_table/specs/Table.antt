-- The paper's case table: each row has what it shows, the lines that program `share` reads and the lines that it writes, in the paper's columns.
-- Energy is in hundredths of a kWh, keys are in hundredths of a percent. Assumes nothing.
use Rattle.std.specs.Prelude.{ℕ, ◌≡◌, List, [], ◌∷◌, ◌++◌, map}
use Prim.Native.Char.{code}
use Prim.Native.String.{String, [] as end, ◌∷◌ as ◌then◌}
use Rattle.event_text.specs.Share.{share}

-- the bytes of a line
unfoldable pub bytes : String → List ℕ
bytes end = []
bytes (c then line) = code c ∷ bytes line

-- the bytes of lines, each with its LF
unfoldable pub text : List String → List ℕ
text [] = []
text (line ∷ lines) = bytes line ++ (10 ∷ text lines)

-- what a row shows, the lines that are read, and the lines that are written
pub record Row : Type 0 where
  pub shows : String
  pub input : List String
  pub output : List String

-- a row, its parts in this order
abbrev pub row : String → List String → List String → Row
row shows input output = record { shows = shows; input = input; output = output }

-- ---- case LIST, as the paper prints it

-- its registration
abbrev pub list_group : List String
list_group =
    "G   1   2 1" ∷
    "D 859182400220162071 0" ∷
    "O 859182400220162088 0 1   1  4000" ∷
    "O 859182400220162095 0 1   1  6000" ∷ []

-- its readings
abbrev pub list_readings : List String
list_readings =
    "M         1000 859182400220162071 20240102   1      1001" ∷
    "M         1000 859182400220162088 20240102   1      -100" ∷
    "M          990 859182400220162095 20240102   1      -900" ∷ []

-- the answers to its readings
abbrev pub list_stamps : List String
list_stamps =
    "A   0         1000" ∷
    "A   0         1001" ∷
    "A   0         1002" ∷ []

-- its result as of 1002
abbrev pub list_result : List String
list_result =
    "R   0 2" ∷
    "S   1   1       100" ∷
    "S   2   1       780" ∷
    "U   1         0" ∷
    "U   2       120" ∷
    "V   1       121" ∷
    "W   1 0" ∷
    "W   2 0" ∷
    "W   3 0" ∷ []

-- as of 1001 the second consumer has no reading, nor one in an earlier week; a repeat gets the stamp of the first reading, and a correction does not alter
-- the result as of 1002
abbrev pub list_rows : List Row
list_rows =
    row "LIST"
    (list_group ++ list_readings ++ ("E 20240102   1         1002" ∷ []))
    (list_stamps ++ list_result)
    ∷
    row "LIST with T 1001"
    (list_group ++ list_readings ++ ("E 20240102   1         1001" ∷ []))
    (list_stamps ++
    ("R   0 2" ∷
    "S   1   1       100" ∷
    "S   2   1         0" ∷
    "U   1         0" ∷
    "U   2         0" ∷
    "V   1       901" ∷
    "W   1 0" ∷
    "W   2 0" ∷
    "W   3 6" ∷ []))
    ∷
    row "LIST with a repeat and a correction"
    (list_group ++ list_readings ++
    ("M         1100 859182400220162088 20240102   1      -100" ∷
    "M         1200 859182400220162088 20240102   1      -300" ∷
    "E 20240102   1         1002" ∷
    "E 20240102   1         1200" ∷ []))
    (list_stamps ++
    ("A   0         1001" ∷
    "A   0         1200" ∷ []) ++ list_result ++
    ("R   0 2" ∷
    "S   1   1       300" ∷
    "S   2   1       660" ∷
    "U   1         0" ∷
    "U   2       240" ∷
    "V   1        41" ∷
    "W   1 0" ∷
    "W   2 0" ∷
    "W   3 0" ∷ []))
    ∷ []

-- ---- the published method's examples with iteration

-- the numbers are those of source 001: in example 1 4.22 of 9.51 kWh are shared, in example 2 6.45 of 7.51, in example 4 0.66 of 2.20 and 39.05 of 132.45
abbrev pub example_rows : List Row
example_rows =
    row "example 1: a household shares with itself"
    ("G   1   1 1" ∷
    "D 859182400220162071 0" ∷
    "O 859182400220162088 0 1   1 10000" ∷
    "M         1000 859182400220162071 20240102   1       951" ∷
    "M         1000 859182400220162088 20240102   1      -422" ∷
    "E 20240102   1         1001" ∷ [])
    ("A   0         1000" ∷
    "A   0         1001" ∷
    "R   0 1" ∷
    "S   1   1       422" ∷
    "U   1         0" ∷
    "V   1       529" ∷
    "W   1 0" ∷
    "W   2 0" ∷ [])
    ∷
    row "example 2: a cottage and a flat"
    ("G   1   2 1" ∷
    "D 859182400220095195 0" ∷
    "O 859182400220095201 0 1   1  4000" ∷
    "O 859182400110035201 0 1   1  6000" ∷
    "M         1000 859182400220095195 20240102   1       751" ∷
    "M         1000 859182400220095201 20240102   1       -37" ∷
    "M         1000 859182400110035201 20240102   1     -1221" ∷
    "E 20240102   1         1002" ∷ [])
    ("A   0         1000" ∷
    "A   0         1001" ∷
    "A   0         1002" ∷
    "R   0 2" ∷
    "S   1   1        37" ∷
    "S   2   1       608" ∷
    "U   1         0" ∷
    "U   2       613" ∷
    "V   1       106" ∷
    "W   1 0" ∷
    "W   2 0" ∷
    "W   3 0" ∷ [])
    ∷
    row "example 4: town hall, library and nursery school of a municipality"
    ("G   2   3 1" ∷
    "D 859182400220009116 0" ∷
    "D 859182400220008850 0" ∷
    "O 859182400220009123 0 2   1  3000   2  1000" ∷
    "O 859182400220009260 0 2   2  1000   1  7000" ∷
    "O 859182400220009499 0 1   2  1000" ∷
    "M         1000 859182400220009116 20240102   1       220" ∷
    "M         1000 859182400220008850 20240102   1     13245" ∷
    "M         1000 859182400220009123 20240102   1      -337" ∷
    "M         1000 859182400220009260 20240102   1      -120" ∷
    "M         1000 859182400220009499 20240102   1     -3687" ∷
    "E 20240102   1         1004" ∷ [])
    ("A   0         1000" ∷
    "A   0         1001" ∷
    "A   0         1002" ∷
    "A   0         1003" ∷
    "A   0         1004" ∷
    "R   0 3" ∷
    "S   1   1        66" ∷
    "S   1   2       271" ∷
    "S   2   2       120" ∷
    "S   2   1         0" ∷
    "S   3   2      3514" ∷
    "U   1         0" ∷
    "U   2         0" ∷
    "U   3       173" ∷
    "V   1       154" ∷
    "V   2      9340" ∷
    "W   1 0" ∷
    "W   2 0" ∷
    "W   3 0" ∷
    "W   4 0" ∷
    "W   5 0" ∷ [])
    ∷ []

-- ---- codes ..071 and ..072

-- an accepted registration prints nothing, a refused one its answer
abbrev pub code_rows : List Row
code_rows =
    row "the check digit of ..071 is right"
    ("G   1   1 1" ∷
    "D 859182400220162071 0" ∷
    "O 859182400220162088 0 1   1 10000" ∷ [])
    []
    ∷
    row "the check digit of ..072 is false"
    ("G   1   1 1" ∷
    "D 859182400220162072 0" ∷
    "O 859182400220162088 0 1   1 10000" ∷ [])
    ("A   2            0" ∷ [])
    ∷ []

-- ---- the line that ends the registration

-- an event of either letter ends the registration, and a D line after it is malformed; the clear makes day 1 the kept day, so that a reading of day 0 is
-- refused, and the evaluation finds no readings
abbrev pub first_event_rows : List Row
first_event_rows =
    row "C is the first event"
    (list_group ++
    ("C 20240102            0" ∷
    "M         1000 859182400220162071 20240101   1      1001" ∷
    "D 859182400220162071 0" ∷ []))
    ("A   0            0" ∷
    "A  11            0" ∷
    "A   1            0" ∷ [])
    ∷
    row "E is the first event"
    (list_group ++
    ("E 20240102   1            0" ∷
    "D 859182400220162071 0" ∷ []))
    ("R   0 2" ∷
    "S   1   1         0" ∷
    "S   2   1         0" ∷
    "U   1         0" ∷
    "U   2         0" ∷
    "V   1         0" ∷
    "W   1 6" ∷
    "W   2 6" ∷
    "W   3 6" ∷
    "A   1            0" ∷ [])
    ∷ []

-- ---- days 90 and 300

-- day 90 is 20240331, day 300 is 20241027
abbrev pub day_rows : List Row
day_rows =
    row "day 90 has 92 quarters"
    (list_group ++
    ("M         1000 859182400220162071 20240331  92         1" ∷
    "M         1000 859182400220162071 20240331  93         1" ∷ []))
    ("A   0         1000" ∷
    "A   9            0" ∷ [])
    ∷
    row "day 300 has 100 quarters"
    (list_group ++
    ("M         1000 859182400220162071 20241027 100         1" ∷
    "M         1000 859182400220162071 20241027 101         1" ∷ []))
    ("A   0         1000" ∷
    "A   9            0" ∷ [])
    ∷ []

-- ---- 50 and 51 points

-- the first five producers
abbrev pub five_producers : List String
five_producers =
    "D 859182400220100004 0" ∷
    "D 859182400220100011 0" ∷
    "D 859182400220100028 0" ∷
    "D 859182400220100035 0" ∷
    "D 859182400220100042 0" ∷ []

-- the first 45 producers
abbrev pub producers : List String
producers =
    five_producers ++
    ("D 859182400220100059 0" ∷
    "D 859182400220100066 0" ∷
    "D 859182400220100073 0" ∷
    "D 859182400220100080 0" ∷
    "D 859182400220100097 0" ∷
    "D 859182400220100103 0" ∷
    "D 859182400220100110 0" ∷
    "D 859182400220100127 0" ∷
    "D 859182400220100134 0" ∷
    "D 859182400220100141 0" ∷
    "D 859182400220100158 0" ∷
    "D 859182400220100165 0" ∷
    "D 859182400220100172 0" ∷
    "D 859182400220100189 0" ∷
    "D 859182400220100196 0" ∷
    "D 859182400220100202 0" ∷
    "D 859182400220100219 0" ∷
    "D 859182400220100226 0" ∷
    "D 859182400220100233 0" ∷
    "D 859182400220100240 0" ∷
    "D 859182400220100257 0" ∷
    "D 859182400220100264 0" ∷
    "D 859182400220100271 0" ∷
    "D 859182400220100288 0" ∷
    "D 859182400220100295 0" ∷
    "D 859182400220100301 0" ∷
    "D 859182400220100318 0" ∷
    "D 859182400220100325 0" ∷
    "D 859182400220100332 0" ∷
    "D 859182400220100349 0" ∷
    "D 859182400220100356 0" ∷
    "D 859182400220100363 0" ∷
    "D 859182400220100370 0" ∷
    "D 859182400220100387 0" ∷
    "D 859182400220100394 0" ∷
    "D 859182400220100400 0" ∷
    "D 859182400220100417 0" ∷
    "D 859182400220100424 0" ∷
    "D 859182400220100431 0" ∷
    "D 859182400220100448 0" ∷ [])

-- five consumers, which all name the first producer
abbrev pub consumers : List String
consumers =
    "O 859182400220200001 0 1   1  2000" ∷
    "O 859182400220200018 0 1   1  2000" ∷
    "O 859182400220200025 0 1   1  2000" ∷
    "O 859182400220200032 0 1   1  2000" ∷
    "O 859182400220200049 0 1   1  2000" ∷ []

-- readings of the first producer and of two consumers, and the evaluation
abbrev pub events : List String
events =
    "M         1000 859182400220100004 20240102   1      1000" ∷
    "M         1000 859182400220200001 20240102   1     -1000" ∷
    "M         1000 859182400220200018 20240102   1      -250" ∷
    "E 20240102   1         1002" ∷ []

-- nothing remains of producers 2 to 45, which supplied nothing
abbrev pub remaining : List String
remaining =
    "V   2         0" ∷
    "V   3         0" ∷
    "V   4         0" ∷
    "V   5         0" ∷
    "V   6         0" ∷
    "V   7         0" ∷
    "V   8         0" ∷
    "V   9         0" ∷
    "V  10         0" ∷
    "V  11         0" ∷
    "V  12         0" ∷
    "V  13         0" ∷
    "V  14         0" ∷
    "V  15         0" ∷
    "V  16         0" ∷
    "V  17         0" ∷
    "V  18         0" ∷
    "V  19         0" ∷
    "V  20         0" ∷
    "V  21         0" ∷
    "V  22         0" ∷
    "V  23         0" ∷
    "V  24         0" ∷
    "V  25         0" ∷
    "V  26         0" ∷
    "V  27         0" ∷
    "V  28         0" ∷
    "V  29         0" ∷
    "V  30         0" ∷
    "V  31         0" ∷
    "V  32         0" ∷
    "V  33         0" ∷
    "V  34         0" ∷
    "V  35         0" ∷
    "V  36         0" ∷
    "V  37         0" ∷
    "V  38         0" ∷
    "V  39         0" ∷
    "V  40         0" ∷
    "V  41         0" ∷
    "V  42         0" ∷
    "V  43         0" ∷
    "V  44         0" ∷
    "V  45         0" ∷ []

-- nor has any of them a reading, in this week or an earlier one
abbrev pub lacking : List String
lacking =
    "W   2 6" ∷
    "W   3 6" ∷
    "W   4 6" ∷
    "W   5 6" ∷
    "W   6 6" ∷
    "W   7 6" ∷
    "W   8 6" ∷
    "W   9 6" ∷
    "W  10 6" ∷
    "W  11 6" ∷
    "W  12 6" ∷
    "W  13 6" ∷
    "W  14 6" ∷
    "W  15 6" ∷
    "W  16 6" ∷
    "W  17 6" ∷
    "W  18 6" ∷
    "W  19 6" ∷
    "W  20 6" ∷
    "W  21 6" ∷
    "W  22 6" ∷
    "W  23 6" ∷
    "W  24 6" ∷
    "W  25 6" ∷
    "W  26 6" ∷
    "W  27 6" ∷
    "W  28 6" ∷
    "W  29 6" ∷
    "W  30 6" ∷
    "W  31 6" ∷
    "W  32 6" ∷
    "W  33 6" ∷
    "W  34 6" ∷
    "W  35 6" ∷
    "W  36 6" ∷
    "W  37 6" ∷
    "W  38 6" ∷
    "W  39 6" ∷
    "W  40 6" ∷
    "W  41 6" ∷
    "W  42 6" ∷
    "W  43 6" ∷
    "W  44 6" ∷
    "W  45 6" ∷ []

-- the first consumer receives 200, 120, 86, 68 and 55 in five rounds, the second 200 and 50; in one round each receives 200
abbrev pub size_rows : List Row
size_rows =
    row "50 points: 5 rounds"
    (("G  45   5 1" ∷ []) ++ producers ++ consumers ++ events)
    (("A   0         1000" ∷
    "A   0         1001" ∷
    "A   0         1002" ∷
    "R   0 5" ∷
    "S   1   1       529" ∷
    "S   2   1       250" ∷
    "S   3   1         0" ∷
    "S   4   1         0" ∷
    "S   5   1         0" ∷
    "U   1       471" ∷
    "U   2         0" ∷
    "U   3         0" ∷
    "U   4         0" ∷
    "U   5         0" ∷
    "V   1       221" ∷ []) ++ remaining ++ ("W   1 0" ∷ []) ++ lacking ++
    ("W  46 0" ∷
    "W  47 0" ∷
    "W  48 6" ∷
    "W  49 6" ∷
    "W  50 6" ∷ []))
    ∷
    row "51 points: 1 round"
    (("G  46   5 1" ∷ []) ++ producers ++ ("D 859182400220100455 0" ∷ []) ++ consumers ++ events)
    (("A   0         1000" ∷
    "A   0         1001" ∷
    "A   0         1002" ∷
    "R   0 1" ∷
    "S   1   1       200" ∷
    "S   2   1       200" ∷
    "S   3   1         0" ∷
    "S   4   1         0" ∷
    "S   5   1         0" ∷
    "U   1       800" ∷
    "U   2        50" ∷
    "U   3         0" ∷
    "U   4         0" ∷
    "U   5         0" ∷
    "V   1       600" ∷ []) ++ remaining ++
    ("V  46         0" ∷
    "W   1 0" ∷ []) ++ lacking ++
    ("W  46 6" ∷
    "W  47 0" ∷
    "W  48 0" ∷
    "W  49 6" ∷
    "W  50 6" ∷
    "W  51 6" ∷ []))
    ∷ []

-- ---- limits of the registration

-- the producers after the first 45, up to the 62nd
abbrev pub more_producers : List String
more_producers =
    "D 859182400220100455 0" ∷
    "D 859182400220100462 0" ∷
    "D 859182400220100479 0" ∷
    "D 859182400220100486 0" ∷
    "D 859182400220100493 0" ∷
    "D 859182400220100509 0" ∷
    "D 859182400220100516 0" ∷
    "D 859182400220100523 0" ∷
    "D 859182400220100530 0" ∷
    "D 859182400220100547 0" ∷
    "D 859182400220100554 0" ∷
    "D 859182400220100561 0" ∷
    "D 859182400220100578 0" ∷
    "D 859182400220100585 0" ∷
    "D 859182400220100592 0" ∷
    "D 859182400220100608 0" ∷
    "D 859182400220100615 0" ∷ []

-- the five producers' readings, and their consumer's
abbrev pub five_readings : List String
five_readings =
    "M         1000 859182400220100004 20240102   1       101" ∷
    "M         1000 859182400220100011 20240102   1       205" ∷
    "M         1000 859182400220100028 20240102   1       309" ∷
    "M         1000 859182400220100035 20240102   1       400" ∷
    "M         1000 859182400220100042 20240102   1         7" ∷
    "M         1000 859182400220200001 20240102   1      -150" ∷ []

-- the consumer takes 30.9 of the third producer's supply and 50.5 of the first's, rounded down, then 7 and 41, and 22 of 133 are the rest of its
-- withdrawal; 62 producers and two consumers are 64 points, and without events nothing is printed
abbrev pub limit_rows : List Row
limit_rows =
    row "five producers named, in falling priority"
    (("G   5   1 1" ∷ []) ++ five_producers ++
    ("O 859182400220200001 0 5   3  1000   1  5000   5 10000   2  2000   4  3333" ∷ []) ++ five_readings ++
    ("E 20240102   1         1005" ∷ []))
    ("A   0         1000" ∷
    "A   0         1001" ∷
    "A   0         1002" ∷
    "A   0         1003" ∷
    "A   0         1004" ∷
    "A   0         1005" ∷
    "R   0 1" ∷
    "S   1   3        30" ∷
    "S   1   1        50" ∷
    "S   1   5         7" ∷
    "S   1   2        41" ∷
    "S   1   4        22" ∷
    "U   1         0" ∷
    "V   1        51" ∷
    "V   2       164" ∷
    "V   3       279" ∷
    "V   4       378" ∷
    "V   5         0" ∷
    "W   1 0" ∷
    "W   2 0" ∷
    "W   3 0" ∷
    "W   4 0" ∷
    "W   5 0" ∷
    "W   6 0" ∷ [])
    ∷
    row "six producers named: refused"
    (("G   6   1 1" ∷ []) ++ five_producers ++
    ("D 859182400220100059 0" ∷
    "O 859182400220200001 0 6   3  1000   1  5000   5 10000   2  2000   4  3333   6  1000" ∷ []))
    ("A   3            0" ∷ [])
    ∷
    row "64 points: accepted"
    (("G  62   2 1" ∷ []) ++ producers ++ more_producers ++
    ("O 859182400220200001 0 1   1  2000" ∷
    "O 859182400220200018 0 1  62  2000" ∷ []))
    []
    ∷
    row "65 points: refused"
    (("G  62   3 1" ∷ []) ++ producers ++ more_producers ++
    ("O 859182400220200001 0 1   1  2000" ∷
    "O 859182400220200018 0 1  62  2000" ∷
    "O 859182400220200025 0 1   1  2000" ∷ []))
    ("A   3            0" ∷ [])
    ∷ []

-- ---- means

-- the producer has no reading on 20240129, but has some one and two weeks before; the consumers have none
abbrev pub mean_rows : List Row
mean_rows =
    row "the mean of one reading is its value"
    (list_group ++
    ("M         1000 859182400220162071 20240122   1         1" ∷
    "E 20240129   1         1000" ∷ []))
    ("A   0         1000" ∷
    "R   0 2" ∷
    "S   1   1         0" ∷
    "S   2   1         0" ∷
    "U   1         0" ∷
    "U   2         0" ∷
    "V   1         1" ∷
    "W   1 1" ∷
    "W   2 6" ∷
    "W   3 6" ∷ [])
    ∷
    row "the mean of readings 1 and 2 is 2"
    (list_group ++
    ("M         1000 859182400220162071 20240122   1         1" ∷
    "M         1000 859182400220162071 20240115   1         2" ∷
    "E 20240129   1         1001" ∷ []))
    ("A   0         1000" ∷
    "A   0         1001" ∷
    "R   0 2" ∷
    "S   1   1         0" ∷
    "S   2   1         0" ∷
    "U   1         0" ∷
    "U   2         0" ∷
    "V   1         2" ∷
    "W   1 2" ∷
    "W   2 6" ∷
    "W   3 6" ∷ [])
    ∷ []

-- ---- origins

-- on 20240129 the producer has a reading of 0 and the consumers have none, but on none, one, two, three and four of the days one to four weeks before; the
-- one reading of the first of them is 0; the one with a status above 0 counts zero by it, and as measured once it has a reading of 0
abbrev pub origin_rows : List Row
origin_rows =
    row "each origin once, and no W line after a refused R line"
    ("G   1   6 0" ∷
    "D 859182400220162071 0" ∷
    "O 859182400220162088 0 1   1  1000" ∷
    "O 859182400220162095 0 1   1  1000" ∷
    "O 859182400220009123 0 1   1  1000" ∷
    "O 859182400220009260 0 1   1  1000" ∷
    "O 859182400220009499 2 1   1  1000" ∷
    "O 859182400220095201 0 1   1  1000" ∷
    "M         1000 859182400220162071 20240129   1         0" ∷
    "M         1000 859182400220162088 20240122   1         0" ∷
    "M         1000 859182400220162095 20240122   1        -3" ∷
    "M         1000 859182400220162095 20240115   1         0" ∷
    "M         1000 859182400220009123 20240115   1        -1" ∷
    "M         1000 859182400220009123 20240108   1        -1" ∷
    "M         1000 859182400220009123 20240101   1        -2" ∷
    "M         1000 859182400220009260 20240122   1        -1" ∷
    "M         1000 859182400220009260 20240115   1        -1" ∷
    "M         1000 859182400220009260 20240108   1        -2" ∷
    "M         1000 859182400220009260 20240101   1        -2" ∷
    "M         1000 859182400220009499 20240122   1        -9" ∷
    "E 20240129   1         1011" ∷
    "E 20240129   1         1012" ∷
    "M         1000 859182400220009499 20240129   1         0" ∷
    "E 20240129   1         1012" ∷ [])
    ("A   0         1000" ∷
    "A   0         1001" ∷
    "A   0         1002" ∷
    "A   0         1003" ∷
    "A   0         1004" ∷
    "A   0         1005" ∷
    "A   0         1006" ∷
    "A   0         1007" ∷
    "A   0         1008" ∷
    "A   0         1009" ∷
    "A   0         1010" ∷
    "A   0         1011" ∷
    "R   0 1" ∷
    "S   1   1         0" ∷
    "S   2   1         0" ∷
    "S   3   1         0" ∷
    "S   4   1         0" ∷
    "S   5   1         0" ∷
    "S   6   1         0" ∷
    "U   1         0" ∷
    "U   2         2" ∷
    "U   3         1" ∷
    "U   4         2" ∷
    "U   5         0" ∷
    "U   6         0" ∷
    "V   1         0" ∷
    "W   1 0" ∷
    "W   2 1" ∷
    "W   3 2" ∷
    "W   4 3" ∷
    "W   5 4" ∷
    "W   6 5" ∷
    "W   7 6" ∷
    "R  12 0" ∷
    "A   0         1012" ∷
    "R   0 1" ∷
    "S   1   1         0" ∷
    "S   2   1         0" ∷
    "S   3   1         0" ∷
    "S   4   1         0" ∷
    "S   5   1         0" ∷
    "S   6   1         0" ∷
    "U   1         0" ∷
    "U   2         2" ∷
    "U   3         1" ∷
    "U   4         2" ∷
    "U   5         0" ∷
    "U   6         0" ∷
    "V   1         0" ∷
    "W   1 0" ∷
    "W   2 1" ∷
    "W   3 2" ∷
    "W   4 3" ∷
    "W   5 4" ∷
    "W   6 0" ∷
    "W   7 6" ∷ [])
    ∷ []

-- ---- the same time of day by the wall clock

-- a producer and a bakery
abbrev pub bakery_group : List String
bakery_group =
    "G   1   1 0" ∷
    "D 859182400220162071 0" ∷
    "O 859182400220162088 0 1   1 10000" ∷ []

-- what the bakery withdrew is missing on a Sunday on which clocks change, or four weeks after one; what stands in for it is the mean of what it withdrew in
-- earlier weeks when the clock showed the same
abbrev pub wall_clock_rows : List Row
wall_clock_rows =
    row "the bakery at 05:00 on 31 March 2024, quarter 17: a week before, 05:00 was quarter 21, and quarter 17 was 04:00; a correction does not alter the result as of the stamp before it"
    (bakery_group ++
    ("M         1000 859182400220162088 20240324  17       -40" ∷
    "M         1000 859182400220162088 20240324  21      -300" ∷
    "M         1000 859182400220162071 20240331  17      1000" ∷
    "E 20240331  17         1002" ∷
    "M         1000 859182400220162088 20240324  21      -360" ∷
    "E 20240331  17         1003" ∷
    "E 20240331  17         1002" ∷ []))
    ("A   0         1000" ∷
    "A   0         1001" ∷
    "A   0         1002" ∷
    "R   0 1" ∷
    "S   1   1       300" ∷
    "U   1         0" ∷
    "V   1       700" ∷
    "W   1 0" ∷
    "W   2 1" ∷
    "A   0         1003" ∷
    "R   0 1" ∷
    "S   1   1       360" ∷
    "U   1         0" ∷
    "V   1       640" ∷
    "W   1 0" ∷
    "W   2 1" ∷
    "R   0 1" ∷
    "S   1   1       300" ∷
    "U   1         0" ∷
    "V   1       700" ∷
    "W   1 0" ∷
    "W   2 1" ∷ [])
    ∷
    row "the bakery at 05:00 on 27 October 2024, quarter 25: a week before, 05:00 was quarter 21, and quarter 25 was 06:00"
    (bakery_group ++
    ("M         1000 859182400220162088 20241020  21      -300" ∷
    "M         1000 859182400220162088 20241020  25       -40" ∷
    "M         1000 859182400220162071 20241027  25      1000" ∷
    "E 20241027  25         1002" ∷ []))
    ("A   0         1000" ∷
    "A   0         1001" ∷
    "A   0         1002" ∷
    "R   0 1" ∷
    "S   1   1       300" ∷
    "U   1         0" ∷
    "V   1       700" ∷
    "W   1 0" ∷
    "W   2 1" ∷ [])
    ∷
    row "02:15 for the first and the second time on 27 October 2024, quarters 10 and 14: a week before, 02:15 was quarter 10, and quarter 14 was 03:15"
    (bakery_group ++
    ("M         1000 859182400220162088 20241020  10      -120" ∷
    "M         1000 859182400220162088 20241020  14       -90" ∷
    "E 20241027  10         1001" ∷
    "E 20241027  14         1001" ∷ []))
    ("A   0         1000" ∷
    "A   0         1001" ∷
    "R   0 1" ∷
    "S   1   1         0" ∷
    "U   1       120" ∷
    "V   1         0" ∷
    "W   1 6" ∷
    "W   2 1" ∷
    "R   0 1" ∷
    "S   1   1         0" ∷
    "U   1       120" ∷
    "V   1         0" ∷
    "W   1 6" ∷
    "W   2 1" ∷ [])
    ∷
    row "28 April 2024, four weeks after 02:00 to 02:45 were missing: quarter 9, 02:00, has one week with a reading, and quarter 13, 03:00, that of quarter 9 on 31 March"
    (bakery_group ++
    ("M         1000 859182400220162088 20240331   9       -70" ∷
    "M         1000 859182400220162088 20240421   9       -50" ∷
    "E 20240428   9         1001" ∷
    "E 20240428  13         1001" ∷ []))
    ("A   0         1000" ∷
    "A   0         1001" ∷
    "R   0 1" ∷
    "S   1   1         0" ∷
    "U   1        50" ∷
    "V   1         0" ∷
    "W   1 6" ∷
    "W   2 1" ∷
    "R   0 1" ∷
    "S   1   1         0" ∷
    "U   1        70" ∷
    "V   1         0" ∷
    "W   1 6" ∷
    "W   2 1" ∷ [])
    ∷
    row "24 November 2024, four weeks after 02:00 to 02:45 came twice: quarter 10, 02:15, is the mean of the first on 27 October and of 17 November, and quarter 14, 03:15, takes quarter 18 of 27 October"
    (bakery_group ++
    ("M         1000 859182400220162088 20241027  10       -80" ∷
    "M         1000 859182400220162088 20241027  14       -20" ∷
    "M         1000 859182400220162088 20241027  18       -33" ∷
    "M         1000 859182400220162088 20241117  10       -91" ∷
    "E 20241124  10         1003" ∷
    "E 20241124  14         1003" ∷ []))
    ("A   0         1000" ∷
    "A   0         1001" ∷
    "A   0         1002" ∷
    "A   0         1003" ∷
    "R   0 1" ∷
    "S   1   1         0" ∷
    "U   1        86" ∷
    "V   1         0" ∷
    "W   1 6" ∷
    "W   2 2" ∷
    "R   0 1" ∷
    "S   1   1         0" ∷
    "U   1        33" ∷
    "V   1         0" ∷
    "W   1 6" ∷
    "W   2 1" ∷ [])
    ∷ []

-- ---- K 100

-- day 100 is 20240410, 127 is 20240507, 128 is 20240508; the clear drops the reading of day 99 and keeps the one shown at P, which is the mean on day 128
abbrev pub clear_rows : List Row
clear_rows =
    row "K 100: day 127 is not evaluated, day 128 is"
    (list_group ++
    ("M         1000 859182400220162071 20240409   1       400" ∷
    "M         1000 859182400220162071 20240410   1       500" ∷
    "C 20240410         1001" ∷
    "E 20240507   1         1001" ∷
    "E 20240508   1         1001" ∷
    "M         1000 859182400220162071 20240409   1       400" ∷ []))
    ("A   0         1000" ∷
    "A   0         1001" ∷
    "A   0            1" ∷
    "R  11 0" ∷
    "R   0 2" ∷
    "S   1   1         0" ∷
    "S   2   1         0" ∷
    "U   1         0" ∷
    "U   2         0" ∷
    "V   1       500" ∷
    "W   1 1" ∷
    "W   2 6" ∷
    "W   3 6" ∷
    "A  11            0" ∷ [])
    ∷ []

-- ---- the other refusals that a text can have: 14 would take 1001 M lines, more than 32768 bytes hold; the program's own record, journal and result list
-- give no cause for 15 and 16

-- of a registration: it prints its answer and ends, whatever follows
abbrev pub refused_group_rows : List Row
refused_group_rows =
    row "1: not in its columns"
    ("G 1 2 1" ∷
    "D 859182400220162071 0" ∷
    "O 859182400220162088 0 1   1  4000" ∷
    "O 859182400220162095 0 1   1  6000" ∷ [])
    ("A   1            0" ∷ [])
    ∷
    row "3: 0 consumers"
    ("G   1   0 1" ∷
    "D 859182400220162071 0" ∷ [])
    ("A   3            0" ∷ [])
    ∷
    row "4: two equal D lines"
    ("G   2   1 1" ∷
    "D 859182400220162071 0" ∷
    "D 859182400220162071 0" ∷
    "O 859182400220162088 0 1   1  4000" ∷ [])
    ("A   4            0" ∷ [])
    ∷
    row "5: status 4"
    ("G   1   2 1" ∷
    "D 859182400220162071 4" ∷
    "O 859182400220162088 0 1   1  4000" ∷
    "O 859182400220162095 0 1   1  6000" ∷ [])
    ("A   5            0" ∷ [])
    ∷
    row "6: key 0"
    ("G   1   2 1" ∷
    "D 859182400220162071 0" ∷
    "O 859182400220162088 0 1   1     0" ∷
    "O 859182400220162095 0 1   1  6000" ∷ [])
    ("A   6            0" ∷ [])
    ∷
    row "7: keys 4000 and 6001"
    (("G   1   2 1" ∷
    "D 859182400220162071 0" ∷
    "O 859182400220162088 0 1   1  4000" ∷
    "O 859182400220162095 0 1   1  6001" ∷ []) ++ list_readings)
    ("A   7            0" ∷ [])
    ∷ []

-- of an event: it alters nothing, and later lines are answered as if it were not there
abbrev pub refused_event_rows : List Row
refused_event_rows =
    row "1: columns too narrow, a clock of 13 digits, and a line of the registration among the events"
    (list_group ++ list_readings ++
    ("M 1000 859182400220162071 20240102 1 1001" ∷
    "M1000000000000 859182400220162071 20240102   1      1001" ∷
    "D 859182400220162071 0" ∷
    "E 20240102   1         1002" ∷ []))
    (list_stamps ++
    ("A   1            0" ∷
    "A   1            0" ∷
    "A   1            0" ∷ []) ++ list_result)
    ∷
    row "8: a code that is not in the group"
    (list_group ++ list_readings ++
    ("M         1000 859182400110035201 20240102   1      -100" ∷
    "E 20240102   1         1002" ∷ []))
    (list_stamps ++ ("A   8            0" ∷ []) ++ list_result)
    ∷
    row "9: 20250229, of each event"
    (list_group ++
    ("M         1000 859182400220162071 20250229   1      1001" ∷
    "C 20250229            0" ∷
    "E 20250229   1            0" ∷ []))
    ("A   9            0" ∷
    "A   9            0" ∷
    "R   9 0" ∷ [])
    ∷
    row "10: a producer with -1"
    (list_group ++ list_readings ++
    ("M         1000 859182400220162071 20240102   1        -1" ∷
    "E 20240102   1         1002" ∷ []))
    (list_stamps ++ ("A  10            0" ∷ []) ++ list_result)
    ∷
    row "12: T 1003"
    (list_group ++ list_readings ++ ("E 20240102   1         1003" ∷ []))
    (list_stamps ++ ("R  12 0" ∷ []))
    ∷
    row "13: the last stamp is 999999999999"
    (list_group ++
    ("M 999999999999 859182400220162071 20240102   1      1001" ∷
    "M         1000 859182400220162088 20240102   1      -100" ∷ []))
    ("A   0 999999999999" ∷
    "A  13            0" ∷ [])
    ∷ []

-- ---- the table

-- all rows
abbrev pub rows : List Row
rows = list_rows ++ example_rows ++ code_rows ++ first_event_rows ++ day_rows ++ size_rows ++ limit_rows ++ mean_rows ++ origin_rows ++ wall_clock_rows ++ clear_rows ++ refused_group_rows ++ refused_event_rows

-- what program `share` writes for a row's input
abbrev pub writes : Row → List ℕ
writes w = share (text w.input)

-- what the row says that it writes
abbrev pub expected : Row → List ℕ
expected w = text w.output

-- both are the same list of bytes in every row
abbrev pub TableHolds : Type 0
TableHolds = map writes rows ≡ map expected rows
