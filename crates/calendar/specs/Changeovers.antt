-- The table of changeover days: the days on which clocks change, from 2024 to 2099, that of March and that of October in turn. Assumes nothing.
use Rattle.std.specs.Prelude.{ℕ, ◌+◌, ◌/◌, ◌%◌, Bool, cond, ◌&&◌, List, [], ◌∷◌, ltb, eqb, length, get_or, Option}
use Rattle.std.specs.Bool.{then_some}
use Rattle.lists.specs.Below.{every}
use Rattle.calendar.specs.Quarters.{last_sunday}

-- how many entries the table has: two for each year
abbrev pub changeover_count : ℕ
changeover_count = 152

-- the entries, as days counted from 1 January 2024, which is day 0
unfoldable pub changeovers : List ℕ
changeovers =
    90 ∷ 300 ∷ 454 ∷ 664 ∷ 818 ∷ 1028 ∷ 1182 ∷ 1399 ∷
    1546 ∷ 1763 ∷ 1910 ∷ 2127 ∷ 2281 ∷ 2491 ∷ 2645 ∷ 2855 ∷
    3009 ∷ 3226 ∷ 3373 ∷ 3590 ∷ 3737 ∷ 3954 ∷ 4101 ∷ 4318 ∷
    4472 ∷ 4682 ∷ 4836 ∷ 5046 ∷ 5200 ∷ 5417 ∷ 5564 ∷ 5781 ∷
    5928 ∷ 6145 ∷ 6299 ∷ 6509 ∷ 6663 ∷ 6873 ∷ 7027 ∷ 7237 ∷
    7391 ∷ 7608 ∷ 7755 ∷ 7972 ∷ 8119 ∷ 8336 ∷ 8490 ∷ 8700 ∷
    8854 ∷ 9064 ∷ 9218 ∷ 9435 ∷ 9582 ∷ 9799 ∷ 9946 ∷ 10163 ∷
    10317 ∷ 10527 ∷ 10681 ∷ 10891 ∷ 11045 ∷ 11255 ∷ 11409 ∷ 11626 ∷
    11773 ∷ 11990 ∷ 12137 ∷ 12354 ∷ 12508 ∷ 12718 ∷ 12872 ∷ 13082 ∷
    13236 ∷ 13453 ∷ 13600 ∷ 13817 ∷ 13964 ∷ 14181 ∷ 14328 ∷ 14545 ∷
    14699 ∷ 14909 ∷ 15063 ∷ 15273 ∷ 15427 ∷ 15644 ∷ 15791 ∷ 16008 ∷
    16155 ∷ 16372 ∷ 16526 ∷ 16736 ∷ 16890 ∷ 17100 ∷ 17254 ∷ 17464 ∷
    17618 ∷ 17835 ∷ 17982 ∷ 18199 ∷ 18346 ∷ 18563 ∷ 18717 ∷ 18927 ∷
    19081 ∷ 19291 ∷ 19445 ∷ 19662 ∷ 19809 ∷ 20026 ∷ 20173 ∷ 20390 ∷
    20544 ∷ 20754 ∷ 20908 ∷ 21118 ∷ 21272 ∷ 21482 ∷ 21636 ∷ 21853 ∷
    22000 ∷ 22217 ∷ 22364 ∷ 22581 ∷ 22735 ∷ 22945 ∷ 23099 ∷ 23309 ∷
    23463 ∷ 23680 ∷ 23827 ∷ 24044 ∷ 24191 ∷ 24408 ∷ 24555 ∷ 24772 ∷
    24926 ∷ 25136 ∷ 25290 ∷ 25500 ∷ 25654 ∷ 25871 ∷ 26018 ∷ 26235 ∷
    26382 ∷ 26599 ∷ 26753 ∷ 26963 ∷ 27117 ∷ 27327 ∷ 27481 ∷ 27691 ∷
    []

-- the entry at a place, counted from 0; 0 beyond the last, where nothing asks for it
abbrev pub changeover_day : ℕ → ℕ
changeover_day place = get_or changeovers place 0

-- the entry at a place as a caller gets it, none beyond the last
unfoldable pub changeover_at : ℕ → Option ℕ
changeover_at place = then_some (ltb place changeover_count) (changeover_day place)

-- the year of a place: two entries a year, from 2024 on
abbrev pub changeover_year : ℕ → ℕ
changeover_year place = 2024 + place / 2

-- the month of a place: March at the even places, October at the odd ones
abbrev pub changeover_month : ℕ → ℕ
changeover_month place = cond (eqb (place % 2) 0) 3 10

-- the rule over the whole table: it has 152 entries, and at each of its places stands the last Sunday of the place's month and year
unfoldable pub by_last_sundays : Bool
by_last_sundays =
    eqb (length changeovers) changeover_count
    && every (λ place. eqb (changeover_day place) (last_sunday (changeover_year place) (changeover_month place))) changeover_count
