-- Registrations with one rule broken beside undamaged ones, by one test that is computed over the rows of a table. Assumes nothing.
use Prim.Native.Nat.{ℕ, ◌+◌, ◌-◌, ◌*◌, ◌/◌, ◌%◌, min}
use Prim.Native.String.{String}
use mathlib.Core.Path.{◌≡◌, refl}
use mathlib.Core.Bool.{Bool, true, cond, ◌&&◌}
use mathlib.Core.List.{List, [], ◌∷◌, ◌++◌}
use lib.Dec.{leb, eqb}
use lib.ListN.{set, replicate}
use Rattle.lists.specs.Below.{every, sum_below, differ}
use Rattle.lists.specs.Tables.{joined, table}
use Rattle.registration.specs.declared.Registration.{Registration}
use Rattle.registration.specs.Code.{weighted, is_code}
use Rattle.registration.specs.Rules.{point_counts_right, codes_true, statuses_right, codes_differ, pairs_right, consumers_right, keys_right}
use Rattle.registration.specs.Damage.{unused_zero, is_damaged, empty}

-- a registration from its parts, in the order of the struct
abbrev made : (producers consumers iteration : ℕ) → (codes statuses counts sources keys : List ℕ) → Registration
made producers consumers iteration codes statuses counts sources keys =
    record {
      producers = producers;
      consumers = consumers;
      iteration = iteration;
      codes = codes;
      statuses = statuses;
      counts = counts;
      sources = sources;
      keys = keys;
    }

-- one producer, which supplies one consumer by the whole key. Its arrays end with so many zeros, 319 make them whole. What stands after the end of a
-- list counts as 0: with fewer zeros it is the same group, and quicker to compute
unfoldable one_with : (zeros : ℕ) → Registration
one_with zeros =
    made 1 1 0 (859182400220162071 ∷ 859182400220162088 ∷ replicate (min 62 zeros) 0) (3 ∷ 0 ∷ replicate (min 62 zeros) 0)
    (1 ∷ replicate (min 63 zeros) 0) (1 ∷ replicate zeros 0) (10000 ∷ replicate zeros 0)

-- with no unused number
abbrev one : Registration
one = one_with 0

-- with a few
abbrev few : Registration
few = one_with 5

-- with all of them
abbrev whole : Registration
whole = one_with 319

-- six producers and two consumers: the first names five producers, the second the sixth and the first, whose keys sum to 10000
unfoldable group : Registration
group =
    made 6 2 1
    (859182400220162071 ∷ 859182400220162088 ∷ 859182400220162095 ∷ 859182400220162101 ∷ 859182400220162118 ∷ 859182400220162125
    ∷ 859182400220162132 ∷ 859182400220162149 ∷ [])
    (0 ∷ 1 ∷ 2 ∷ 3 ∷ 0 ∷ 0 ∷ 0 ∷ 3 ∷ [])
    (5 ∷ 2 ∷ [])
    (1 ∷ 2 ∷ 3 ∷ 4 ∷ 5 ∷ 6 ∷ 1 ∷ [])
    (4000 ∷ 2000 ∷ 10000 ∷ 1 ∷ 3000 ∷ 10000 ∷ 6000 ∷ [])

-- a true code for each number below 100: a 1 in front, then zeros, the number and the check digit
unfoldable numbered : ℕ → ℕ
numbered n = 100000000000000000 + 10 * n + (10 - (3 * 1 + n / 10 + 3 * (n % 10)) % 10) % 10

-- one producer and so many consumers, who each name it with the key 1
unfoldable consumers_of_one : ℕ → Registration
consumers_of_one consumers =
    let places = joined (λ consumer. 1 ∷ 0 ∷ 0 ∷ 0 ∷ 0 ∷ []) consumers in
    made 1 consumers 0 (table numbered (1 + consumers)) [] (replicate consumers 1) places places

-- a number of a registration altered: by point, by consumer, or by consumer and priority, from 0
data Altered : Type 0 where
  Producers : ℕ → Altered
  Consumers : ℕ → Altered
  Iteration : ℕ → Altered
  Code : (point code : ℕ) → Altered
  Status : (point status : ℕ) → Altered
  Count : (consumer count : ℕ) → Altered
  Source : (consumer priority source : ℕ) → Altered
  Key : (consumer priority key : ℕ) → Altered

-- the registration so altered
unfoldable alter : Registration → Altered → Registration
alter r (Producers n) = made n r.consumers r.iteration r.codes r.statuses r.counts r.sources r.keys
alter r (Consumers n) = made r.producers n r.iteration r.codes r.statuses r.counts r.sources r.keys
alter r (Iteration n) = made r.producers r.consumers n r.codes r.statuses r.counts r.sources r.keys
alter r (Code point n) = made r.producers r.consumers r.iteration (set r.codes point n) r.statuses r.counts r.sources r.keys
alter r (Status point n) = made r.producers r.consumers r.iteration r.codes (set r.statuses point n) r.counts r.sources r.keys
alter r (Count consumer n) = made r.producers r.consumers r.iteration r.codes r.statuses (set r.counts consumer n) r.sources r.keys
alter r (Source consumer priority n) = made r.producers r.consumers r.iteration r.codes r.statuses r.counts (set r.sources (5 * consumer + priority) n) r.keys
alter r (Key consumer priority n) = made r.producers r.consumers r.iteration r.codes r.statuses r.counts r.sources (set r.keys (5 * consumer + priority) n)

-- what a row shows, a registration, what is altered in it, and how many rules are broken then
record Row : Type 0 where
  shows : String
  start : Registration
  altered : List Altered
  broken : ℕ

-- no rule is broken
abbrev undamaged : String → Registration → List Altered → Row
undamaged shows start altered = record { shows = shows; start = start; altered = altered; broken = 0 }

-- one rule is broken alone
abbrev damaged : String → Registration → List Altered → Row
damaged shows start altered = record { shows = shows; start = start; altered = altered; broken = 1 }

-- two rules are broken, of which one cannot be broken without the other
abbrev damaged_twice : String → Registration → List Altered → Row
damaged_twice shows start altered = record { shows = shows; start = start; altered = altered; broken = 2 }

-- points: with no producer the consumer names one that the group has not, so that two rules are broken; 65 points need a list of 65 codes
unfoldable points : List Row
points =
    damaged "nothing but zeros" empty [] ∷
    undamaged "a producer and a consumer" one [] ∷
    damaged_twice "no producer" one (Producers 0 ∷ Code 1 0 ∷ []) ∷
    damaged "no consumer" one (Consumers 0 ∷ Code 1 0 ∷ Count 0 0 ∷ Source 0 0 0 ∷ Key 0 0 0 ∷ []) ∷
    undamaged "64 points" (consumers_of_one 63) [] ∷
    damaged "65 points" (consumers_of_one 64) [] ∷
    undamaged "iteration 1, status 3, count 5, keys that sum to 10000" group [] ∷
    undamaged "iteration 0" group (Iteration 0 ∷ []) ∷
    damaged "iteration 2" group (Iteration 2 ∷ []) ∷
    undamaged "status 3 of a producer" group (Status 0 3 ∷ []) ∷
    damaged "status 4 of a producer" group (Status 0 4 ∷ []) ∷
    damaged "status 4 of the last consumer" group (Status 7 4 ∷ []) ∷ []

-- codes: of those with another number of digits the check digit is right
unfoldable codes : List Row
codes =
    damaged "a false check digit of a producer" group (Code 0 859182400220162072 ∷ []) ∷
    damaged "a false check digit of the last consumer" group (Code 7 859182400220162148 ∷ []) ∷
    undamaged "the least code" group (Code 0 100000000000000007 ∷ []) ∷
    damaged "17 digits, the first of 18 being 0" group (Code 0 10000000000000009 ∷ []) ∷
    undamaged "the greatest code" group (Code 0 999999999999999995 ∷ []) ∷
    damaged "19 digits" group (Code 0 1000000000000000000 ∷ []) ∷
    damaged "two producers with one code" group (Code 1 859182400220162071 ∷ []) ∷
    damaged "a producer and a consumer with one code" group (Code 6 859182400220162071 ∷ []) ∷
    damaged "two consumers with one code" group (Code 7 859182400220162132 ∷ []) ∷ []

-- pairs: six producers would end with the first of the next consumer, who names another; a key of 10001 breaks the rule on the sum too
unfoldable pairs : List Row
pairs =
    damaged "count 0" one (Count 0 0 ∷ Source 0 0 0 ∷ Key 0 0 0 ∷ []) ∷
    damaged "count 6" group (Count 0 6 ∷ []) ∷
    damaged "producer number 0" group (Source 1 1 0 ∷ []) ∷
    damaged "producer number 7 of 6" group (Source 1 1 7 ∷ []) ∷
    damaged "a producer named twice" group (Source 0 4 2 ∷ []) ∷
    damaged "key 0" group (Key 0 3 0 ∷ []) ∷
    damaged_twice "key 10001" group (Key 0 2 10001 ∷ []) ∷
    undamaged "keys that sum to 9999" group (Key 1 1 5999 ∷ []) ∷
    damaged "keys that sum to 10001" group (Key 1 1 6001 ∷ []) ∷ []

-- unused numbers that are not 0: the first and the last of each sort
unfoldable unused : List Row
unused =
    undamaged "a few unused numbers" few [] ∷
    damaged "a code after the points" few (Code 2 1 ∷ []) ∷
    damaged "a status after the points" few (Status 2 1 ∷ []) ∷
    damaged "a count after the consumers" few (Count 1 1 ∷ []) ∷
    damaged "a source after a consumer's count" few (Source 0 1 1 ∷ []) ∷
    damaged "a source at a consumer's last priority" few (Source 0 4 1 ∷ []) ∷
    damaged "a source after the last consumer" few (Source 1 0 1 ∷ []) ∷
    damaged "a key after a consumer's count" few (Key 0 1 1 ∷ []) ∷
    damaged "a key at a consumer's last priority" few (Key 0 4 1 ∷ []) ∷
    damaged "a key after the last consumer" few (Key 1 0 1 ∷ []) ∷
    undamaged "whole arrays" whole [] ∷
    damaged "the last code" whole (Code 63 1 ∷ []) ∷
    damaged "the last status" whole (Status 63 1 ∷ []) ∷
    damaged "the last count" whole (Count 63 1 ∷ []) ∷
    damaged "the last source" whole (Source 63 4 1 ∷ []) ∷
    damaged "the last key" whole (Key 63 4 1 ∷ []) ∷ []

-- the registration with its alterations, one after the other
unfoldable alter_all : Registration → List Altered → Registration
alter_all r [] = r
alter_all r (a ∷ rest) = alter_all (alter r a) rest

-- the rules in turn: whether each is kept
abbrev kept : Registration → List Bool
kept r =
    point_counts_right r.producers r.consumers ∷ leb r.iteration 1 ∷ codes_true r ∷ statuses_right r ∷ codes_differ r ∷ consumers_right r ∷ keys_right r
    ∷ unused_zero r ∷ []

-- how many are not
unfoldable not_kept : List Bool → ℕ
not_kept [] = 0
not_kept (rule ∷ rules) = cond rule 0 1 + not_kept rules

-- so many rules are broken in each row's registration, and it is damaged where any is
unfoldable right : List Row → Bool
right [] = true
right (w ∷ ws) =
    let r = alter_all w.start w.altered in
    eqb (not_kept (kept r)) w.broken && cond (is_damaged r) (leb 1 w.broken) (eqb w.broken 0) && right ws

-- every row is right
cases : right (points ++ codes ++ pairs ++ unused) ≡ true
unfolding one_with group empty numbered consumers_of_one alter alter_all not_kept right points codes pairs unused every sum_below differ joined weighted is_code pairs_right is_damaged
cases = refl
