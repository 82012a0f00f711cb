-- The worked examples of the published method with all their numbers, 50 and 51 points, and means, by one test that is computed over the rows
-- of a table. Magnitudes and shares are in hundredths of a kWh, keys in hundredths of a percent. Assumes nothing.
use Prim.Native.Nat.{ℕ, zero, suc, ◌+◌, ◌-◌, ◌*◌, ◌%◌}
use Prim.Native.String.{String}
use mathlib.Core.Path.{◌≡◌, refl}
use mathlib.Core.Bool.{Bool, true, not, ◌&&◌}
use mathlib.Core.List.{List, [], ◌∷◌, ◌++◌, map}
use lib.ListN.{length, get_or, replicate}
use lib.Dec.{eqb}
use Rattle.lists.specs.Tables.{joined, table}
use Rattle.registration.specs.declared.Registration.{Registration}
use Rattle.lists.specs.Below.{every, sum_below, differ}
use Rattle.registration.specs.Code.{is_code, weighted}
use Rattle.registration.specs.Rules.{pairs_right}
use Rattle.registration.specs.Damage.{is_damaged}
use Rattle.registration.specs.Pairs.{of_consumer, of_producer}
use Rattle.allocation.specs.Rounds.{withdrawal_at, rounds_of, left_at, offer_in, share_in, round_of, after_rounds, received}
use Rattle.allocation.specs.Result.{start_of, pairs_of, rounds_for}
use Rattle.lookup.specs.Mean.{sum_of, nearest, mean_of}
use Rattle.case_table.proofs.Same.{same}

-- a producer that a consumer names, by its number, and the key
record Named : Type 0 where
  source : ℕ
  key : ℕ

-- a producer by a key, as in 1 by 4000
infixl 60 ◌by◌
abbrev ◌by◌ : ℕ → ℕ → Named
source by key = record { source = source; key = key }

-- numbers of so many places, of which those not used are 0
unfoldable padded : ℕ → List ℕ → List ℕ
padded zero numbers = []
padded (suc n) [] = 0 ∷ padded n []
padded (suc n) (number ∷ numbers) = number ∷ padded n numbers

-- five places for each of 64 consumers
unfoldable places : (Named → ℕ) → ℕ → List (List Named) → List ℕ
places number zero consumers = []
places number (suc n) [] = padded 5 [] ++ places number n []
places number (suc n) (names ∷ consumers) = padded 5 (map number names) ++ places number n consumers

-- a group of active points: its iteration, the codes of its producers and of its consumers, and whom each consumer names
unfoldable group : ℕ → List ℕ → List ℕ → List (List Named) → Registration
group iteration producers consumers names =
    record {
      producers = length producers;
      consumers = length consumers;
      iteration = iteration;
      codes = padded 64 (producers ++ consumers);
      statuses = replicate 64 0;
      counts = padded 64 (map length names);
      sources = places (λ n. n.source) 64 names;
      keys = places (λ n. n.key) 64 names;
    }

-- a household that shares with itself
unfoldable example1 : Registration
example1 = group 1 (859182400220162071 ∷ []) (859182400220162088 ∷ []) (((1 by 10000) ∷ []) ∷ [])

-- a cottage and a flat
unfoldable example2 : Registration
example2 =
    group 1 (859182400220095195 ∷ []) (859182400220095201 ∷ 859182400110035201 ∷ [])
    (((1 by 4000) ∷ []) ∷ ((1 by 6000) ∷ []) ∷ [])

-- four flats of a house, without iteration
unfoldable example3 : Registration
example3 =
    group 0 (859182400220170793 ∷ [])
    (859182400220170809 ∷ 859182400220170915 ∷ 859182400220170922 ∷ 859182400220170939 ∷ [])
    (((1 by 2500) ∷ []) ∷ ((1 by 2500) ∷ []) ∷ ((1 by 2500) ∷ []) ∷ ((1 by 2500) ∷ []) ∷ [])

-- a municipality: town hall, library and nursery school
unfoldable example4 : Registration
example4 =
    group 1 (859182400220009116 ∷ 859182400220008850 ∷ [])
    (859182400220009123 ∷ 859182400220009260 ∷ 859182400220009499 ∷ [])
    (((1 by 3000) ∷ (2 by 1000) ∷ []) ∷ ((2 by 1000) ∷ (1 by 7000) ∷ []) ∷ ((2 by 1000) ∷ []) ∷ [])

-- the group of case LIST
unfoldable list : Registration
list =
    group 1 (859182400220162071 ∷ []) (859182400220162088 ∷ 859182400220162095 ∷ [])
    (((1 by 4000) ∷ []) ∷ ((1 by 6000) ∷ []) ∷ [])

-- a true code from 17 digits: the check digit behind them
unfoldable coded : ℕ → ℕ
coded digits = 10 * digits + (10 - weighted 17 3 digits % 10) % 10

-- so many producers and consumers, of which each consumer names the first producer with the same key
unfoldable alike : (producers consumers key : ℕ) → Registration
alike producers consumers key =
    group 1 (table (λ i. coded (85918240022010000 + i)) producers) (table (λ i. coded (85918240022020000 + i)) consumers)
    (replicate consumers ((1 by key) ∷ []))

-- what a row shows; the group, how many rounds it has, and the magnitudes of its points; after how many rounds. Then, for each pair, its
-- share in the last of them, what its consumer has left after it, and its shares in all of them; the remaining withdrawals and supplies; and
-- the sums for each consumer and from each producer
record Row : Type 0 where
  shows : String
  registration : Registration
  rounds : ℕ
  magnitudes : List ℕ
  after : ℕ
  last : List ℕ
  left : List ℕ
  shares : List ℕ
  withdrawals : List ℕ
  supplies : List ℕ
  consumed : List ℕ
  produced : List ℕ

-- a row, its parts in this order
abbrev row : String → Registration → ℕ → List ℕ → ℕ → List ℕ → List ℕ → List ℕ → List ℕ → List ℕ → List ℕ → List ℕ → Row
row shows registration rounds magnitudes after last left shares withdrawals supplies consumed produced =
    record {
      shows = shows;
      registration = registration;
      rounds = rounds;
      magnitudes = magnitudes;
      after = after;
      last = last;
      left = left;
      shares = shares;
      withdrawals = withdrawals;
      supplies = supplies;
      consumed = consumed;
      produced = produced;
    }

-- the magnitudes of the examples' points
unfoldable cottage : List ℕ
cottage = 751 ∷ 37 ∷ 1221 ∷ []

unfoldable municipality : List ℕ
municipality = 220 ∷ 13245 ∷ 337 ∷ 120 ∷ 3687 ∷ []

unfoldable rows : List Row
rows =
    row "example 1" example1 1 (951 ∷ 422 ∷ []) 1 (422 ∷ []) (0 ∷ []) (422 ∷ []) (0 ∷ []) (529 ∷ []) (422 ∷ []) (422 ∷ []) ∷
    row "example 2, round 1" example2 2 cottage 1 (37 ∷ 450 ∷ []) (0 ∷ 771 ∷ []) (37 ∷ 450 ∷ []) (0 ∷ 771 ∷ []) (264 ∷ []) (37 ∷ 450 ∷ []) (487 ∷ []) ∷
    row "example 2, round 2" example2 2 cottage 2 (0 ∷ 158 ∷ []) (0 ∷ 613 ∷ []) (37 ∷ 608 ∷ []) (0 ∷ 613 ∷ []) (106 ∷ []) (37 ∷ 608 ∷ []) (645 ∷ []) ∷
    row "example 3" example3 1 (1742 ∷ 45 ∷ 233 ∷ 425 ∷ 1520 ∷ []) 1 (45 ∷ 233 ∷ 425 ∷ 435 ∷ []) (0 ∷ 0 ∷ 0 ∷ 1085 ∷ [])
    (45 ∷ 233 ∷ 425 ∷ 435 ∷ []) (0 ∷ 0 ∷ 0 ∷ 1085 ∷ []) (604 ∷ []) (45 ∷ 233 ∷ 425 ∷ 435 ∷ []) (1138 ∷ []) ∷
    row "example 4, round 1" example4 3 municipality 1 (66 ∷ 271 ∷ 120 ∷ 0 ∷ 1324 ∷ []) (271 ∷ 0 ∷ 0 ∷ 0 ∷ 2363 ∷ [])
    (66 ∷ 271 ∷ 120 ∷ 0 ∷ 1324 ∷ []) (0 ∷ 0 ∷ 2363 ∷ []) (154 ∷ 11530 ∷ []) (337 ∷ 120 ∷ 1324 ∷ []) (66 ∷ 1715 ∷ []) ∷
    row "example 4, round 2" example4 3 municipality 2 (0 ∷ 0 ∷ 0 ∷ 0 ∷ 1153 ∷ []) (0 ∷ 0 ∷ 0 ∷ 0 ∷ 1210 ∷ [])
    (66 ∷ 271 ∷ 120 ∷ 0 ∷ 2477 ∷ []) (0 ∷ 0 ∷ 1210 ∷ []) (154 ∷ 10377 ∷ []) (337 ∷ 120 ∷ 2477 ∷ []) (66 ∷ 2868 ∷ []) ∷
    row "example 4, round 3" example4 3 municipality 3 (0 ∷ 0 ∷ 0 ∷ 0 ∷ 1037 ∷ []) (0 ∷ 0 ∷ 0 ∷ 0 ∷ 173 ∷ [])
    (66 ∷ 271 ∷ 120 ∷ 0 ∷ 3514 ∷ []) (0 ∷ 0 ∷ 173 ∷ []) (154 ∷ 9340 ∷ []) (337 ∷ 120 ∷ 3514 ∷ []) (66 ∷ 3905 ∷ []) ∷
    row "LIST" list 2 (1001 ∷ 100 ∷ 900 ∷ []) 2 (0 ∷ 180 ∷ []) (0 ∷ 120 ∷ []) (100 ∷ 780 ∷ []) (0 ∷ 120 ∷ []) (121 ∷ []) (100 ∷ 780 ∷ []) (880 ∷ []) ∷
    row "50 points iterate" (alike 48 2 5000) 2 ((1000 ∷ replicate 47 0) ++ (1000 ∷ 0 ∷ [])) 2 (250 ∷ 0 ∷ []) (250 ∷ 0 ∷ [])
    (750 ∷ 0 ∷ []) (250 ∷ 0 ∷ []) (250 ∷ replicate 47 0) (750 ∷ 0 ∷ []) (750 ∷ replicate 47 0) ∷
    row "51 points do not" (alike 49 2 5000) 1 ((1000 ∷ replicate 48 0) ++ (1000 ∷ 0 ∷ [])) 1 (500 ∷ 0 ∷ []) (500 ∷ 0 ∷ [])
    (500 ∷ 0 ∷ []) (500 ∷ 0 ∷ []) (500 ∷ replicate 48 0) (500 ∷ 0 ∷ []) (500 ∷ replicate 48 0) ∷
    row "six consumers have five rounds" (alike 1 6 1000) 5 (1000 ∷ 1000 ∷ replicate 5 0) 5 (65 ∷ replicate 5 0) (592 ∷ replicate 5 0)
    (408 ∷ replicate 5 0) (592 ∷ replicate 5 0) (592 ∷ []) (408 ∷ replicate 5 0) (408 ∷ []) ∷ []

-- the group has its rounds, and its numbers are the row's
unfoldable right : Row → Bool
right w =
    let r = w.registration in
    let start = start_of r (λ point. get_or w.magnitudes point 0) in
    let before = after_rounds r start (w.after - 1) in
    let remaining = after_rounds r start w.after in
    let share = received r start w.after in
    eqb (rounds_for r) w.rounds
    && same (pairs_of r (share_in r before)) w.last
    && same (pairs_of r (λ consumer priority. left_at (offer_in r before consumer) (withdrawal_at before consumer) (priority + 1))) w.left
    && same (pairs_of r share) w.shares
    && same remaining.withdrawals w.withdrawals
    && same remaining.supplies w.supplies
    && same (table (of_consumer r share) r.consumers) w.consumed
    && same (table (of_producer r share) r.producers) w.produced

-- the groups of the rows
unfoldable groups : List Registration
groups = example1 ∷ example2 ∷ example3 ∷ example4 ∷ list ∷ alike 48 2 5000 ∷ alike 49 2 5000 ∷ alike 1 6 1000 ∷ []

-- a registration that no rule refuses
abbrev undamaged : Registration → Bool
undamaged r = not (is_damaged r)

-- values that exist, and their mean
record Mean : Type 0 where
  values : List ℕ
  mean : ℕ

-- values and their mean, as in 1 ∷ 2 ∷ [] has 2
infixl 3 ◌has◌
abbrev ◌has◌ : List ℕ → ℕ → Mean
values has mean = record { values = values; mean = mean }

unfoldable means : List Mean
means =
    ((1 ∷ []) has 1) ∷ ((1 ∷ 2 ∷ []) has 2) ∷ ((1 ∷ 1 ∷ 2 ∷ []) has 1) ∷ ((1 ∷ 2 ∷ 2 ∷ []) has 2) ∷ ((0 ∷ 0 ∷ 0 ∷ 1 ∷ []) has 0)
    ∷ ((0 ∷ 0 ∷ 1 ∷ 1 ∷ []) has 1) ∷ ((99999999 ∷ 99999999 ∷ 99999999 ∷ 99999998 ∷ []) has 99999999) ∷ []

-- the mean of the values is the row's
abbrev meant : Mean → Bool
meant m = eqb (mean_of m.values) m.mean

-- the test holds of every row
unfoldable all : {A : Type 0} → (A → Bool) → List A → Bool
all test [] = true
all test (w ∷ ws) = test w && all test ws

-- every row is right, and its group undamaged
cases : all undamaged groups && all right rows && all meant means ≡ true
unfolding all right groups rows means same cottage municipality padded places group example1 example2 example3 example4 list coded alike joined is_damaged every sum_below differ pairs_right is_code weighted rounds_of left_at round_of after_rounds sum_of nearest
cases = refl
