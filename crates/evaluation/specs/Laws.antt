-- What users of a result rely on, stated of its definitions; the proofs stand in proofs/Laws.antt, proofs/Alike.antt and
-- proofs/Reached.antt. Assumes nothing.
use Rattle.std.specs.Prelude.{ℕ, ◌+◌, ◌≤◌, ◌<◌, ◌≡◌, true, false, List, length, get_or}
use Rattle.lists.specs.Place.{placed}
use Rattle.registration.specs.declared.Registration.{Registration}
use Rattle.registration.specs.Rules.{points}
use Rattle.registration.specs.Damage.{is_damaged}
use Rattle.registration.specs.Pairs.{of_consumer, of_producer, pairs_before, pairs_in}
use Rattle.calendar.specs.Quarters.{quarter_exists}
use Rattle.allocation.specs.Input.{Shareable}
use Rattle.journal.specs.Order.{Reading}
use Rattle.lookup.specs.declared.PointValue.{PointValue}
use Rattle.lookup.specs.Substitutes.{number_of_origin}
use Rattle.lookup.specs.ByNumber.{NoneOfFive}
use Rattle.evaluation.specs.Evaluation.{Result, result_from, evaluation_of}
use Rattle.evaluation.specs.ByNumber.{evaluation_by_number}
use Rattle.evaluation.specs.Layout.{Part, Shares, Withdrawals, Supplies, Origins, size_of, result_most, part_in, part_of, result_of, HasLengths}

-- one share for each pair, one remaining withdrawal for each consumer, one remaining supply for each producer, one origin for each of both
pub record OneForEach (r : Registration) (result : Result) : Type 0 where
  pub shares : length (part_of result Shares) ≡ pairs_in r
  pub withdrawals : length (part_of result Withdrawals) ≡ r.consumers
  pub supplies : length (part_of result Supplies) ≡ r.producers
  pub origins : length (part_of result Origins) ≡ r.producers + r.consumers

-- so many numbers has each part of a result
abbrev pub PartLengths : Type 0
PartLengths = (r : Registration) (value : ℕ → PointValue) → OneForEach r (result_from r value)

-- so a result has as many numbers as the layout says
abbrev pub ResultSize : Type 0
ResultSize = (r : Registration) (value : ℕ → PointValue) → length (result_of (result_from r value)) ≡ size_of r

-- in a list that a result is put into each part stands at its place
abbrev pub PartsStand : Type 0
PartsStand =
    (r : Registration) (result : Result) → HasLengths r result → (lent : List ℕ) (part : Part)
    → part_in r part (placed 0 (result_of result) lent) ≡ part_of result part

-- a pair's number in a result list: the pairs come first, consumers in order and priorities within
abbrev pub pair_number : Registration → List ℕ → (consumer priority : ℕ) → ℕ
pair_number r numbers consumer priority = get_or numbers (pairs_before r consumer + priority) 0

-- a consumer's number in a result list: the consumers come after the pairs
abbrev pub consumer_number : Registration → List ℕ → ℕ → ℕ
consumer_number r numbers consumer = get_or numbers (pairs_in r + consumer) 0

-- a producer's number in a result list: the producers come after the consumers
abbrev pub producer_number : Registration → List ℕ → ℕ → ℕ
producer_number r numbers producer = get_or numbers (pairs_in r + r.consumers + producer) 0

-- a point's origin in a result list: the origins come after the producers' numbers, producers first
abbrev pub origin_number : Registration → List ℕ → ℕ → ℕ
origin_number r numbers point = get_or numbers (pairs_in r + r.consumers + r.producers + point) 0

-- in a list that a result is put into the numbers of a producer's pairs and its own number add up to the magnitude of its value, which it supplied
abbrev pub ResultKeepsSupplies : Type 0
ResultKeepsSupplies =
    (r : Registration) (value : ℕ → PointValue) (lent : List ℕ) → Shareable r → (producer : ℕ) → producer < r.producers
    → let numbers = placed 0 (result_of (result_from r value)) lent in
    of_producer r (pair_number r numbers) producer + producer_number r numbers producer ≡ (value producer).magnitude

-- and the numbers of a consumer's pairs and its own number to the magnitude of its value, which it withdrew
abbrev pub ResultKeepsWithdrawals : Type 0
ResultKeepsWithdrawals =
    (r : Registration) (value : ℕ → PointValue) (lent : List ℕ) (consumer : ℕ) → consumer < r.consumers
    → let numbers = placed 0 (result_of (result_from r value)) lent in
    of_consumer r (pair_number r numbers) consumer + consumer_number r numbers consumer ≡ (value (r.producers + consumer)).magnitude

-- and each point's number of an origin there is that of its value's
abbrev pub ResultHasOrigins : Type 0
ResultHasOrigins =
    (r : Registration) (value : ℕ → PointValue) (lent : List ℕ) (point : ℕ) → point < points r
    → origin_number r (placed 0 (result_of (result_from r value)) lent) point ≡ number_of_origin (value point).origin

-- the result of an undamaged registration has no more numbers than the most
abbrev pub ResultWithinMost : Type 0
ResultWithinMost = (r : Registration) → is_damaged r ≡ false → size_of r ≤ result_most

-- and there is one whose result has so many
pub record MostReached : Type 0 where
  pub registration : Registration
  pub undamaged : is_damaged registration ≡ false
  pub size : size_of registration ≡ result_most

-- where clocks change on none of the five days, the day itself and those of the four earlier weeks, the whole evaluation is what it was by quarter numbers
abbrev pub UnchangedEvaluation : Type 0
UnchangedEvaluation =
    (r : Registration) (readings : ℕ → ℕ → ℕ → List Reading) (day quarter T : ℕ) → quarter_exists day quarter ≡ true → NoneOfFive day
    → evaluation_of r readings day quarter T ≡ evaluation_by_number r readings day quarter T
