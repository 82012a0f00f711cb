-- The layout of a result: its parts in the order in which they stand, how many numbers each has and where it begins. Assumes nothing.
use Rattle.std.specs.Prelude.{ℕ, ◌+◌, ◌≡◌, List, ◌++◌, length, take, drop}
use Rattle.lists.specs.Place.{placed}
use Rattle.registration.specs.declared.Registration.{Registration}
use Rattle.registration.specs.Rules.{points}
use Rattle.registration.specs.Pairs.{pairs_in}
use Rattle.evaluation.specs.Evaluation.{Result}
use Rattle.evaluation.specs.declared.Layout.{Layout}

-- the parts: pair shares, remaining withdrawals, remaining supplies, origins
pub data Part : Type 0 where
  Shares : Part
  Withdrawals : Part
  Supplies : Part
  Origins : Part

-- how many numbers a part has: one for each pair, each consumer, each producer, each point
abbrev pub length_of : Registration → Part → ℕ
length_of r Shares = pairs_in r
length_of r Withdrawals = r.consumers
length_of r Supplies = r.producers
length_of r Origins = points r

-- where a part begins: after the parts before it
abbrev pub begin_of : Registration → Part → ℕ
begin_of r Shares = 0
begin_of r Withdrawals = length_of r Shares
begin_of r Supplies = length_of r Shares + length_of r Withdrawals
begin_of r Origins = length_of r Shares + length_of r Withdrawals + length_of r Supplies

-- how many numbers a result has: it ends where its last part ends
abbrev pub size_of : Registration → ℕ
size_of r = begin_of r Origins + length_of r Origins

-- the most numbers that the result of an undamaged registration has: with 59 consumers that name 5 producers each
abbrev pub result_most : ℕ
result_most = 423

-- the numbers of a part in a result list
abbrev pub part_in : Registration → Part → List ℕ → List ℕ
part_in r part numbers = take (length_of r part) (drop (begin_of r part) numbers)

-- a part of a result
abbrev pub part_of : Result → Part → List ℕ
part_of result Shares = result.allocation.shares
part_of result Withdrawals = result.allocation.withdrawals
part_of result Supplies = result.allocation.supplies
part_of result Origins = result.origins

-- the numbers of a result: the parts one after the other
abbrev pub result_of : Result → List ℕ
result_of result = part_of result Shares ++ (part_of result Withdrawals ++ (part_of result Supplies ++ part_of result Origins))

-- each part of a result has as many numbers as the layout says
abbrev pub HasLengths : Registration → Result → Type 0
HasLengths r result = (part : Part) → length (part_of result part) ≡ length_of r part

-- the code's layout: where the parts after the shares begin, and how many numbers a result has
pub record LaidOut (r : Registration) (layout : Layout) : Type 0 where
  pub withdrawals : layout.withdrawals ≡ begin_of r Withdrawals
  pub supplies : layout.supplies ≡ begin_of r Supplies
  pub origins : layout.origins ≡ begin_of r Origins
  pub size : layout.size ≡ size_of r

-- a result put into a list: the round count returned, and the list, of which the numbers after the result stay
pub record ResultPut (result : Result) (before after : List ℕ) (returned : ℕ) : Type 0 where
  pub rounds : returned ≡ result.allocation.rounds
  pub list : after ≡ placed 0 (result_of result) before
