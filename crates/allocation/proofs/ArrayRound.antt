-- A round in the working arrays is a round of the definitions. Assumes nothing.
use Prim.Native.Nat.{ℕ, zero, suc, ◌+◌, ◌-◌, ◌≤◌, ◌<◌}
use mathlib.Core.Path.{◌≡◌, refl, sym, ap, ◌∙◌}
use mathlib.Core.Bool.{cond}
use mathlib.Core.List.{List}
use native.Mathlib.Omega.{arith}
use lib.Dec.{eqb}
use lib.ListN.{get_or}
use Rattle.lists.proofs.TableLaws.{table_at, table_same}
use Rattle.registration.specs.declared.Registration.{Registration}
use Rattle.lists.specs.Below.{sum_below}
use Rattle.registration.specs.Rules.{count_at, source_at}
use Rattle.lists.proofs.Below.{sum_same}
use Rattle.allocation.specs.Input.{Shareable}
use Rattle.registration.specs.Pairs.{of_producer}
use Rattle.allocation.specs.Rounds.{Remaining, withdrawal_at, left_at, offer_in, share_in, round_of}
use Rattle.allocation.specs.declared.Allocated.{Allocated}
use Rattle.allocation.specs.Working.{remaining_in, RoundMade}
use Rattle.allocation.proofs.Shareable.{pair_of}
use Rattle.allocation.proofs.Turns.{offer_for, share_for, taken_for, Fallen, Given}
use Rattle.allocation.proofs.Producers.{taken_within_supply}

-- what a consumer has left depends on the offers at the priorities passed alone
left_same : (f g : ℕ → ℕ) (withdrawal n : ℕ) → ((k : ℕ) → k < n → f k ≡ g k) → left_at f withdrawal n ≡ left_at g withdrawal n
unfolding left_at
left_same f g withdrawal zero same = refl
left_same f g withdrawal (suc n) same = rw (left_same f g withdrawal n (λ k h. same k (omega arith)), same n (omega arith))

-- equal parts make equal remainders
equal_parts : {w w' p p' : List ℕ} → w ≡ w' → p ≡ p'
    → ◌≡◌ {A = Remaining} (record { withdrawals = w; supplies = p }) (record { withdrawals = w'; supplies = p' })
equal_parts e f = rw (e, f)

module _ {r : Registration} (s : Shareable r) (start : List ℕ) where
  module _ (consumer : ℕ) (h : consumer < r.consumers) where
    offer_same : (k : ℕ) → k < count_at r consumer
        → offer_for r.counts r.sources r.keys start r.producers r.consumers consumer k ≡ offer_in r (remaining_in r start) consumer k
    offer_same k l =
        let b = pair_of s consumer k h l in
        rw (table_at (λ point. get_or start point 0) r.producers (source_at r consumer k - 1) (omega (arith, b.source_least, b.source_most)))

    withdrawal_same : get_or start (r.producers + consumer) 0 ≡ withdrawal_at (remaining_in r start) consumer
    withdrawal_same = sym (table_at (λ c. get_or start (r.producers + c) 0) r.consumers consumer h)

    -- a consumer's turn leaves it what the definition says
    rest_same : (n : ℕ) → n ≤ count_at r consumer
        → left_at (offer_for r.counts r.sources r.keys start r.producers r.consumers consumer) (get_or start (r.producers + consumer) 0) n
        ≡ left_at (offer_in r (remaining_in r start) consumer) (withdrawal_at (remaining_in r start) consumer) n
    rest_same n m = left_same _ _ _ n (λ k l. offer_same k (omega arith)) ∙ rw withdrawal_same

    -- and gives it the definition's shares
    share_same : (k : ℕ) → k < count_at r consumer
        → share_for r.counts r.sources r.keys start r.producers r.consumers consumer k ≡ share_in r (remaining_in r start) consumer k
    share_same k l = rw (rest_same k (omega arith), offer_same k l)

  -- what all consumers take from a producer
  taken_same : (producer : ℕ)
      → sum_below (λ c. taken_for r.counts r.sources r.keys start r.producers r.consumers producer c (count_at r c)) r.consumers
      ≡ of_producer r (share_in r (remaining_in r start)) producer
  taken_same producer =
      sum_same _ _ r.consumers
      (λ consumer h. sum_same _ _ (count_at r consumer) (λ k l. ap (λ (share : ℕ). cond (eqb (source_at r consumer k) (producer + 1)) share 0) (share_same consumer h k l)))

  -- it is no more than its supply
  pub taken_within : (producer : ℕ) → producer < r.producers
      → sum_below (λ c. taken_for r.counts r.sources r.keys start r.producers r.consumers producer c (count_at r c)) r.consumers
      ≤ get_or start producer 0
  taken_within producer h =
      rw (taken_same producer, ← table_at (λ point. get_or start point 0) r.producers producer h)
      (taken_within_supply r (remaining_in r start) producer s h)

  -- after all turns the round is made
  pub round_made : {before after : Allocated} → before.left ≡ start
      → Fallen r.counts r.sources r.keys start r.producers r.consumers r.consumers (count_at r) after.left
      → Given r.counts r.sources r.keys start r.producers r.consumers before.shares after.shares r.consumers
      → after.rounds ≡ before.rounds
      → RoundMade r before after
  unfolding round_of
  round_made e f g same =
      record {
        left =
            rw e (equal_parts (table_same _ _ r.consumers (λ c h. f.withdrawals c h ∙ rest_same c h (count_at r c) (omega arith)))
            (table_same _ _ r.producers
            (λ p h.
            let supply = table_at (λ point. get_or start point 0) r.producers p h in
            omega (arith, f.supplies p h, taken_same p, supply))));
        shares = λ c k h l. rw e (g.added c k h l ∙ rw (share_same c h k l));
        rounds = same;
      }
