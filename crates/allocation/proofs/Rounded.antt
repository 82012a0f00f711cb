-- The rounds in the working arrays, one after the other, and the allocation that the arrays hold after the last. Assumes nothing.
use Prim.Native.Nat.{ℕ, ◌+◌, ◌-◌, ◌≤◌, ◌<◌}
use mathlib.Core.Path.{◌≡◌, refl, sym, ap, ◌∙◌}
use mathlib.Core.Bool.{Bool, true, false}
use mathlib.Core.List.{List}
use native.Mathlib.Omega.{arith}
use native.Mathlib.Nat.{le_antisymm, add-sub_of_le}
use native.Mathlib.Numerals.{add-one}
use lib.Dec.{leb}
use lib.ListN.{get_or}
use borrow.Author.Tests.{leb-true, leb-false}
use Rattle.lists.proofs.TableLaws.{table_at}
use Rattle.registration.specs.declared.Registration.{Registration}
use Rattle.registration.specs.Rules.{count_at, place_at}
use Rattle.lists.proofs.Below.{sum_none, sum_next}
use Rattle.values.specs.Values.{magnitude_most}
use Rattle.allocation.specs.declared.Allocated.{Allocated}
use Rattle.allocation.specs.Input.{Shareable, Magnitudes}
use Rattle.allocation.specs.Rounds.{Remaining, withdrawal_at, supply_at, share_in, round_of, after_rounds, received}
use Rattle.allocation.specs.Result.{Allocation, pairs_of, rounds_for, allocation_of}
use Rattle.allocation.specs.Working.{remaining_in, PairsWithin, RoundMade, allocation_in}
use Rattle.lists.proofs.Sums.{sum_term}
use Rattle.allocation.proofs.Pairs.{pairs_same}
use Rattle.allocation.proofs.Laws.{supply_adds_up, withdrawal_adds_up, within_withdrawal}

after_none : (r : Registration) (start : Remaining) → after_rounds r start 0 ≡ start
unfolding after_rounds
after_none r start = refl

after_next : (r : Registration) (start : Remaining) (n : ℕ) → after_rounds r start (n + 1) ≡ round_of r (after_rounds r start n)
unfolding after_rounds
after_next r start n = rw add-one

-- equal lists and round counts make equal allocations
equal_lists : {s s' w w' p p' : List ℕ} {n n' : ℕ} → s ≡ s' → w ≡ w' → p ≡ p' → n ≡ n'
    → ◌≡◌ {A = Allocation} (record { shares = s; withdrawals = w; supplies = p; rounds = n })
    (record { shares = s'; withdrawals = w'; supplies = p'; rounds = n' })
equal_lists e f g h = rw (e, f, g, h)

-- so many rounds have been made
pub record Rounded (r : Registration) (most : ℕ) (magnitudes : List ℕ) (allocated : Allocated) (round : ℕ) : Type 0 where
  pub passed : round ≤ most
  pub rounds : allocated.rounds ≡ most
  pub remains : remaining_in r allocated.left ≡ after_rounds r (remaining_in r magnitudes) round
  pub sums : (consumer priority : ℕ) → consumer < r.consumers → priority < count_at r consumer
      → place_at allocated.shares consumer priority ≡ received r (remaining_in r magnitudes) round consumer priority

pub rounded_none : (r : Registration) (allocated : Allocated) → ((place : ℕ) → get_or allocated.shares place 0 ≡ 0)
    → Rounded r allocated.rounds allocated.left allocated 0
rounded_none r allocated none =
    record {
      passed = omega arith;
      rounds = refl;
      remains = sym (after_none r (remaining_in r allocated.left));
      sums = λ c k h l. none _ ∙ sym (sum_none _);
    }

module _ {r : Registration} (s : Shareable r) {most round : ℕ} {magnitudes : List ℕ} {allocated : Allocated}
    (m : Magnitudes r (λ point. get_or magnitudes point 0)) (t : Rounded r most magnitudes allocated round) where
  supply_left : (p : ℕ) → p < r.producers → get_or allocated.left p 0 ≤ magnitude_most
  supply_left p h =
      let here : get_or allocated.left p 0 ≡ supply_at (after_rounds r (remaining_in r magnitudes) round) p =
      sym (table_at (λ point. get_or allocated.left point 0) r.producers p h) ∙ ap (λ (x : Remaining). supply_at x p) t.remains in
      let first = table_at (λ point. get_or magnitudes point 0) r.producers p h in
      omega (arith, here, first, supply_adds_up r (remaining_in r magnitudes) round s p h, m p (omega arith))

  withdrawal_left : (c : ℕ) → c < r.consumers → get_or allocated.left (r.producers + c) 0 ≤ magnitude_most
  withdrawal_left c h =
      let here : get_or allocated.left (r.producers + c) 0 ≡ withdrawal_at (after_rounds r (remaining_in r magnitudes) round) c =
      sym (table_at (λ c. get_or allocated.left (r.producers + c) 0) r.consumers c h) ∙ ap (λ (x : Remaining). withdrawal_at x c) t.remains in
      let first = table_at (λ c. get_or magnitudes (r.producers + c) 0) r.consumers c h in
      omega (arith, here, first, withdrawal_adds_up r (remaining_in r magnitudes) round c h, m (r.producers + c) (omega arith))

  -- what is left of each point is at most what there was
  pub still_magnitudes : Magnitudes r (λ point. get_or allocated.left point 0)
  still_magnitudes point h = go (leb r.producers point) refl
    where
      go : (b : Bool) → leb r.producers point ≡ b → get_or allocated.left point 0 ≤ magnitude_most
      go true e =
          let l = leb-true r.producers point e in
          rw (← add-sub_of_le l) (withdrawal_left (point - r.producers) (omega arith))
      go false e = supply_left point (leb-false r.producers point e)

  -- what a pair has received is within its consumer's withdrawal
  pub still_within : PairsWithin r allocated.shares
  still_within c k h l =
      let first = table_at (λ c. get_or magnitudes (r.producers + c) 0) r.consumers c h in
      omega (
        arith,
        t.sums c k h l,
        sum_term (received r (remaining_in r magnitudes) round c) (count_at r c) k l,
        within_withdrawal r (remaining_in r magnitudes) round c h,
        first,
        m (r.producers + c) (omega arith),
      )

  -- one round more
  pub rounded_next : {after : Allocated} → round < most → RoundMade r allocated after → Rounded r most magnitudes after (round + 1)
  rounded_next h made =
      record {
        passed = omega arith;
        rounds = made.rounds ∙ t.rounds;
        remains = made.left ∙ rw (t.remains, after_next);
        sums = λ c k l n.
            let share = ap (λ (start : Remaining). share_in r start c k) t.remains in
            omega (
              arith,
              made.shares c k l n,
              t.sums c k l n,
              share,
              sum_next (λ n. share_in r (after_rounds r (remaining_in r magnitudes) n) c k) round,
            );
      }

  -- after the last round the arrays hold the allocation
  module _ (h : most ≤ round) (e : most ≡ rounds_for r) where
    rounds_same : round ≡ rounds_for r
    rounds_same = le_antisymm t.passed h ∙ e

    remains_last : remaining_in r allocated.left ≡ after_rounds r (remaining_in r magnitudes) (rounds_for r)
    remains_last = t.remains ∙ ap (after_rounds r (remaining_in r magnitudes)) rounds_same

    shares_last : pairs_of r (place_at allocated.shares) ≡ pairs_of r (received r (remaining_in r magnitudes) (rounds_for r))
    shares_last =
        pairs_same r _ _ (λ c k l n. t.sums c k l n ∙ ap (λ (i : ℕ). received r (remaining_in r magnitudes) i c k) rounds_same)

    pub held : allocation_in r allocated ≡ allocation_of r (λ point. get_or magnitudes point 0)
    unfolding allocation_of
    held =
        equal_lists shares_last (ap (λ (x : Remaining). x.withdrawals) remains_last) (ap (λ (x : Remaining). x.supplies) remains_last) (t.rounds ∙ e)
