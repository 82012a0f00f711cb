-- Each number of an answer fits its column. Assumes nothing.
use Prim.Native.Nat.{ℕ, ◌+◌, ◌<◌}
use mathlib.Core.Path.{◌≡◌}
use mathlib.Core.Bool.{true}
use mathlib.Core.List.{List, [], ◌∷◌}
use native.Mathlib.Nat.{zero-add}
use native.Mathlib.Omega.{arith}
use borrow.Author.Tests.{lt-ltb}
use Rattle.answers.specs.declared.Refusal.{Refusal}
use Rattle.answers.specs.declared.Refusal.TheVariants.{NotInColumns, CodeFalse, CountOutside, CodeTwice, StatusOrIterationAbove, ProducerOrKeyWrong, KeysAbove, CodeNotInGroup, NoSuchDay, ValueWrong, DayCleared, StampOutside, ClockOutside, JournalFull, Damaged, TooShort}
use Rattle.std.specs.Prelude.{Ok, Err}
use Rattle.answers.specs.Numbers.{Verdict, number_of, answer_of}
use Rattle.columns.specs.Fields.{fitting}
use Rattle.registration.specs.declared.Registration.{Registration}
use Rattle.allocation.specs.Input.{Shareable}
use Rattle.allocation.proofs.Shareable.{few_points, pair_of}
use Rattle.registration.specs.Pairs.{pairs_before}
use Rattle.evaluation.specs.Layout.{Shares, Withdrawals, Supplies, Origins}
use Rattle.evaluation.proofs.Parts.{shares_there}
use Rattle.evaluation.proofs.ResultBounds.{ResultWithin}
use Rattle.service.specs.Call.{Submission, Clear, Evaluation}
use Rattle.service.specs.Record.{call_on}
use Rattle.service.proofs.Cores.{evaluation_asked}
use Rattle.service.proofs.Returned.{stamp_returned, dropped_returned, rounds_returned, result_returned}
use Rattle.event_writer.specs.Answers.{widths_a, widths_r, widths_s, widths_of_remaining, widths_w}
use Rattle.event_text.specs.Laws.{ResultFits, NumbersFit}
use Rattle.event_calls.proofs.Sizes.{evaluation_passed}

-- each column of an answer's line, from what its numbers are below
fits__a : (answer number : ℕ) → answer < 1000 → number < 1000000000000 → fitting widths_a (answer ∷ number ∷ []) ≡ true
unfolding fitting
fits__a answer number h l = rw (lt-ltb answer 1000 h, lt-ltb number 1000000000000 l)

fits__r : (answer rounds : ℕ) → answer < 1000 → rounds < 10 → fitting widths_r (answer ∷ rounds ∷ []) ≡ true
unfolding fitting
fits__r answer rounds h l = rw (lt-ltb answer 1000 h, lt-ltb rounds 10 l)

fits__s : (consumer producer share : ℕ) → consumer < 1000 → producer < 1000 → share < 1000000000
    → fitting widths_s (consumer ∷ producer ∷ share ∷ []) ≡ true
unfolding fitting
fits__s consumer producer share h l m = rw (lt-ltb consumer 1000 h, lt-ltb producer 1000 l, lt-ltb share 1000000000 m)

fits_remaining : (point remaining : ℕ) → point < 1000 → remaining < 1000000000 → fitting widths_of_remaining (point ∷ remaining ∷ []) ≡ true
unfolding fitting
fits_remaining point remaining h l = rw (lt-ltb point 1000 h, lt-ltb remaining 1000000000 l)

fits__w : (point origin : ℕ) → point < 1000 → origin < 10 → fitting widths_w (point ∷ origin ∷ []) ≡ true
unfolding fitting
fits__w point origin h l = rw (lt-ltb point 1000 h, lt-ltb origin 10 l)

-- the greatest number of a refusal is 16
refusal_small : (refusal : Refusal) → number_of refusal < 1000
refusal_small NotInColumns = omega arith
refusal_small CodeFalse = omega arith
refusal_small CountOutside = omega arith
refusal_small CodeTwice = omega arith
refusal_small StatusOrIterationAbove = omega arith
refusal_small ProducerOrKeyWrong = omega arith
refusal_small KeysAbove = omega arith
refusal_small CodeNotInGroup = omega arith
refusal_small NoSuchDay = omega arith
refusal_small ValueWrong = omega arith
refusal_small DayCleared = omega arith
refusal_small StampOutside = omega arith
refusal_small ClockOutside = omega arith
refusal_small JournalFull = omega arith
refusal_small Damaged = omega arith
refusal_small TooShort = omega arith

answer_small : (verdict : Verdict) → answer_of verdict < 1000
answer_small (Ok _) = omega arith
answer_small (Err refusal) = refusal_small refusal

-- the numbers of a result that are within, in a group of at most 64 points
result_fits : (r : Registration) (numbers : List ℕ) → Shareable r → ResultWithin r numbers → ResultFits r numbers
result_fits r numbers s within =
    record {
      shares = λ consumer priority h l.
          fits__s (consumer + 1) _ _ (omega (arith, few_points s)) (omega (arith, few_points s, (pair_of s consumer priority h l).source_most))
          (omega (arith, rw zero-add at (within Shares (pairs_before r consumer + priority) (omega (arith, shares_there r consumer h)))));
      withdrawals = λ consumer h. fits_remaining (consumer + 1) _ (omega (arith, few_points s)) (omega (arith, within Withdrawals consumer h));
      supplies = λ producer h. fits_remaining (producer + 1) _ (omega (arith, few_points s)) (omega (arith, within Supplies producer h));
      origins = λ point h. fits__w (point + 1) _ (omega (arith, few_points s)) (omega (arith, within Origins point h));
    }

-- every call, whatever the record, on a journal of the program's size
pub call_fits : NumbersFit
call_fits s j (Submission clock m) e =
    fits__a _ _ (answer_small (call_on s j (Submission clock m)).seen.verdict)
    (omega (arith, stamp_returned s j clock m))
call_fits s j (Clear day stamp) e =
    fits__a _ _ (answer_small (call_on s j (Clear day stamp)).seen.verdict) (omega (arith, dropped_returned s j day stamp))
call_fits s j (Evaluation day quarter T lent) e = (
  fits__r _ _ (answer_small (call_on s j (Evaluation day quarter T lent)).seen.verdict) (omega (arith, rounds_returned s j day quarter T lent)),
  λ accepted.
      result_fits s.registration _ (evaluation_asked s j (record { day = day; quarter = quarter; until = T }) lent (evaluation_passed s j day quarter T lent accepted)).0
      (result_returned s j day quarter T lent accepted),
)
