-- Where nothing is damaged no call is refused by 15. Assumes nothing.
use Prim.Native.Nat.{ℕ}
use native.Mathlib.Omega.{arith}
use mathlib.Core.Path.{◌≡◌, ap}
use mathlib.Core.Bool.{Bool, true, false}
use mathlib.Core.Logic.{◌≢◌}
use mathlib.Core.List.{List}
use Rattle.values.specs.declared.Measurement.{Measurement}
use Rattle.answers.specs.declared.Refusal.{Refusal}
use Rattle.answers.specs.declared.Refusal.TheVariants.{CodeNotInGroup, NoSuchDay, ValueWrong, DayCleared, StampOutside, ClockOutside}
use Rattle.answers.specs.declared.Refusal.TheVariants.{JournalFull, Damaged, TooShort}
use Rattle.answers.specs.Numbers.{Verdict}
use Rattle.std.specs.Prelude.{Ok, Err}
use Rattle.answers.specs.Numbers.{number_of, answer_of}
use Rattle.answers.specs.Order.{refuse◌if◌else◌}
use Rattle.group.specs.Group.{Group}
use Rattle.group.specs.Refusals.{damaged, submission_verdict, clear_verdict, evaluation_verdict}

-- a test with another number
other : (n : Refusal) (b : Bool) (later : Verdict) → number_of n ≢ 15 → later ≢ Err Damaged → refuse n if b else later ≢ Err Damaged
unfolding refuse◌if◌else◌
other n true later h k = λ e. h (ap answer_of e)
other n false later h k = k

-- the test for damage, which finds none
first : (b : Bool) (later : Verdict) → b ≡ false → later ≢ Err Damaged → refuse Damaged if b else later ≢ Err Damaged
unfolding refuse◌if◌else◌
first b later e k = rw e k

-- acceptance is no refusal
accepted : ◌≢◌ {A = Verdict} (Ok tt) (Err Damaged)
accepted e = omega (arith, ap answer_of e)

-- the three orders of refusals, of an undamaged group
module _ (last : ℕ) (G : Group) (none : damaged last G ≡ false) where
  pub submission_not_15 : (clock : ℕ) (m : Measurement) → submission_verdict last G clock m ≢ Err Damaged
  unfolding submission_verdict
  submission_not_15 clock m =
      first _ _ none
      (other CodeNotInGroup _ _ (omega arith) (other NoSuchDay _ _ (omega arith) (other DayCleared _ _ (omega arith)
      (other ValueWrong _ _ (omega arith) (other ValueWrong _ _ (omega arith) (other ClockOutside _ _ (omega arith)
      (other ClockOutside _ _ (omega arith) (other JournalFull _ _ (omega arith) accepted))))))))

  pub clear_not_15 : (day stamp : ℕ) → clear_verdict last G day stamp ≢ Err Damaged
  unfolding clear_verdict
  clear_not_15 day stamp =
      first _ _ none
      (other NoSuchDay _ _ (omega arith) (other DayCleared _ _ (omega arith)
      (other StampOutside _ _ (omega arith) (other StampOutside _ _ (omega arith) accepted))))

  pub evaluation_not_15 : (day quarter T : ℕ) (lent : List ℕ) → evaluation_verdict last G day quarter T lent ≢ Err Damaged
  unfolding evaluation_verdict
  evaluation_not_15 day quarter T lent =
      first _ _ none
      (other NoSuchDay _ _ (omega arith) (other DayCleared _ _ (omega arith) (other StampOutside _ _ (omega arith)
      (other StampOutside _ _ (omega arith) (other TooShort _ _ (omega arith) accepted)))))
