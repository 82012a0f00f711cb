-- The verdict on each call, every way through its order of refusals. Assumes nothing.
use Prim.Native.Nat.{ℕ, ◌≤◌, ◌<◌}
use mathlib.Core.Path.{◌≡◌}
use mathlib.Core.Bool.{true, false, not, ◌&&◌}
use mathlib.Core.List.{List}
use lib.IntN.{nat_abs}
use lib.ListN.{length}
use Rattle.values.specs.Values.{magnitude_most}
use Rattle.std.specs.Prelude.{Ok, Err}
use Rattle.answers.specs.declared.Refusal.TheVariants.{CodeNotInGroup, NoSuchDay, ValueWrong, DayCleared, StampOutside, ClockOutside, JournalFull, Damaged, TooShort}
use Rattle.answers.proofs.Refusals.{refusals}
use Rattle.values.specs.declared.Measurement.{Measurement}
use Rattle.calendar.specs.Dates.{is_day}
use Rattle.calendar.specs.Quarters.{quarter_exists}
use Rattle.evaluation.specs.Layout.{size_of}
use Rattle.points.specs.Points.{index_of, has, sign_suits}
use Rattle.group.specs.Group.{Group, roll_of}
use Rattle.group.specs.Refusals.{damaged, repeats, full, earliest, submission_verdict, clear_verdict, evaluation_verdict}
use Rattle.group.specs.Stamps.{stamp_most}

module _ (last : ℕ) (G : Group) (clock : ℕ) (m : Measurement) where
  pub submission_damaged : damaged last G ≡ true → Err Damaged ≡ submission_verdict last G clock m
  unfolding submission_verdict
  submission_damaged t = search refusals

  module _ (d : damaged last G ≡ false) where
    pub submission_unknown : has m.code (roll_of G) ≡ false → Err CodeNotInGroup ≡ submission_verdict last G clock m
    unfolding submission_verdict
    submission_unknown t = search refusals

    module _ (k : has m.code (roll_of G) ≡ true) where
      pub submission_no_day : quarter_exists m.day m.quarter ≡ false → Err NoSuchDay ≡ submission_verdict last G clock m
      unfolding submission_verdict
      submission_no_day t = search refusals

      module _ (q : quarter_exists m.day m.quarter ≡ true) where
        pub submission_cleared : m.day < G.keptday → Err DayCleared ≡ submission_verdict last G clock m
        unfolding submission_verdict
        submission_cleared h = search refusals depth 8

        module _ (o : G.keptday ≤ m.day) where
          pub submission_wrong_sign : sign_suits G.registration.producers (index_of m.code (roll_of G)) m.value ≡ false
              → Err ValueWrong ≡ submission_verdict last G clock m
          unfolding submission_verdict
          submission_wrong_sign t = search refusals depth 8

          module _ (g : sign_suits G.registration.producers (index_of m.code (roll_of G)) m.value ≡ true) where
            pub submission_too_great : magnitude_most < nat_abs m.value → Err ValueWrong ≡ submission_verdict last G clock m
            unfolding submission_verdict
            submission_too_great h = search refusals depth 10

            module _ (a : nat_abs m.value ≤ magnitude_most) where
              pub submission_late : stamp_most < clock → Err ClockOutside ≡ submission_verdict last G clock m
              unfolding submission_verdict
              submission_late h = search refusals depth 12

              module _ (c : clock ≤ stamp_most) where
                pub submission_last : last ≡ stamp_most → Err ClockOutside ≡ submission_verdict last G clock m
                unfolding submission_verdict
                submission_last e = search refusals depth 14

                module _ (l : last ≡ stamp_most → ⊥) where
                  pub submission_full : not (repeats last G m) && full G ≡ true
                      → Err JournalFull ≡ submission_verdict last G clock m
                  unfolding submission_verdict
                  submission_full t = search refusals depth 16

                  pub submission_accepted : not (repeats last G m) && full G ≡ false
                      → Ok tt ≡ submission_verdict last G clock m
                  unfolding submission_verdict
                  submission_accepted t = search refusals depth 16

module _ (last : ℕ) (G : Group) (day stamp : ℕ) where
  pub clear_damaged : damaged last G ≡ true → Err Damaged ≡ clear_verdict last G day stamp
  unfolding clear_verdict
  clear_damaged t = search refusals

  module _ (d : damaged last G ≡ false) where
    pub clear_no_day : is_day day ≡ false → Err NoSuchDay ≡ clear_verdict last G day stamp
    unfolding clear_verdict
    clear_no_day t = search refusals

    module _ (q : is_day day ≡ true) where
      pub clear_cleared : day < G.keptday → Err DayCleared ≡ clear_verdict last G day stamp
      unfolding clear_verdict
      clear_cleared h = search refusals depth 8

      module _ (o : G.keptday ≤ day) where
        pub clear_below : stamp < G.keptstamp → Err StampOutside ≡ clear_verdict last G day stamp
        unfolding clear_verdict
        clear_below h = search refusals depth 8

        module _ (p : G.keptstamp ≤ stamp) where
          pub clear_above : last < stamp → Err StampOutside ≡ clear_verdict last G day stamp
          unfolding clear_verdict
          clear_above h = search refusals depth 10

          pub clear_accepted : stamp ≤ last → Ok tt ≡ clear_verdict last G day stamp
          unfolding clear_verdict
          clear_accepted h = search refusals depth 10

module _ (last : ℕ) (G : Group) (day quarter T : ℕ) (lent : List ℕ) where
  pub evaluation_damaged : damaged last G ≡ true → Err Damaged ≡ evaluation_verdict last G day quarter T lent
  unfolding evaluation_verdict
  evaluation_damaged t = search refusals

  module _ (d : damaged last G ≡ false) where
    pub evaluation_no_day : quarter_exists day quarter ≡ false → Err NoSuchDay ≡ evaluation_verdict last G day quarter T lent
    unfolding evaluation_verdict
    evaluation_no_day t = search refusals

    module _ (q : quarter_exists day quarter ≡ true) where
      pub evaluation_cleared : day < earliest G.keptday → Err DayCleared ≡ evaluation_verdict last G day quarter T lent
      unfolding evaluation_verdict
      evaluation_cleared h = search refusals depth 8

      module _ (o : earliest G.keptday ≤ day) where
        pub evaluation_below : T < G.keptstamp → Err StampOutside ≡ evaluation_verdict last G day quarter T lent
        unfolding evaluation_verdict
        evaluation_below h = search refusals depth 8

        module _ (p : G.keptstamp ≤ T) where
          pub evaluation_above : last < T → Err StampOutside ≡ evaluation_verdict last G day quarter T lent
          unfolding evaluation_verdict
          evaluation_above h = search refusals depth 10

          module _ (l : T ≤ last) where
            pub evaluation_short : length lent < size_of G.registration → Err TooShort ≡ evaluation_verdict last G day quarter T lent
            unfolding evaluation_verdict
            evaluation_short h = search refusals depth 12

            pub evaluation_accepted : size_of G.registration ≤ length lent → Ok tt ≡ evaluation_verdict last G day quarter T lent
            unfolding evaluation_verdict
            evaluation_accepted h = search refusals depth 12
