-- The verdict on each line by what its columns hold: every way through the order of its refusals. Assumes nothing.
use Prim.Native.Nat.{ℕ, ◌≤◌, ◌<◌}
use mathlib.Core.Path.{◌≡◌}
use mathlib.Core.Bool.{true, false}
use mathlib.Core.List.{List, [], ◌∷◌}
use borrow.Author.Tests.{le-leb, lt-leb}
use lib.Dec.{leb}
use lib.ListN.{length}
use Rattle.std.specs.Prelude.{Option, None, Some, Ok, Err}
use Rattle.answers.specs.declared.Refusal.TheVariants.{NotInColumns, CodeFalse, CountOutside, CodeTwice, StatusOrIterationAbove, ProducerOrKeyWrong, KeysAbove}
use Rattle.answers.proofs.Refusals.{refusals}
use Rattle.columns.specs.Fields.{is_none}
use Rattle.registration.specs.declared.Registration.{Registration}
use Rattle.registration.specs.Code.{is_code}
use Rattle.registration.specs.Rules.{point_counts_right, count_right, pairs_right, codes_differ, keys_right}
use Rattle.lists.proofs.Below.{and_both, and_late}
use Rattle.registration_text.specs.Reader.{verdict_g, verdict_d, verdict_o, verdict_of_all, nth_source, nth_key}

-- ---- G

pub group_none : Err NotInColumns ≡ verdict_g None
unfolding verdict_g
group_none = search refusals

module _ (producers consumers iteration : ℕ) where
  pub group_outside : point_counts_right producers consumers ≡ false → Err CountOutside ≡ verdict_g (Some (producers ∷ consumers ∷ iteration ∷ []))
  unfolding verdict_g
  group_outside t = search refusals

  pub group_above : point_counts_right producers consumers ≡ true → 1 < iteration
      → Err StatusOrIterationAbove ≡ verdict_g (Some (producers ∷ consumers ∷ iteration ∷ []))
  unfolding verdict_g
  group_above t h = search refusals

  pub group_right_lem : point_counts_right producers consumers ≡ true → iteration ≤ 1
      → Ok tt ≡ verdict_g (Some (producers ∷ consumers ∷ iteration ∷ []))
  unfolding verdict_g
  group_right_lem t h = search refusals

-- ---- D

pub producer_none : Err NotInColumns ≡ verdict_d None
unfolding verdict_d
producer_none = search refusals

module _ (code status : ℕ) where
  pub producer_above : 3 < status → Err StatusOrIterationAbove ≡ verdict_d (Some (code ∷ status ∷ []))
  unfolding verdict_d
  producer_above h = search refusals

  pub producer_false : status ≤ 3 → is_code code ≡ false → Err CodeFalse ≡ verdict_d (Some (code ∷ status ∷ []))
  unfolding verdict_d
  producer_false h t = search refusals

  pub producer_right : status ≤ 3 → is_code code ≡ true → Ok tt ≡ verdict_d (Some (code ∷ status ∷ []))
  unfolding verdict_d
  producer_right h t = search refusals

-- ---- O

module _ (count : ℕ) where
  pub count_none : count < 1 → count_right count ≡ false
  count_none h = rw (lt-leb 1 count h)

  pub count_many : 5 < count → count_right count ≡ false
  count_many h = and_late (leb 1 count) (leb count 5) (lt-leb count 5 h)

  pub count_right_lem : 1 ≤ count → count ≤ 5 → count_right count ≡ true
  count_right_lem h k = and_both (leb 1 count) (leb count 5) (le-leb 1 count h) (le-leb count 5 k)

module _ (producers : ℕ) (rest : Option (List ℕ)) where
  pub consumer_none : Err NotInColumns ≡ verdict_o producers None rest
  unfolding verdict_o
  consumer_none = search refusals

  module _ (code status count : ℕ) where
    pub consumer_outside : count_right count ≡ false → Err CountOutside ≡ verdict_o producers (Some (code ∷ status ∷ count ∷ [])) rest
    unfolding verdict_o
    consumer_outside t = search refusals

    module _ (counted : count_right count ≡ true) where
      pub consumer_unread : is_none rest ≡ true → Err NotInColumns ≡ verdict_o producers (Some (code ∷ status ∷ count ∷ [])) rest
      unfolding verdict_o
      consumer_unread t = search refusals

      module _ (read : is_none rest ≡ false) where
        pub consumer_above : 3 < status → Err StatusOrIterationAbove ≡ verdict_o producers (Some (code ∷ status ∷ count ∷ [])) rest
        unfolding verdict_o
        consumer_above h = search refusals depth 8

        module _ (within : status ≤ 3) where
          pub consumer_false : is_code code ≡ false → Err CodeFalse ≡ verdict_o producers (Some (code ∷ status ∷ count ∷ [])) rest
          unfolding verdict_o
          consumer_false t = search refusals depth 8

          module _ (true_code : is_code code ≡ true) where
            pub consumer_wrong : pairs_right producers count (nth_source rest) (nth_key rest) ≡ false
                → Err ProducerOrKeyWrong ≡ verdict_o producers (Some (code ∷ status ∷ count ∷ [])) rest
            unfolding verdict_o
            consumer_wrong t = search refusals depth 8

            pub consumer_right_lem : pairs_right producers count (nth_source rest) (nth_key rest) ≡ true
                → Ok tt ≡ verdict_o producers (Some (code ∷ status ∷ count ∷ [])) rest
            unfolding verdict_o
            consumer_right_lem t = search refusals depth 8

-- ---- the whole, and the text that is left

module _ (r : Registration) (rest : List ℕ) where
  pub whole_followed : 0 < length rest → Err NotInColumns ≡ verdict_of_all r rest
  unfolding verdict_of_all
  whole_followed h = search refusals

  module _ (last : length rest ≤ 0) where
    pub whole_twice : codes_differ r ≡ false → Err CodeTwice ≡ verdict_of_all r rest
    unfolding verdict_of_all
    whole_twice t = search refusals

    pub whole_above : codes_differ r ≡ true → keys_right r ≡ false → Err KeysAbove ≡ verdict_of_all r rest
    unfolding verdict_of_all
    whole_above t u = search refusals

    pub whole_right : codes_differ r ≡ true → keys_right r ≡ true → Ok tt ≡ verdict_of_all r rest
    unfolding verdict_of_all
    whole_right t u = search refusals
