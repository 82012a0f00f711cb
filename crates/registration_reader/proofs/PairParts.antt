-- An O line's pairs, read one after the other: what stands in the columns of the first one, and the numbers of those that follow. Assumes nothing.
use Prim.Native.Nat.{ℕ, zero, suc, ◌+◌, ◌-◌, ◌≤◌, ◌<◌}
use mathlib.Core.Path.{◌≡◌, refl, sym, ap, ◌∙◌}
use mathlib.Core.Bool.{true}
use mathlib.Core.List.{List, [], ◌∷◌, ◌++◌, append_assoc, append-nil}
use Rattle.std.specs.Prelude.{Option, None, Some}
use Rattle.std.proofs.lemmas.Option.{none-some}
use native.Mathlib.Nat.{add-zero, zero-add, sub_self}
use native.Mathlib.Numerals.{add-one}
use native.Mathlib.Omega.{arith}
use lib.ListN.{length, get_or, take, drop, set, get_or-append}
use lib.Seq.{drop-drop, length-take-le, get_or-take, get_or-set_same, get_or-set_other}
use Rattle.columns.specs.Column.{number_in}
use Rattle.columns.specs.Fields.{with_first, numbers_in}
use Rattle.columns.proofs.Laws.{numbers_in_nil, numbers_in_cons}
use Rattle.lines.proofs.Parts.{after_these}
use Rattle.registration.specs.declared.Pair.{Pair}
use Rattle.registration.specs.declared.Registration.{Registration}
use Rattle.registration.specs.Rules.{no_pair, source_in, key_in, pairs_right}
use Rattle.registration.proofs.Bounds.{pair_bounds}
use Rattle.registration.proofs.Places.{pairs_same}
use Rattle.registration_text.specs.Lines.{widths_of_pairs, pairs_from}
use Rattle.registration_text.specs.Reader.{nth_source, nth_key, with_count, with_pairs}
use Rattle.registration_text.proofs.Named.{pairs_at, pairs_from_same}
use Rattle.registration_reader.proofs.Placing.{pairs_placed_same}

-- ---- the columns of a pair, and those that follow

none_with : (a b : Option ℕ) (o : Option (List ℕ)) → with_first a (with_first b (Some [])) ≡ None → with_first a (with_first b o) ≡ None
none_with None b o e = refl
none_with (Some s) None o e = refl
none_with (Some s) (Some k) o e = absurd (none-some _ (sym e))

pair_with : (a b : Option ℕ) (o : Option (List ℕ)) (pair : List ℕ) → with_first a (with_first b (Some [])) ≡ Some pair
    → with_first a (with_first b o) ≡ after_these (get_or pair 0 0 ∷ get_or pair 1 0 ∷ []) o
pair_with None b o pair e = absurd (none-some _ e)
pair_with (Some s) None o pair e = absurd (none-some _ e)
pair_with (Some s) (Some k) o pair e =
    let p : s ∷ k ∷ [] ≡ pair = cc in
    rw (← p) (go o)
  where
    go : (o : Option (List ℕ)) → with_first (Some s) (with_first (Some k) o) ≡ after_these (s ∷ k ∷ []) o
    go None = refl
    go (Some ms) = refl

module _ (rest : List ℕ) where
  alone : numbers_in (4 ∷ 6 ∷ []) rest ≡ with_first (number_in (take 4 rest)) (with_first (number_in (take 6 (drop 4 rest))) (Some []))
  alone = rw (numbers_in_cons, numbers_in_cons, numbers_in_nil)

  module _ (count i : ℕ) (h : i < count) where
    followed : numbers_in (widths_of_pairs (count - i)) rest
        ≡ with_first (number_in (take 4 rest)) (with_first (number_in (take 6 (drop 4 rest))) (numbers_in (widths_of_pairs (count - (i + 1))) (drop 10 rest)))
    unfolding widths_of_pairs
    followed =
        let one_more : count - i ≡ suc (count - (i + 1)) = omega arith in
        rw (one_more, numbers_in_cons, numbers_in_cons, drop-drop)

    pub pair_none : (before : List ℕ) → numbers_in (4 ∷ 6 ∷ []) rest ≡ None → after_these before (numbers_in (widths_of_pairs (count - i)) rest) ≡ None
    pair_none before e = ap (after_these before) (followed ∙ none_with (number_in (take 4 rest)) (number_in (take 6 (drop 4 rest))) _ (sym alone ∙ e))

    pair_first : (pair : List ℕ) → numbers_in (4 ∷ 6 ∷ []) rest ≡ Some pair
        → numbers_in (widths_of_pairs (count - i)) rest ≡ after_these (get_or pair 0 0 ∷ get_or pair 1 0 ∷ []) (numbers_in (widths_of_pairs (count - (i + 1))) (drop 10 rest))
    pair_first pair e = followed ∙ pair_with (number_in (take 4 rest)) (number_in (take 6 (drop 4 rest))) _ pair (sym alone ∙ e)

-- ---- the pairs that were read

after_after : (xs ys : List ℕ) (o : Option (List ℕ)) → after_these xs (after_these ys o) ≡ after_these (xs ++ ys) o
after_after xs ys None = refl
after_after xs ys (Some ms) = rw append_assoc

pairs_from_more : (f g : ℕ → ℕ) (p n : ℕ) → pairs_from f g p (suc n) ≡ pairs_from f g p n ++ (f (p + n) ∷ g (p + n) ∷ [])
unfolding pairs_from
pairs_from_more f g p zero = rw add-zero
pairs_from_more f g p (suc n) =
    let later : p + suc n ≡ suc p + n = omega arith in
    rw later (ap (λ (ns : List ℕ). f p ∷ g p ∷ ns) (pairs_from_more f g (suc p) n))

module _ (pairs : List Pair) (i : ℕ) (pair : Pair) (h : i < length pairs) where
  pair_put : pairs_from (source_in (set pairs i pair)) (key_in (set pairs i pair)) 0 (i + 1) ≡ pairs_from (source_in pairs) (key_in pairs) 0 i ++ (pair.source ∷ pair.key ∷ [])
  pair_put =
      let here : get_or (set pairs i pair) i no_pair ≡ pair = get_or-set_same pairs i pair no_pair h in
      let source : source_in (set pairs i pair) i ≡ pair.source = ap (λ (p : Pair). p.source) here in
      let key : key_in (set pairs i pair) i ≡ pair.key = ap (λ (p : Pair). p.key) here in
      rw (add-one, pairs_from_more, zero-add, source, key)
      (ap (λ (ns : List ℕ). ns ++ (pair.source ∷ pair.key ∷ []))
      (pairs_from_same (source_in (set pairs i pair)) (key_in (set pairs i pair)) (source_in pairs) (key_in pairs) 0 i
      (λ k l. ap (λ (p : Pair). p.source) (get_or-set_other pairs i k pair no_pair (omega arith)))
      (λ k l. ap (λ (p : Pair). p.key) (get_or-set_other pairs i k pair no_pair (omega arith)))))

  -- one pair more is in its place
  pub pair_next : (rest read : List ℕ) (count : ℕ) → i < count → numbers_in (4 ∷ 6 ∷ []) rest ≡ Some read → pair ≡ record { source = get_or read 0 0; key = get_or read 1 0 }
      → after_these (pairs_from (source_in pairs) (key_in pairs) 0 i) (numbers_in (widths_of_pairs (count - i)) rest)
      ≡ after_these (pairs_from (source_in (set pairs i pair)) (key_in (set pairs i pair)) 0 (i + 1)) (numbers_in (widths_of_pairs (count - (i + 1))) (drop 10 rest))
  pair_next rest read count l e is =
      let source : pair.source ≡ get_or read 0 0 = λ j. (is j).source in
      let key : pair.key ≡ get_or read 1 0 = λ j. (is j).key in
      rw (pair_put, source, key, pair_first rest count i l read e) (after_after (pairs_from (source_in pairs) (key_in pairs) 0 i) (get_or read 0 0 ∷ get_or read 1 0 ∷ []) _)

-- no pair has been read yet, and all of them have
pub pairs_begin : (pairs : List Pair) (numbers : Option (List ℕ)) → after_these (pairs_from (source_in pairs) (key_in pairs) 0 0) numbers ≡ numbers
unfolding pairs_from
pairs_begin pairs None = refl
pairs_begin pairs (Some ns) = refl

pub pairs_end : (pairs others : List Pair) (rest : List ℕ) (count i : ℕ) → i ≡ count → length pairs ≡ count
    → after_these (pairs_from (source_in pairs) (key_in pairs) 0 i) (numbers_in (widths_of_pairs (count - i)) rest)
    ≡ Some (pairs_from (source_in (pairs ++ others)) (key_in (pairs ++ others)) 0 count)
unfolding widths_of_pairs
pairs_end pairs others rest count i h e =
    rw (h, sub_self, numbers_in_nil, append-nil)
    (ap (λ (ns : List ℕ). Some ns)
    (pairs_from_same (source_in pairs) (key_in pairs) (source_in (pairs ++ others)) (key_in (pairs ++ others)) 0 count
    (λ k l. ap (λ (p : Pair). p.source) (sym (get_or-append pairs others no_pair k (omega arith))))
    (λ k l. ap (λ (p : Pair). p.key) (sym (get_or-append pairs others no_pair k (omega arith))))))

-- ---- the pairs among the five places that were read

-- right pairs fit the registration's places
pub pairs_fit : (producers count : ℕ) (source key : ℕ → ℕ) → pairs_right producers count source key ≡ true → producers < 256
    → (k : ℕ) → k < count → (source k < 256) × (key k < 65536)
pairs_fit producers count source key t few k h = let bounds = pair_bounds producers count source key t k h in omega arith

module _ (pairs : List Pair) (count : ℕ) (room : count ≤ length pairs) (rest : Option (List ℕ))
    (is : rest ≡ Some (pairs_from (source_in pairs) (key_in pairs) 0 count)) where
  as_many : length (take count pairs) ≡ count
  as_many = length-take-le count pairs room

  source_taken : (k : ℕ) → k < count → source_in (take count pairs) k ≡ nth_source rest k
  source_taken k h =
      let here : nth_source (Some (pairs_from (source_in pairs) (key_in pairs) 0 count)) k ≡ source_in pairs k =
      rw zero-add at (pairs_at (source_in pairs) (key_in pairs) 0 count k h).0 in
      ap (λ (p : Pair). p.source) (get_or-take count pairs k no_pair h) ∙ sym here ∙ ap (λ (numbers : Option (List ℕ)). nth_source numbers k) (sym is)

  key_taken : (k : ℕ) → k < count → key_in (take count pairs) k ≡ nth_key rest k
  key_taken k h =
      let here : nth_key (Some (pairs_from (source_in pairs) (key_in pairs) 0 count)) k ≡ key_in pairs k =
      rw zero-add at (pairs_at (source_in pairs) (key_in pairs) 0 count k h).1 in
      ap (λ (p : Pair). p.key) (get_or-take count pairs k no_pair h) ∙ sym here ∙ ap (λ (numbers : Option (List ℕ)). nth_key numbers k) (sym is)

  -- they are right where the line's are, and put the line's into a registration
  pub taken_right : (producers : ℕ) → pairs_right producers (length (take count pairs)) (source_in (take count pairs)) (key_in (take count pairs))
      ≡ pairs_right producers count (nth_source rest) (nth_key rest)
  taken_right producers = rw as_many (pairs_same producers count _ _ _ _ source_taken key_taken)

  pub taken_placed : (r : Registration) (consumer : ℕ)
      → with_pairs (with_count r consumer (length (take count pairs))) consumer (source_in (take count pairs)) (key_in (take count pairs)) 0 (length (take count pairs))
      ≡ with_pairs (with_count r consumer count) consumer (nth_source rest) (nth_key rest) 0 count
  taken_placed r consumer =
      rw as_many (pairs_placed_same (with_count r consumer count) consumer _ _ _ _ 0 count (λ k h. source_taken k (omega arith)) (λ k h. key_taken k (omega arith)))
