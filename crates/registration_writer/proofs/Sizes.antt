-- How long the lines of a registration are, and its lines as pieces one after the other. Assumes nothing.
use Prim.Native.Nat.{ℕ, zero, suc, ◌+◌, ◌*◌, ◌≤◌}
use mathlib.Core.Path.{◌≡◌, refl, ◌∙◌}
use mathlib.Core.List.{List, [], ◌∷◌, ◌++◌}
use native.Mathlib.Nat.{add_assoc}
use native.Mathlib.Numerals.{add-one}
use native.Mathlib.Omega.{arith}
use lib.ListN.{length, take, get_or, length-append}
use Rattle.std.specs.List.{sum_by}
use Rattle.std.proofs.lemmas.List.Sums.{sum_by_more}
use Rattle.columns.specs.Fields.{columns_of}
use Rattle.columns.proofs.Laws.{columns_of_nil, columns_append, length_columns}
use Rattle.lines.proofs.Laws.{length_line}
use Rattle.registration.specs.declared.Registration.{Registration}
use Rattle.lists.specs.Below.{sum_below}
use Rattle.registration.specs.Rules.{count_at, source_at, key_at}
use Rattle.registration_text.specs.Lines.{line_g, line_d, line_o, letter_g, letter_d, letter_o, widths_g, widths_d, widths_o, widths_of_pairs, pairs_from}
use Rattle.registration_text.specs.Writer.{lines_d, lines_o, text_of}
use Rattle.registration_text.proofs.Named.{total_pairs}
use Rattle.lists.specs.Tables.{joined}
use Rattle.lists.proofs.TableLaws.{length_joined, length_even}
use Rattle.lists.proofs.Pieces.{in_turn}

-- ---- the lines as pieces

pub lines__d : (r : Registration) (n : ℕ) → lines_d r 0 n ≡ joined (line_d r) n
unfolding lines_d
lines__d r n = in_turn (line_d r) (lines_d r) (λ i. refl) (λ i m. refl) n

pub lines__o : (r : Registration) (n : ℕ) → lines_o r 0 n ≡ joined (line_o r) n
unfolding lines_o
lines__o r n = in_turn (line_o r) (lines_o r) (λ i. refl) (λ i m. refl) n

-- a producer's number and the key in their columns
abbrev pub pair_columns : (source key : ℕ → ℕ) → ℕ → List ℕ
pair_columns source key priority = columns_of (4 ∷ 6 ∷ []) (source priority ∷ key priority ∷ [])

pub pairs_joined : (source key : ℕ → ℕ) (n : ℕ)
    → columns_of (widths_of_pairs n) (pairs_from source key 0 n) ≡ joined (pair_columns source key) n
unfolding widths_of_pairs pairs_from
pairs_joined source key n =
    in_turn (pair_columns source key) (λ i m. columns_of (widths_of_pairs m) (pairs_from source key i m)) (λ i. columns_of_nil [])
    (λ i m. columns_append (4 ∷ 6 ∷ []) (source i ∷ key i ∷ []) _ _ refl) n

-- ---- lengths

pub as_many_pairs : (source key : ℕ → ℕ) (i n : ℕ) → length (widths_of_pairs n) ≡ length (pairs_from source key i n)
unfolding widths_of_pairs pairs_from
as_many_pairs source key i zero = refl
as_many_pairs source key i (suc n) = rw (as_many_pairs source key (suc i) n)

pub length__g : (r : Registration) → length (line_g r) ≡ 12
length__g r = length_line letter_g widths_g _ refl

pub length__d : (r : Registration) (producer : ℕ) → length (line_d r producer) ≡ 23
length__d r producer = length_line letter_d widths_d _ refl

pub length_lines__d : (r : Registration) (n : ℕ) → length (joined (line_d r) n) ≡ 23 * n
length_lines__d r n = length_even _ 23 n (length__d r)

pub length_pair : (source key : ℕ → ℕ) (priority : ℕ) → length (pair_columns source key priority) ≡ 10
length_pair source key priority = length_columns (4 ∷ 6 ∷ []) _ refl

pub length_pairs : (source key : ℕ → ℕ) (n : ℕ) → length (joined (pair_columns source key) n) ≡ 10 * n
length_pairs source key n = length_even _ 10 n (length_pair source key)

-- how long a consumer's line is, by how many producers each names
abbrev pub length_o : List ℕ → ℕ → ℕ
length_o counts consumer = 25 + 10 * get_or counts consumer 0

-- the lengths of the first consumers' lines, summed over the counts
pub sum_o : (counts : List ℕ) (n : ℕ) → n ≤ length counts → sum_by (λ count. 25 + 10 * count) (take n counts) ≡ sum_below (length_o counts) n
unfolding sum_below
sum_o counts zero h = refl
sum_o counts (suc n) h =
    let more : sum_by (λ count. 25 + 10 * count) (take (n + 1) counts) ≡ sum_by (λ count. 25 + 10 * count) (take n counts) + length_o counts n =
    sum_by_more (λ count. 25 + 10 * count) counts n 0 h in
    rw (← add-one n, more, sum_o counts n (omega arith))

pub length__o : (r : Registration) (consumer : ℕ) → length (line_o r consumer) ≡ length_o r.counts consumer
length__o r consumer =
    length_line letter_o (widths_o ++ widths_of_pairs (count_at r consumer)) _
    (rw (as_many_pairs (source_at r consumer) (key_at r consumer) 0 (count_at r consumer)))
    ∙ rw (total_pairs (count_at r consumer)) (omega arith)

-- the lengths of the text's parts, and of the whole
pub text_parts : (r : Registration) → length (text_of r) ≡ 12 + (23 * r.producers + length (lines_o r 0 r.consumers))
unfolding text_of
text_parts r = length-append (line_g r) _ ∙ rw (length__g r, length-append, lines__d, length_lines__d r)

pub length_text : (r : Registration) → length (text_of r) ≡ 12 + 23 * r.producers + sum_below (length_o r.counts) r.consumers
length_text r = text_parts r ∙ rw (lines__o, length_joined (line_o r) _ r.consumers (length__o r), add_assoc)
