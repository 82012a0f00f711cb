-- How long the lines of answers are, and the lines of a result as pieces that are put one after the other. Assumes nothing.
use Prim.Native.Nat.{ℕ, ◌+◌, ◌-◌, ◌*◌, ◌≤◌, ◌<◌}
use mathlib.Core.Path.{◌≡◌, refl, ap, ◌∙◌}
use mathlib.Core.List.{List}
use native.Mathlib.Omega.{arith}
use native.Mathlib.Nat.{zero-add}
use lib.ListN.{length, get_or, take, drop, length-append, length-drop}
use lib.Seq.{get_or-take, get_or-drop, length-take-le}
use Rattle.lists.specs.declared.Page.{Page}
use Rattle.lists.specs.Pages.{Added}
use Rattle.lists.proofs.Adding.{added_then}
use Rattle.columns.specs.Fields.{total}
use Rattle.lists.specs.Tables.{joined}
use Rattle.lists.proofs.Sums.{sum_times}
use Rattle.lists.proofs.TableLaws.{joined_same, length_joined, length_even}
use Rattle.lines.proofs.Laws.{length_line}
use Rattle.registration.specs.declared.Registration.{Registration}
use Rattle.registration.specs.Rules.{points, count_at, source_at}
use Rattle.evaluation.specs.declared.Layout.{Layout}
use Rattle.registration.specs.Pairs.{pairs_before, pairs_in}
use Rattle.evaluation.specs.Layout.{Withdrawals, Supplies, Origins, length_of, begin_of, size_of, LaidOut}
use Rattle.event_writer.specs.Answers.{letter_a, letter_r, letter_s, letter_u, letter_v, letter_w, widths_a, widths_r, widths_s, widths_of_remaining, widths_w, line_a, bytes_of_answer, line_r, bytes_of_rounds, line_s, line_of_point, lines_of_consumer, lines_s, lines_of_points, lines_of_result, bytes_of_result}

-- ---- the lines as pieces

-- the S line of a priority
abbrev pub share_line : (source : ℕ → ℕ) → (consumer at : ℕ) → (numbers : List ℕ) → ℕ → List ℕ
share_line source consumer at numbers priority = line_s consumer (source priority) (get_or numbers (at + priority) 0)

pub shares_joined : (source : ℕ → ℕ) (consumer count at : ℕ) (numbers : List ℕ)
    → lines_of_consumer source consumer count at numbers ≡ joined (share_line source consumer at numbers) count
unfolding lines_of_consumer
shares_joined source consumer count at numbers = refl

-- the S lines of a consumer
abbrev pub consumer_lines : Registration → (numbers : List ℕ) → ℕ → List ℕ
consumer_lines r numbers consumer = lines_of_consumer (source_at r consumer) consumer (count_at r consumer) (pairs_before r consumer) numbers

pub consumers_joined : (r : Registration) (numbers : List ℕ) → lines_s r numbers ≡ joined (consumer_lines r numbers) r.consumers
unfolding lines_s
consumers_joined r numbers = refl

-- the U, V or W line of a point
abbrev pub point_line : (letter : ℕ) → (widths : List ℕ) → (at : ℕ) → (numbers : List ℕ) → ℕ → List ℕ
point_line letter widths at numbers point = line_of_point letter widths point (get_or numbers (at + point) 0)

pub points_joined : (letter : ℕ) (widths : List ℕ) (at count : ℕ) (numbers : List ℕ)
    → lines_of_points letter widths at count numbers ≡ joined (point_line letter widths at numbers) count
unfolding lines_of_points
points_joined letter widths at count numbers = refl

-- ---- lengths

pub length_of_answer : (answer number : ℕ) → length (line_a answer number) ≡ bytes_of_answer
length_of_answer answer number = length_line letter_a widths_a _ refl

pub length_of_rounds : (answer rounds : ℕ) → length (line_r answer rounds) ≡ bytes_of_rounds
length_of_rounds answer rounds = length_line letter_r widths_r _ refl

pub length_of_share : (consumer producer share : ℕ) → length (line_s consumer producer share) ≡ 20
length_of_share consumer producer share = length_line letter_s widths_s _ refl

pub length_of_point : (letter : ℕ) (widths : List ℕ) (point number : ℕ) → length widths ≡ 2 → length (line_of_point letter widths point number) ≡ total widths + 2
length_of_point letter widths point number two = length_line letter widths _ two

pub length_of_consumer : (source : ℕ → ℕ) (consumer count at : ℕ) (numbers : List ℕ)
    → length (lines_of_consumer source consumer count at numbers) ≡ 20 * count
length_of_consumer source consumer count at numbers =
    rw shares_joined (length_even _ 20 count (λ priority. length_of_share consumer (source priority) (get_or numbers (at + priority) 0)))

pub length_of_shares : (r : Registration) (numbers : List ℕ) → length (lines_s r numbers) ≡ 20 * pairs_in r
length_of_shares r numbers =
    rw consumers_joined
    (length_joined _ (λ consumer. 20 * count_at r consumer) r.consumers
    (λ consumer. length_of_consumer (source_at r consumer) consumer (count_at r consumer) (pairs_before r consumer) numbers))
    ∙ sum_times 20 (count_at r) r.consumers

pub length_of_points : (letter : ℕ) (widths : List ℕ) (at count : ℕ) (numbers : List ℕ) → length widths ≡ 2
    → length (lines_of_points letter widths at count numbers) ≡ (total widths + 2) * count
length_of_points letter widths at count numbers two =
    rw points_joined (length_even _ (total widths + 2) count (λ point. length_of_point letter widths point (get_or numbers (at + point) 0) two))

pub length_of_result : (r : Registration) (numbers : List ℕ) → length (lines_of_result r numbers) ≡ bytes_of_result r
unfolding lines_of_result
length_of_result r numbers =
    rw (length-append, length-append, length-append, length_of_shares)
    (omega (
      arith,
      length_of_points letter_u widths_of_remaining (begin_of r Withdrawals) (length_of r Withdrawals) numbers refl,
      length_of_points letter_v widths_of_remaining (begin_of r Supplies) (length_of r Supplies) numbers refl,
      length_of_points letter_w widths_w (begin_of r Origins) (length_of r Origins) numbers refl,
    ))

-- ---- lines of a part of the result list

-- a number of a part
number_of_part : (from count i : ℕ) (numbers : List ℕ) → i < count → get_or (take count (drop from numbers)) (0 + i) 0 ≡ get_or numbers (from + i) 0
number_of_part from count i numbers h = rw zero-add (get_or-take count (drop from numbers) i 0 h ∙ get_or-drop from numbers i 0)

-- the lines of the numbers of a part are those of so many numbers from its place on
pub shares_of_part : (source : ℕ → ℕ) (consumer from count : ℕ) (numbers : List ℕ)
    → lines_of_consumer source consumer count 0 (take count (drop from numbers)) ≡ lines_of_consumer source consumer count from numbers
unfolding lines_of_consumer
shares_of_part source consumer from count numbers =
    joined_same _ _ count (λ priority h. ap (λ (share : ℕ). line_s consumer (source priority) share) (number_of_part from count priority numbers h))

pub points_of_part : (letter : ℕ) (widths : List ℕ) (from count : ℕ) (numbers : List ℕ)
    → lines_of_points letter widths 0 count (take count (drop from numbers)) ≡ lines_of_points letter widths from count numbers
unfolding lines_of_points
points_of_part letter widths from count numbers =
    joined_same _ _ count (λ point h. ap (λ (number : ℕ). line_of_point letter widths point number) (number_of_part from count point numbers h))

-- ---- the parts of a result list

part_length : (from to count : ℕ) (numbers : List ℕ) → to ≡ from + count → to ≤ length numbers → length (take (to - from) (drop from numbers)) ≡ count
part_length from to count numbers e h = length-take-le (to - from) (drop from numbers) (rw length-drop (omega arith)) ∙ omega arith

part_lines : (letter : ℕ) (widths : List ℕ) (from to count : ℕ) (numbers : List ℕ) → to ≡ from + count → to ≤ length numbers
    → let part = take (to - from) (drop from numbers) in
    lines_of_points letter widths 0 (length part) part ≡ lines_of_points letter widths from count numbers
part_lines letter widths from to count numbers e h =
    let many : to - from ≡ count = omega arith in
    rw (part_length from to count numbers e h, many) (points_of_part letter widths from count numbers)

module _ (r : Registration) (layout : Layout) (laid : LaidOut r layout) (numbers : List ℕ) (room : size_of r ≤ length numbers) where
  -- the numbers of each part, of which there are as many as the layout says
  abbrev pub withdrawals : List ℕ
  withdrawals = take (layout.supplies - layout.withdrawals) (drop layout.withdrawals numbers)

  abbrev pub supplies : List ℕ
  supplies = take (layout.origins - layout.supplies) (drop layout.supplies numbers)

  abbrev pub origins : List ℕ
  origins = take (layout.size - layout.origins) (drop layout.origins numbers)

  pub withdrawals_length : length withdrawals ≡ r.consumers
  withdrawals_length = part_length layout.withdrawals layout.supplies r.consumers numbers (omega (arith, laid)) (omega (arith, laid))

  pub supplies_length : length supplies ≡ r.producers
  supplies_length = part_length layout.supplies layout.origins r.producers numbers (omega (arith, laid)) (omega (arith, laid))

  pub origins_length : length origins ≡ points r
  origins_length = part_length layout.origins layout.size (points r) numbers (omega (arith, laid)) (omega (arith, laid))

  pub withdrawals_lines : length (lines_of_points letter_u widths_of_remaining 0 (length withdrawals) withdrawals) ≡ 16 * r.consumers
  withdrawals_lines = rw withdrawals_length (length_of_points letter_u widths_of_remaining 0 r.consumers withdrawals refl)

  pub supplies_lines : length (lines_of_points letter_v widths_of_remaining 0 (length supplies) supplies) ≡ 16 * r.producers
  supplies_lines = rw supplies_length (length_of_points letter_v widths_of_remaining 0 r.producers supplies refl)

  -- the lines of the parts in turn make the result
  pub result_put : {before first second third after : Page ℕ} → Added (lines_s r numbers) before first
      → Added (lines_of_points letter_u widths_of_remaining 0 (length withdrawals) withdrawals) first second
      → Added (lines_of_points letter_v widths_of_remaining 0 (length supplies) supplies) second third
      → Added (lines_of_points letter_w widths_w 0 (length origins) origins) third after → Added (lines_of_result r numbers) before after
  unfolding lines_of_result
  result_put p q s o =
      let u = part_lines letter_u widths_of_remaining layout.withdrawals layout.supplies r.consumers numbers (omega (arith, laid)) (omega (arith, laid)) in
      let v = part_lines letter_v widths_of_remaining layout.supplies layout.origins r.producers numbers (omega (arith, laid)) (omega (arith, laid)) in
      let w = part_lines letter_w widths_w layout.origins layout.size (points r) numbers (omega (arith, laid)) (omega (arith, laid)) in
      added_then p (added_then (rw (u, laid.withdrawals) at q) (added_then (rw (v, laid.supplies) at s) (rw (w, laid.origins) at o)))
