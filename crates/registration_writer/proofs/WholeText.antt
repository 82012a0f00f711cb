-- The whole text of a registration: what an undamaged one gives its writers, its parts put one after the other, and the verdict. Assumes nothing.
use Prim.Native.Nat.{ℕ, ◌+◌, ◌*◌, ◌≤◌, ◌<◌}
use mathlib.Core.Path.{◌≡◌, refl, sym, ◌∙◌}
use mathlib.Core.Bool.{false}
use mathlib.Core.List.{List}
use native.Mathlib.Nat.{zero-add}
use lib.ListN.{length}
use Rattle.answers.specs.declared.Refusal.TheVariants.{Damaged, TooShort}
use Rattle.std.specs.Prelude.{Result, Ok, Err}
use Rattle.answers.specs.declared.Refusal.{Refusal}
use Rattle.answers.specs.Numbers.{Verdict}
use Rattle.std.specs.Result.{result_and}
use Rattle.answers.proofs.Refusals.{refusals, stopped, gone_on, passed}
use Rattle.lists.specs.Place.{placed, Put}
use Rattle.lists.proofs.Cases.{by_test}
use Rattle.registration.specs.declared.Registration.{Registration}
use Rattle.registration.specs.Rules.{count_at, count_right, consumer_right}
use Rattle.registration.specs.Damage.{is_damaged, soundness}
use Rattle.registration.proofs.Bounds.{count_bounds}
use Rattle.lists.proofs.Below.{every_at, and_left}
use Rattle.registration.proofs.Damage.{undamaged_parts, point_bounds}
use Rattle.registration_text.specs.Lines.{line_g}
use Rattle.registration_text.specs.Writer.{lines_d, lines_o, text_of, verdict_of_writing, buffer_after, Wrote}
use Rattle.lists.specs.declared.Page.{Page}
use Rattle.lists.specs.Pages.{Added}
use Rattle.lists.proofs.Adding.{added_then}
use Rattle.registration_writer.proofs.Sizes.{lines__d, length_lines__d}

pub sound : (r : Registration) → soundness r ≡ Ok tt → is_damaged r ≡ false
sound r e = (passed Damaged (is_damaged r) (Ok tt) e).0

module _ (r : Registration) (undamaged : is_damaged r ≡ false) where
  pub few_points : r.producers + r.consumers ≤ 64
  few_points = (point_bounds r.producers r.consumers (undamaged_parts r undamaged).point_counts).2

  pub few_sources : (consumer : ℕ) → consumer < r.consumers → count_at r consumer ≤ 5
  few_sources consumer h =
      let count = count_at r consumer in
      let right = every_at (consumer_right r) r.consumers consumer (undamaged_parts r undamaged).consumers h in
      (count_bounds count (and_left (count_right count) _ right)).1

module _ (r : Registration) where
  pub length_producers : length (lines_d r 0 r.producers) ≡ 23 * r.producers
  length_producers = rw lines__d (length_lines__d r r.producers)

  -- the lines one after the other make the text
  pub text_added : {before group producers after : Page ℕ} → Added (line_g r) before group → Added (lines_d r 0 r.producers) group producers
      → Added (lines_o r 0 r.consumers) producers after → Added (text_of r) before after
  unfolding text_of
  text_added p q s = added_then p (added_then q s)

module _ (r : Registration) (before : List ℕ) where
  by_verdict : (verdict : Verdict) {after : List ℕ} {written : Result ℕ Refusal} → verdict ≡ verdict_of_writing r before
      → written ≡ result_and verdict (Ok (length (text_of r))) → after ≡ buffer_after verdict (text_of r) before → Wrote r before after written
  by_verdict verdict e a b = record { answer = a ∙ rw e; buffer = b ∙ rw e }

  pub refused_damaged : (refusal : Refusal) → soundness r ≡ Err refusal → Wrote r before before (Err refusal)
  unfolding verdict_of_writing
  refused_damaged refusal e =
      by_test (is_damaged r)
      (λ d.
      let same : Err Damaged ≡ Err refusal = sym (stopped Damaged (is_damaged r) (Ok tt) d) ∙ e in
      let is : Damaged ≡ refusal = cc in
      rw (← is) (by_verdict (Err Damaged) (search refusals) refl refl))
      (λ d. let never : Ok tt ≡ Err refusal = sym (gone_on Damaged (is_damaged r) (Ok tt) d) ∙ e in cc)

  pub refused_short : is_damaged r ≡ false → length before < length (text_of r) → Wrote r before before (Err TooShort)
  unfolding verdict_of_writing
  refused_short d h = by_verdict (Err TooShort) (search refusals) refl refl

  pub accepted : {end : ℕ} {after : List ℕ} → is_damaged r ≡ false → length (text_of r) ≤ length before → Put 0 (text_of r) before after end
      → Wrote r before after (Ok end)
  unfolding verdict_of_writing placed
  accepted d h p = by_verdict (Ok tt) (search refusals) (rw (p.end, zero-add)) (p.list ∙ rw zero-add)
