-- The text of a right registration is read, line by line, into the registration. Assumes nothing.
use Prim.Native.Nat.{ℕ, zero, suc, ◌+◌, ◌-◌, ◌*◌, ◌≤◌, ◌<◌}
use mathlib.Core.Path.{◌≡◌, refl, ap, ◌∙◌}
use mathlib.Core.List.{List, [], ◌++◌, append-nil}
use native.Mathlib.Omega.{arith}
use native.Mathlib.Nat.{zero-add, add-zero}
use lib.ListN.{get_or}
use Rattle.std.specs.Prelude.{Ok}
use Rattle.answers.specs.Order.{refuse◌if◌else◌}
use Rattle.registration.specs.declared.Registration.{Registration}
use Rattle.registration.specs.Rules.{code_at, status_at, count_at}
use Rattle.registration.specs.Damage.{empty}
use Rattle.registration.proofs.Bounds.{count_bounds}
use Rattle.registration.proofs.Damage.{point_bounds}
use Rattle.registration_text.specs.Lines.{line_g}
use Rattle.registration_text.proofs.Going.{going}
use Rattle.registration_text.specs.Reader.{read_g, read_d, read_o, read_text, verdict_of_all}
use Rattle.registration_text.specs.Writer.{lines_d, lines_o, text_of}
use Rattle.registration_text.proofs.Fronts.{front_none, front_zeros}
use Rattle.registration_text.proofs.Texts.{text_none__d, text_none__o, text__d, text__o}
use Rattle.registration_text.proofs.States.{up_to, up_to_consumer, said, next_point, next_consumer}
use Rattle.registration_text.proofs.Steps.{step__g, step__d, step__o}
use Rattle.registration_text.proofs.Rights.{Right}

none__d : (i : ℕ) (s : Registration) (text : List ℕ) → read_d i 0 s text ≡ going s text
unfolding read_d
none__d i s text = refl

none__o : (c : ℕ) (s : Registration) (text : List ℕ) → read_o c 0 s text ≡ going s text
unfolding read_o
none__o c s text = refl

module _ (r : Registration) (right : Right r) where
  few : r.producers + r.consumers ≤ 64
  few = (point_bounds r.producers r.consumers right.group.counted).2

  reads__g : (rest : List ℕ) → read_g (line_g r ++ rest) ≡ going (up_to r 0 0 0) rest
  unfolding empty
  reads__g rest =
      step__g r.producers r.consumers r.iteration right.group rest
      ∙ rw (front_none 64 r.codes, front_none 64 r.statuses, front_none 64 r.counts, front_none 320 r.sources, front_none 320 r.keys)

  reads__d : (i left end : ℕ) (rest : List ℕ) → i + left ≡ end → end ≤ r.producers
      → read_d i left (up_to r i 0 0) (lines_d r i left ++ rest) ≡ going (up_to r end 0 0) rest
  reads__d i zero end rest e h = let q : i ≡ end = omega arith in rw (text_none__d, none__d, q)
  reads__d i (suc left) end rest e h =
      ap (read_d i (suc left) (up_to r i 0 0)) (text__d r i rest left)
      ∙ step__d i left (up_to r i 0 0) (code_at r i) (status_at r i) (lines_d r (suc i) left ++ rest) (right.point i (omega arith))
      ∙ rw (next_point r i 0 0) (reads__d (suc i) left end rest (omega arith) h)

  -- behind a consumer's pairs there are zeros up to the next consumer's
  zero_at : (c i : ℕ) → c < r.consumers → 5 * c + count_at r c ≤ i → i < 5 * suc c → (get_or r.sources i 0 ≡ 0) × (get_or r.keys i 0 ≡ 0)
  zero_at c i h l m =
      let q : 5 * c + (i - 5 * c) ≡ i = omega arith in
      rw q at (right.unused c h (i - 5 * c) (omega arith) (omega arith))

  next__o : (c : ℕ) → c < r.consumers → up_to r (suc (r.producers + c)) (suc c) (5 * c + count_at r c) ≡ up_to_consumer r (suc c)
  next__o c h =
      let n = count_at r c in
      let five = (count_bounds n (right.consumer c h).counted).1 in
      let p : suc (r.producers + c) ≡ r.producers + suc c = omega arith in
      let s = front_zeros 320 (5 * c + n) (5 * suc c) r.sources (omega arith) (λ i l m. (zero_at c i h l m).0) in
      let k = front_zeros 320 (5 * c + n) (5 * suc c) r.keys (omega arith) (λ i l m. (zero_at c i h l m).1) in
      rw (p, s, k)

  reads__o : (c left end : ℕ) (rest : List ℕ) → c + left ≡ end → end ≤ r.consumers
      → read_o c left (up_to_consumer r c) (lines_o r c left ++ rest) ≡ going (up_to_consumer r end) rest
  reads__o c zero end rest e h = let q : c ≡ end = omega arith in rw (text_none__o, none__o, q)
  reads__o c (suc left) end rest e h =
      ap (read_o c (suc left) (up_to_consumer r c)) (text__o r c rest left)
      ∙ step__o c left (up_to_consumer r c) (said r c) (lines_o r (suc c) left ++ rest) (right.consumer c (omega arith)) (omega (arith, few))
      ∙ rw (next_consumer r c ∙ next__o c (omega arith)) (reads__o (suc c) left end rest (omega arith) h)

  accepts : verdict_of_all r [] ≡ Ok tt
  unfolding verdict_of_all refuse◌if◌else◌
  accepts = rw (right.differ, right.keys)

  pub reads_all : read_text (text_of r) ≡ Ok r
  unfolding read_text text_of
  reads_all =
      let ds = lines_d r 0 r.producers in
      let os = lines_o r 0 r.consumers in
      let g = reads__g (ds ++ os) in
      let d = reads__d 0 r.producers r.producers os (zero-add r.producers) (omega arith) in
      let o : read_o 0 r.consumers (up_to r r.producers 0 0) os ≡ going r [] =
      rw (add-zero, append-nil, right.whole) at (reads__o 0 r.consumers r.consumers [] (zero-add r.consumers) (omega arith)) in
      rw (g, d, o, accepts)
