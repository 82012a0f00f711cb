-- The lines of producers, or of consumers, read one after the other: the stage of the whole is that of the lines that are left. Assumes nothing.
use Prim.Native.Nat.{ℕ, suc, ◌+◌, ◌-◌, ◌≤◌, ◌<◌}
use mathlib.Core.Path.{◌≡◌, refl, ap, ◌∙◌}
use mathlib.Core.List.{List}
use Rattle.std.specs.Prelude.{Option, Ok, Err}
use Rattle.std.specs.Result.{result_and}
use native.Mathlib.Omega.{arith}
use Rattle.answers.specs.declared.Refusal.{Refusal}
use Rattle.answers.specs.Numbers.{Verdict}
use Rattle.columns.specs.Fields.{nth}
use Rattle.lines.specs.Line.{first_line, after_line}
use Rattle.lines.specs.Lines.{line_in}
use Rattle.registration.specs.declared.Registration.{Registration}
use Rattle.registration_text.specs.Lines.{letter_d, widths_d}
use Rattle.registration_text.specs.Reader.{Stage, fixed_in, rest_in, verdict_d, verdict_o, nth_source, nth_key, with_point, with_count, with_consumer, read_d, read_o}
use Rattle.registration_text.proofs.Going.{going}
use Rattle.registration_reader.proofs.Placing.{pairs_producers, pairs_consumers}

-- ---- lines that are read in one way: the verdict on a line, and what it puts into the registration

pub record LineKind : Type 0 where
  pub read : ℕ → ℕ → Registration → List ℕ → Stage
  pub verdict : Registration → List ℕ → Verdict
  pub next : Registration → ℕ → List ℕ → Registration
  pub none_left : (i : ℕ) (r : Registration) (text : List ℕ) → read i 0 r text ≡ going r text
  pub one_more : (i left : ℕ) (r : Registration) (text : List ℕ)
      → read i (suc left) r text ≡ result_and (verdict r (first_line text)) (read (suc i) left (next r i (first_line text)) (after_line text))
  pub producers : (r : Registration) (i : ℕ) (line : List ℕ) → (next r i line).producers ≡ r.producers
  pub consumers : (r : Registration) (i : ℕ) (line : List ℕ) → (next r i line).consumers ≡ r.consumers

-- so many lines of a text have been read, and the others are left
pub record Reading (kind : LineKind) (count : ℕ) (begun : Registration) (text : List ℕ) (r : Registration) (left : List ℕ) (i : ℕ) : Type 0 where
  pub stage : kind.read 0 count begun text ≡ kind.read i (count - i) r left
  pub producers : r.producers ≡ begun.producers
  pub consumers : r.consumers ≡ begun.consumers

module _ {kind : LineKind} {count : ℕ} {begun : Registration} {text : List ℕ} {r : Registration} {left : List ℕ} {i : ℕ} (reading : Reading kind count begun text r left i) where
  pub reading_ends : count ≤ i → kind.read 0 count begun text ≡ going r left
  reading_ends h =
      let none : count - i ≡ 0 = omega arith in
      reading.stage ∙ rw none (kind.none_left i r left)

  module _ (h : i < count) where
    -- the stage, with the next line's verdict in front
    stage_next : kind.read 0 count begun text
        ≡ result_and (kind.verdict r (first_line left)) (kind.read (suc i) (count - suc i) (kind.next r i (first_line left)) (after_line left))
    stage_next =
        let more : count - i ≡ suc (count - suc i) = omega arith in
        reading.stage ∙ rw more (kind.one_more i (count - suc i) r left)

    pub reading_stops : (refusal : Refusal) → kind.verdict r (first_line left) ≡ Err refusal → kind.read 0 count begun text ≡ Err refusal
    reading_stops refusal e = stage_next ∙ rw e

    pub reading_goes : (next : Registration) → kind.verdict r (first_line left) ≡ Ok tt → next ≡ kind.next r i (first_line left)
        → Reading kind count begun text next (after_line left) (i + 1)
    reading_goes next accepted is =
        let line = first_line left in
        let one : i + 1 ≡ suc i = omega arith in
        record {
          stage = rw (one, is) (stage_next ∙ rw accepted);
          producers = ap (λ (r : Registration). r.producers) is ∙ kind.producers r i line ∙ reading.producers;
          consumers = ap (λ (r : Registration). r.consumers) is ∙ kind.consumers r i line ∙ reading.consumers;
        }

-- ---- the D lines

module _ (r : Registration) (text : List ℕ) where
  pub read_d_none : (producer : ℕ) → read_d producer 0 r text ≡ going r text
  unfolding read_d
  read_d_none producer = refl

  pub read_d_more : (producer left : ℕ) → let numbers = line_in letter_d widths_d (first_line text) in
      read_d producer (suc left) r text ≡ result_and (verdict_d numbers) (read_d (suc producer) left (with_point r producer (nth 0 numbers) (nth 1 numbers)) (after_line text))
  unfolding read_d
  read_d_more producer left = refl

module _ (r : Registration) (point code status : ℕ) where
  pub point_producers : (with_point r point code status).producers ≡ r.producers
  unfolding with_point
  point_producers = refl

  pub point_consumers : (with_point r point code status).consumers ≡ r.consumers
  unfolding with_point
  point_consumers = refl

abbrev pub producer_lines : LineKind
producer_lines =
    record {
      read = read_d;
      verdict = λ r line. verdict_d (line_in letter_d widths_d line);
      next = λ r producer line. with_point r producer (nth 0 (line_in letter_d widths_d line)) (nth 1 (line_in letter_d widths_d line));
      none_left = λ producer r text. read_d_none r text producer;
      one_more = λ producer left r text. read_d_more r text producer left;
      producers = λ r producer line. point_producers r producer _ _;
      consumers = λ r producer line. point_consumers r producer _ _;
    }

-- ---- the O lines

module _ (r : Registration) (text : List ℕ) where
  pub read_o_none : (consumer : ℕ) → read_o consumer 0 r text ≡ going r text
  unfolding read_o
  read_o_none consumer = refl

  pub read_o_more : (consumer left : ℕ) → let fixed = fixed_in (first_line text) in let rest = rest_in (nth 2 fixed) (first_line text) in
      read_o consumer (suc left) r text ≡ result_and (verdict_o r.producers fixed rest) (read_o (suc consumer) left (with_consumer r consumer fixed rest) (after_line text))
  unfolding read_o
  read_o_more consumer left = refl

module _ (r : Registration) (consumer : ℕ) (fixed rest : Option (List ℕ)) where
  pub consumer_producers : (with_consumer r consumer fixed rest).producers ≡ r.producers
  unfolding with_point with_count
  consumer_producers = pairs_producers _ consumer (nth_source rest) (nth_key rest) 0 (nth 2 fixed)

  pub consumer_consumers : (with_consumer r consumer fixed rest).consumers ≡ r.consumers
  unfolding with_point with_count
  consumer_consumers = pairs_consumers _ consumer (nth_source rest) (nth_key rest) 0 (nth 2 fixed)

abbrev pub consumer_lines : LineKind
consumer_lines =
    record {
      read = read_o;
      verdict = λ r line. verdict_o r.producers (fixed_in line) (rest_in (nth 2 (fixed_in line)) line);
      next = λ r consumer line. with_consumer r consumer (fixed_in line) (rest_in (nth 2 (fixed_in line)) line);
      none_left = λ consumer r text. read_o_none r text consumer;
      one_more = λ consumer left r text. read_o_more r text consumer left;
      producers = λ r consumer line. consumer_producers r consumer (fixed_in line) (rest_in (nth 2 (fixed_in line)) line);
      consumers = λ r consumer line. consumer_consumers r consumer (fixed_in line) (rest_in (nth 2 (fixed_in line)) line);
    }
