-- Reading one line, both ways: a line that is written of right numbers is read, and a line that is read was written of right numbers.
-- Assumes nothing.
use Prim.Native.Nat.{ℕ, suc, ◌≤◌, ◌<◌}
use mathlib.Core.Path.{◌≡◌, refl, sym, ap, ◌∙◌}
use mathlib.Core.Bool.{true, false, not, ◌&&◌}
use mathlib.Core.List.{List, [], ◌∷◌, ◌++◌}
use Rattle.std.specs.Prelude.{Option, Some}
use native.Mathlib.Omega.{arith}
use native.Mathlib.Nat.{zero-add}
use borrow.Author.Tests.{le-ltb, ltb-false, leb-true, lt-ltb, not-false}
use lib.Dec.{leb, ltb}
use Rattle.answers.specs.declared.Refusal.TheVariants.{NotInColumns, CodeFalse, CountOutside, StatusOrIterationAbove, ProducerOrKeyWrong}
use Rattle.answers.specs.Numbers.{Verdict}
use Rattle.std.specs.Prelude.{Ok, Err}
use Rattle.answers.specs.Order.{refuse◌if◌else◌}
use Rattle.answers.proofs.Refusals.{passed}
use Rattle.columns.specs.Fields.{fitting, nth, is_none}
use Rattle.lines.specs.Line.{first_line, after_line}
use Rattle.lists.proofs.Below.{both}
use Rattle.lines.specs.Lines.{line_of, line_in}
use Rattle.lines.proofs.Laws.{begins_read, begins_written}
use Rattle.registration.specs.declared.Registration.{Registration}
use Rattle.registration.specs.Code.{is_code}
use Rattle.registration.specs.Rules.{point_counts_right, count_right, pairs_right}
use Rattle.registration.proofs.Bounds.{count_bounds, pair_bounds}
use Rattle.registration.proofs.Damage.{point_bounds}
use Rattle.registration.proofs.Places.{pairs_same}
use Rattle.registration_text.specs.Lines.{line_g, letter_g, letter_d, widths_g, widths_d, widths_o, widths_of_pairs}
use Rattle.registration_text.proofs.Going.{going, same_going}
use Rattle.std.specs.Result.{result_and}
use Rattle.registration_text.specs.Reader.{Stage, fixed_in, rest_in, verdict_g, verdict_d, verdict_o, nth_source, nth_key, with_counts, with_point, read_g, read_d, read_o}
use Rattle.registration_text.proofs.Named.{pairs_at, pairs_fit}
use Rattle.registration_text.proofs.ConsumerLine.{Said, fixed_said, pairs_said, line_said, said_by, begins_consumer_read, begins_consumer_written}
use Rattle.registration_text.proofs.States.{with_one, put_consumer, one_same}

-- a reading that goes on has refused nothing
going_on : (v : Verdict) (stage : Stage) (r : Registration) (rest : List ℕ) → result_and v stage ≡ going r rest → (v ≡ Ok tt) × (stage ≡ going r rest)
going_on (Ok _) stage r rest e = (refl, e)
going_on (Err refusal) stage r rest e = let z : ◌≡◌ {A = ℕ} 0 1 = cc in absurd (omega arith)

-- ---- G

-- counts and iteration as the rules want them
pub record GroupGood (producers consumers iteration : ℕ) : Type 0 where
  pub counted : point_counts_right producers consumers ≡ true
  pub iterated : iteration ≤ 1

module _ (producers consumers iteration : ℕ) (good : GroupGood producers consumers iteration) where
  accepts__g : verdict_g (Some (producers ∷ consumers ∷ iteration ∷ [])) ≡ Ok tt
  unfolding verdict_g refuse◌if◌else◌
  accepts__g = rw (good.counted, le-ltb 1 iteration good.iterated)

  fits__g : fitting widths_g (producers ∷ consumers ∷ iteration ∷ []) ≡ true
  unfolding fitting
  fits__g =
      let few = point_bounds producers consumers good.counted in
      rw (lt-ltb producers 1000 (omega arith), lt-ltb consumers 1000 (omega arith), lt-ltb iteration 10 (omega (arith, good.iterated)))

  pub step__g : (rest : List ℕ)
      → read_g (line_of letter_g widths_g (producers ∷ consumers ∷ iteration ∷ []) ++ rest) ≡ going (with_counts producers consumers iteration) rest
  unfolding read_g
  step__g rest =
      let a = begins_read letter_g widths_g (producers ∷ consumers ∷ iteration ∷ []) rest (omega arith) fits__g in
      rw (a.0, a.1, accepts__g)

accepted__g : (numbers : Option (List ℕ)) → verdict_g numbers ≡ Ok tt → (is_none numbers ≡ false) × GroupGood (nth 0 numbers) (nth 1 numbers) (nth 2 numbers)
unfolding verdict_g
accepted__g numbers e =
    let a = passed NotInColumns (is_none numbers) _ e in
    let b = passed CountOutside (not (point_counts_right (nth 0 numbers) (nth 1 numbers))) _ a.1 in
    let c = passed StatusOrIterationAbove (ltb 1 (nth 2 numbers)) _ b.1 in
    (a.0, record { counted = not-false (point_counts_right (nth 0 numbers) (nth 1 numbers)) b.0; iterated = ltb-false 1 (nth 2 numbers) c.0 })

-- a G line that has been read
pub record ReadG (text : List ℕ) (s : Registration) (rest : List ℕ) : Type 0 where
  pub good : GroupGood s.producers s.consumers s.iteration
  pub line : text ≡ line_g s ++ rest
  pub fresh : with_counts s.producers s.consumers s.iteration ≡ s

pub read__g : (text : List ℕ) (s : Registration) (rest : List ℕ) → read_g text ≡ going s rest → ReadG text s rest
unfolding read_g
read__g text s rest e =
    let numbers = line_in letter_g widths_g (first_line text) in
    let a = going_on (verdict_g numbers) _ s rest e in
    let b = accepted__g numbers a.0 in
    let same = same_going (with_counts (nth 0 numbers) (nth 1 numbers) (nth 2 numbers)) s (after_line text) rest a.1 in
    rw (← same.0, ← same.1) record { good = b.1; line = begins_written letter_g widths_g text b.0; fresh = refl }

-- ---- D

-- code and status as the rules want them
pub record PointGood (code status : ℕ) : Type 0 where
  pub coded : is_code code ≡ true
  pub stated : status ≤ 3

small_code : (code : ℕ) → is_code code ≡ true → code < 1000000000000000000
unfolding is_code
small_code code t =
    let a = both (leb 100000000000000000 code && leb code 999999999999999999) _ t in
    let b = both (leb 100000000000000000 code) (leb code 999999999999999999) a.0 in
    omega (arith, leb-true code 999999999999999999 b.1)

module _ (code status : ℕ) (good : PointGood code status) where
  accepts__d : verdict_d (Some (code ∷ status ∷ [])) ≡ Ok tt
  unfolding verdict_d refuse◌if◌else◌
  accepts__d = rw (le-ltb 3 status good.stated, good.coded)

  fits__d : fitting widths_d (code ∷ status ∷ []) ≡ true
  unfolding fitting
  fits__d = rw (lt-ltb code 1000000000000000000 (small_code code good.coded), lt-ltb status 10 (omega (arith, good.stated)))

accepted__d : (numbers : Option (List ℕ)) → verdict_d numbers ≡ Ok tt → (is_none numbers ≡ false) × PointGood (nth 0 numbers) (nth 1 numbers)
unfolding verdict_d
accepted__d numbers e =
    let a = passed NotInColumns (is_none numbers) _ e in
    let b = passed StatusOrIterationAbove (ltb 3 (nth 1 numbers)) _ a.1 in
    let c = passed CodeFalse (not (is_code (nth 0 numbers))) _ b.1 in
    (a.0, record { coded = not-false (is_code (nth 0 numbers)) c.0; stated = ltb-false 3 (nth 1 numbers) b.0 })

module _ (producer left : ℕ) (r : Registration) where
  clause__d : (text : List ℕ) → let numbers = line_in letter_d widths_d (first_line text) in
      read_d producer (suc left) r text ≡ result_and (verdict_d numbers) (read_d (suc producer) left (with_point r producer (nth 0 numbers) (nth 1 numbers)) (after_line text))
  unfolding read_d
  clause__d text = refl

  pub step__d : (code status : ℕ) (rest : List ℕ) → PointGood code status
      → read_d producer (suc left) r (line_of letter_d widths_d (code ∷ status ∷ []) ++ rest) ≡ read_d (suc producer) left (with_point r producer code status) rest
  step__d code status rest good =
      let a = begins_read letter_d widths_d (code ∷ status ∷ []) rest (omega arith) (fits__d code status good) in
      clause__d _ ∙ rw (a.0, a.1, accepts__d code status good)

  -- a D line that has been read
  pub record ReadD (text : List ℕ) (end : Stage) : Type 0 where
    pub code : ℕ
    pub status : ℕ
    pub rest : List ℕ
    pub good : PointGood code status
    pub line : text ≡ line_of letter_d widths_d (code ∷ status ∷ []) ++ rest
    pub next : read_d (suc producer) left (with_point r producer code status) rest ≡ end

  pub read__d : (text : List ℕ) (s : Registration) (end : List ℕ) → read_d producer (suc left) r text ≡ going s end → ReadD text (going s end)
  read__d text s end e =
      let numbers = line_in letter_d widths_d (first_line text) in
      let a = going_on (verdict_d numbers) _ s end (sym (clause__d text) ∙ e) in
      let b = accepted__d numbers a.0 in
      record {
        code = nth 0 numbers;
        status = nth 1 numbers;
        rest = after_line text;
        good = b.1;
        line = begins_written letter_d widths_d text b.0;
        next = a.1;
      }

-- ---- O

-- what a consumer's line says as the rules want it
pub record ConsumerGood (producers : ℕ) (l : Said) : Type 0 where
  pub point : PointGood l.code l.status
  pub counted : count_right l.count ≡ true
  pub paired : pairs_right producers l.count l.source l.key ≡ true

module _ (l : Said) where
  -- the numbers and keys in the columns are those of the line
  source_at_lem : (k : ℕ) → k < l.count → nth_source (Some (pairs_said l)) k ≡ l.source k
  source_at_lem k h = rw zero-add at (pairs_at l.source l.key 0 l.count k h).0

  key_at_lem : (k : ℕ) → k < l.count → nth_key (Some (pairs_said l)) k ≡ l.key k
  key_at_lem k h = rw zero-add at (pairs_at l.source l.key 0 l.count k h).1

module _ (producers : ℕ) (l : Said) (good : ConsumerGood producers l) where
  accepts__o : verdict_o producers (Some (fixed_said l)) (Some (pairs_said l)) ≡ Ok tt
  unfolding verdict_o refuse◌if◌else◌
  accepts__o =
      let ns = Some (pairs_said l) in
      let same = pairs_same producers l.count (nth_source ns) l.source (nth_key ns) l.key (source_at_lem l) (key_at_lem l) in
      rw (good.counted, le-ltb 3 l.status good.point.stated, good.point.coded, same ∙ good.paired)

  fits__o : fitting widths_o (fixed_said l) ≡ true
  unfolding fitting
  fits__o =
      rw (
        lt-ltb l.code 1000000000000000000 (small_code l.code good.point.coded),
        lt-ltb l.status 10 (omega (arith, good.point.stated)),
        lt-ltb l.count 10 (omega (arith, count_bounds l.count good.counted)),
      )

  fits_pairs : producers < 1000 → fitting (widths_of_pairs l.count) (pairs_said l) ≡ true
  fits_pairs few =
      pairs_fit l.source l.key 0 l.count
      (λ k h. let small = pair_bounds producers l.count l.source l.key good.paired k h in rw zero-add (omega arith))

accepted__o : (producers : ℕ) (fixed rest : Option (List ℕ)) → verdict_o producers fixed rest ≡ Ok tt
    → (is_none fixed ≡ false) × (is_none rest ≡ false) × ConsumerGood producers (said_by fixed rest)
unfolding verdict_o
accepted__o producers fixed rest e =
    let paired = pairs_right producers (nth 2 fixed) (nth_source rest) (nth_key rest) in
    let a = passed NotInColumns (is_none fixed) _ e in
    let b = passed CountOutside (not (count_right (nth 2 fixed))) _ a.1 in
    let c = passed NotInColumns (is_none rest) _ b.1 in
    let d = passed StatusOrIterationAbove (ltb 3 (nth 1 fixed)) _ c.1 in
    let f = passed CodeFalse (not (is_code (nth 0 fixed))) _ d.1 in
    let g = passed ProducerOrKeyWrong (not paired) _ f.1 in (
      a.0,
      c.0,
      record {
        point = record { coded = not-false (is_code (nth 0 fixed)) f.0; stated = ltb-false 3 (nth 1 fixed) d.0 };
        counted = not-false (count_right (nth 2 fixed)) b.0;
        paired = not-false paired g.0;
      },
    )

module _ (consumer left : ℕ) (r : Registration) where
  clause__o : (text : List ℕ) → let fixed = fixed_in (first_line text) in let rest = rest_in (nth 2 fixed) (first_line text) in
      read_o consumer (suc left) r text
      ≡ result_and (verdict_o r.producers fixed rest) (read_o (suc consumer) left (with_one r consumer (said_by fixed rest)) (after_line text))
  unfolding read_o
  clause__o text =
      let fixed = fixed_in (first_line text) in
      rw (put_consumer r consumer (said_by fixed (rest_in (nth 2 fixed) (first_line text))))

  pub step__o : (l : Said) (rest : List ℕ) → ConsumerGood r.producers l → r.producers < 1000
      → read_o consumer (suc left) r (line_said l ++ rest) ≡ read_o (suc consumer) left (with_one r consumer l) rest
  step__o l rest good few =
      let a = begins_consumer_read l rest (fits__o r.producers l good) (fits_pairs r.producers l good few) in
      let ns = Some (pairs_said l) in
      clause__o _
      ∙ rw (a.0, a.1, a.2, accepts__o r.producers l good)
      (ap (λ (t : Registration). read_o (suc consumer) left t rest) (one_same r consumer l (nth_source ns) (nth_key ns) (source_at_lem l) (key_at_lem l)))

  -- an O line that has been read
  pub record ReadO (text : List ℕ) (end : Stage) : Type 0 where
    pub says : Said
    pub rest : List ℕ
    pub good : ConsumerGood r.producers says
    pub line : text ≡ line_said says ++ rest
    pub next : read_o (suc consumer) left (with_one r consumer says) rest ≡ end

  pub read__o : (text : List ℕ) (s : Registration) (end : List ℕ) → read_o consumer (suc left) r text ≡ going s end → ReadO text (going s end)
  read__o text s end e =
      let fixed = fixed_in (first_line text) in
      let rest = rest_in (nth 2 fixed) (first_line text) in
      let a = going_on (verdict_o r.producers fixed rest) _ s end (sym (clause__o text) ∙ e) in
      let b = accepted__o r.producers fixed rest a.0 in
      record {
        says = said_by fixed rest;
        rest = after_line text;
        good = b.2;
        line = begins_consumer_written text b.0 b.1;
        next = a.1;
      }
