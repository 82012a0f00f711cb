-- A text that is read, line by line, is the text of the registration that it gives, and that registration is right. Assumes nothing.
use Prim.Native.Nat.{ℕ, zero, suc, ◌+◌, ◌-◌, ◌≤◌, ◌<◌}
use mathlib.Core.Path.{◌≡◌, refl, sym, ap, ◌∙◌}
use mathlib.Core.Bool.{true, not}
use mathlib.Core.List.{List, [], ◌∷◌, ◌++◌, append-nil}
use native.Mathlib.Omega.{arith}
use native.Mathlib.Nat.{zero-add}
use borrow.Author.Tests.{ltb-false, not-false}
use lib.Dec.{ltb}
use lib.ListN.{length}
use Rattle.answers.specs.declared.Refusal.TheVariants.{NotInColumns, CodeTwice, KeysAbove}
use Rattle.answers.specs.Numbers.{Verdict}
use Rattle.std.specs.Prelude.{Ok, Err}
use Rattle.answers.proofs.Refusals.{passed}
use Rattle.registration.specs.declared.Registration.{Registration}
use Rattle.registration.specs.Rules.{points, code_at, status_at, source_at, key_at, codes_differ, keys_right}
use Rattle.registration.specs.Damage.{empty}
use Rattle.registration.proofs.Bounds.{count_bounds}
use Rattle.registration.proofs.Damage.{point_bounds}
use Rattle.registration.proofs.Places.{pairs_same}
use Rattle.registration_text.specs.Lines.{line_g, line_o}
use Rattle.registration_text.proofs.Going.{going, same_going}
use Rattle.std.specs.Result.{result_and}
use Rattle.registration_text.specs.Reader.{Stage, with_counts, with_point, read_g, read_d, read_o, read_text, verdict_of_all, closing, then_read}
use Rattle.registration_text.specs.Writer.{lines_d, lines_o, text_of}
use Rattle.registration_text.proofs.Fronts.{by_order, by_equal, front_none}
use Rattle.registration_text.proofs.Named.{pairs_from_same}
use Rattle.registration_text.proofs.ConsumerLine.{Said, line_said}
use Rattle.registration_text.proofs.Texts.{text_none__d, text_none__o, text__d, text__o}
use Rattle.registration_text.proofs.States.{up_to, up_to_consumer, said, with_one, Put, clean_point, back_point, clean_one, back_one}
use Rattle.registration_text.proofs.Steps.{PointGood, ConsumerGood, ReadG, read__g, read__d, read__o}
use Rattle.registration.proofs.Unused.{Unused}
use Rattle.registration_text.proofs.Rights.{Right}

-- ---- the D lines

end__d : (i : ℕ) (s t : Registration) (text rest : List ℕ) → read_d i 0 s text ≡ going t rest → (s ≡ t) × (text ≡ rest)
unfolding read_d
end__d i s t text rest e = same_going s t text rest e

-- they leave zeros behind the points that they fill
clean__d : (i left end : ℕ) (s t : Registration) (text rest : List ℕ) → i + left ≡ end → up_to s i 0 0 ≡ s
    → read_d i left s text ≡ going t rest → up_to t end 0 0 ≡ t
clean__d i zero end s t text rest n clean e =
    let q : end ≡ i = omega arith in
    rw (q, sym (end__d i s t text rest e).0) clean
clean__d i (suc left) end s t text rest n clean e =
    let d = read__d i left s text t rest e in
    clean__d (suc i) left end (with_point s i d.code d.status) t d.rest rest (omega arith) (clean_point s i 0 0 d.code d.status clean) d.next

-- what they say of a registration r
record SaysD (r : Registration) (i left end : ℕ) (s : Registration) (text rest : List ℕ) : Type 0 where
  start : s ≡ up_to r i 0 0
  written : text ≡ lines_d r i left ++ rest
  good : (k : ℕ) → i ≤ k → k < end → PointGood (code_at r k) (status_at r k)

module _ (r t : Registration) (end : ℕ) (rest : List ℕ) (most : end ≤ 64) (fronted : t ≡ up_to r end 0 0) where
  says__d : (i left : ℕ) (s : Registration) (text : List ℕ) → i + left ≡ end → up_to s i 0 0 ≡ s
      → read_d i left s text ≡ going t rest → SaysD r i left end s text rest
  says__d i zero s text n clean e =
      let q = end__d i s t text rest e in
      let m : i ≡ end = omega arith in
      record { start = rw m (q.0 ∙ fronted); written = q.1 ∙ sym (text_none__d r i rest); good = λ k a b. absurd (omega arith) }
  says__d i (suc left) s text n clean e =
      let d = read__d i left s text t rest e in
      let later = says__d (suc i) left (with_point s i d.code d.status) d.rest (omega arith) (clean_point s i 0 0 d.code d.status clean) d.next in
      let b = back_point s i 0 0 d.code d.status clean r (omega arith) later.start in
      record {
        start = b.0;
        written = d.line ∙ cc (b.1, b.2, later.written) ∙ sym (text__d r i rest left);
        good = λ k l m. by_equal k i (λ q. rw (q, b.1, b.2) d.good) (λ q. later.good k (omega arith) m);
      }

-- ---- the O lines

end__o : (c : ℕ) (s t : Registration) (text rest : List ℕ) → read_o c 0 s text ≡ going t rest → (s ≡ t) × (text ≡ rest)
unfolding read_o
end__o c s t text rest e = same_going s t text rest e

clean__o : (c left end : ℕ) (s t : Registration) (text rest : List ℕ) → c + left ≡ end → up_to_consumer s c ≡ s
    → read_o c left s text ≡ going t rest → up_to_consumer t end ≡ t
clean__o c zero end s t text rest n clean e =
    let q : end ≡ c = omega arith in
    rw (q, sym (end__o c s t text rest e).0) clean
clean__o c (suc left) end s t text rest n clean e =
    let d = read__o c left s text t rest e in
    let few = (count_bounds d.says.count d.good.counted).1 in
    clean__o (suc c) left end (with_one s c d.says) t d.rest rest (omega arith) (clean_one s c d.says few clean) d.next

-- a registration that has a line's numbers of a consumer says what the line says
module _ (r : Registration) (c : ℕ) (l : Said) (put : Put r c l) where
  put_line : line_o r c ≡ line_said l
  put_line =
      let p = pairs_from_same (source_at r c) (key_at r c) l.source l.key 0 l.count (λ k h. put.sources k (omega arith)) (λ k h. put.keys k (omega arith)) in
      rw (put.code, put.status, put.count, p)

  put_good : (producers : ℕ) → producers ≡ r.producers → ConsumerGood producers l → ConsumerGood r.producers (said r c)
  put_good producers same good =
      let p = pairs_same r.producers l.count (source_at r c) l.source (key_at r c) l.key put.sources put.keys in
      record {
        point = rw (put.code, put.status) good.point;
        counted = rw put.count good.counted;
        paired = rw put.count (p ∙ (rw same at good.paired));
      }

  put_unused : Unused r c
  put_unused p h m = let q = put.count in (put.no_source p (omega arith) m, put.no_key p (omega arith) m)

-- what the O lines say of a registration r
record SaysO (r : Registration) (c left end : ℕ) (s : Registration) (text rest : List ℕ) : Type 0 where
  start : s ≡ up_to_consumer r c
  written : text ≡ lines_o r c left ++ rest
  good : (k : ℕ) → c ≤ k → k < end → ConsumerGood r.producers (said r k)
  unused : (k : ℕ) → c ≤ k → k < end → Unused r k

module _ (r : Registration) (end : ℕ) (rest : List ℕ) (fronted : r ≡ up_to_consumer r end) where
  says__o : (c left : ℕ) (s : Registration) (text : List ℕ) → c + left ≡ end → s.producers + end ≤ 64 → up_to_consumer s c ≡ s
      → read_o c left s text ≡ going r rest → SaysO r c left end s text rest
  says__o c zero s text n most clean e =
      let q = end__o c s r text rest e in
      let m : c ≡ end = omega arith in
      record {
        start = rw m (q.0 ∙ fronted);
        written = q.1 ∙ sym (text_none__o r c rest);
        good = λ k a b. absurd (omega arith);
        unused = λ k a b. absurd (omega arith);
      }
  says__o c (suc left) s text n most clean e =
      let d = read__o c left s text r rest e in
      let few = (count_bounds d.says.count d.good.counted).1 in
      let later = says__o (suc c) left (with_one s c d.says) d.rest (omega arith) most (clean_one s c d.says few clean) d.next in
      let same : s.producers ≡ r.producers = λ i. (later.start i).producers in
      let b = back_one s c d.says few clean r (omega arith) later.start in
      record {
        start = b.0;
        written = d.line ∙ cc (put_line r c d.says b.1, later.written) ∙ sym (text__o r c rest left);
        good = λ k l m.
            by_equal k c (λ q. rw q (put_good r c d.says b.1 s.producers same d.good)) (λ q. later.good k (omega arith) m);
        unused = λ k l m. by_equal k c (λ q. rw q (put_unused r c d.says b.1)) (λ q. later.unused k (omega arith) m);
      }

-- ---- the whole text

fresh_clean : (producers consumers iteration : ℕ) → up_to (with_counts producers consumers iteration) 0 0 0 ≡ with_counts producers consumers iteration
unfolding empty
fresh_clean producers consumers iteration = rw (front_none 64, front_none 320)

-- nothing is left, all codes differ, and no producer's keys sum to too much
accepted_all : (r : Registration) (rest : List ℕ) → verdict_of_all r rest ≡ Ok tt → (rest ≡ []) × (codes_differ r ≡ true) × (keys_right r ≡ true)
unfolding verdict_of_all
accepted_all r rest e =
    let a = passed NotInColumns (ltb 0 (length rest)) _ e in
    let b = passed CodeTwice (not (codes_differ r)) _ a.1 in
    let c = passed KeysAbove (not (keys_right r)) _ b.1 in
    (none rest (ltb-false 0 (length rest) a.0), not-false (codes_differ r) b.0, not-false (keys_right r) c.0)
  where
    none : (bytes : List ℕ) → length bytes ≤ 0 → bytes ≡ []
    none [] h = refl
    none (byte ∷ bytes) h = absurd (omega arith)

-- a text of which G gave s, the D lines gave t, and the O lines gave r
module _ (text u v rest : List ℕ) (s t r : Registration) (e : read_g text ≡ going s u) (f : read_d 0 s.producers s u ≡ going t v)
    (h : read_o 0 t.consumers t v ≡ going r rest) (accepted : verdict_of_all r rest ≡ Ok tt) where
  group : ReadG text s u
  group = read__g text s u e

  few : s.producers + s.consumers ≤ 64
  few = (point_bounds s.producers s.consumers group.good.counted).2

  clean_s : up_to s 0 0 0 ≡ s
  clean_s = rw (← group.fresh) (fresh_clean s.producers s.consumers s.iteration)

  clean_t : up_to t s.producers 0 0 ≡ t
  clean_t = clean__d 0 s.producers s.producers s t u v (zero-add s.producers) clean_s f

  producers_say : (r : Registration) → t ≡ up_to r s.producers 0 0 → SaysD r 0 s.producers s.producers s u v
  producers_say r fronted = says__d r t s.producers v (omega (arith, few)) fronted 0 s.producers s u (zero-add s.producers) clean_s f

  -- the counts are still those of the G line
  s_in_t : s ≡ up_to t 0 0 0
  s_in_t = (producers_say t (sym clean_t)).start

  first_consumer : up_to_consumer t 0 ≡ t
  first_consumer =
      let p : s.producers ≡ t.producers = λ i. (s_in_t i).producers in
      let q : t.producers + 0 ≡ s.producers = omega arith in
      ap (λ (n : ℕ). up_to t n 0 0) q ∙ clean_t

  clean_r : up_to_consumer r t.consumers ≡ r
  clean_r = clean__o 0 t.consumers t.consumers t r v rest (zero-add t.consumers) first_consumer h

  os : SaysO r 0 t.consumers t.consumers t v rest
  os =
      let p : s.producers ≡ t.producers = λ i. (s_in_t i).producers in
      let q : s.consumers ≡ t.consumers = λ i. (s_in_t i).consumers in
      says__o r t.consumers rest (sym clean_r) 0 t.consumers t v (zero-add t.consumers) (omega (arith, few)) first_consumer h

  t_in_r : t ≡ up_to r s.producers 0 0
  t_in_r =
      let p : s.producers ≡ t.producers = λ i. (s_in_t i).producers in
      let q : t.producers ≡ r.producers = λ i. (os.start i).producers in
      let m : r.producers + 0 ≡ s.producers = omega arith in
      os.start ∙ ap (λ (n : ℕ). up_to r n 0 0) m

  ds : SaysD r 0 s.producers s.producers s u v
  ds = producers_say r t_in_r

  same_producers : s.producers ≡ r.producers
  same_producers = λ i. (ds.start i).producers

  same_consumers : t.consumers ≡ r.consumers
  same_consumers = λ i. (t_in_r i).consumers

  good_point : (i : ℕ) → i < points r → PointGood (code_at r i) (status_at r i)
  good_point i l =
      let p = same_producers in
      let q = same_consumers in
      by_order i r.producers (λ a. ds.good i (omega arith) (omega arith))
      (λ a.
      let m : r.producers + (i - r.producers) ≡ i = omega arith in
      rw m at (os.good (i - r.producers) (omega arith) (omega arith)).point)

  right_read : Right r
  right_read =
      let a = accepted_all r rest accepted in
      let q = same_consumers in
      record {
        group = rw ds.start at group.good;
        point = good_point;
        consumer = λ c l. os.good c (omega arith) (omega arith);
        unused = λ c l. os.unused c (omega arith) (omega arith);
        whole = rw q at clean_r;
        differ = a.1;
        keys = a.2;
      }

  text_read : text_of r ≡ text
  unfolding text_of
  text_read =
      cc (
        group.line,
        ap line_g ds.start,
        ds.written,
        os.written,
        (accepted_all r rest accepted).0,
        same_producers,
        same_consumers,
        append-nil (lines_o r 0 r.consumers),
      )

-- a reading that goes on after a stage went on at that stage
record Went (stage : Stage) (next : Registration → List ℕ → Stage) (end : Stage) : Type 0 where
  state : Registration
  left : List ℕ
  here : stage ≡ going state left
  on : next state left ≡ end

went_on : (stage : Stage) (next : Registration → List ℕ → Stage) (r : Registration) (rest : List ℕ) → then_read stage next ≡ going r rest
    → Went stage next (going r rest)
went_on (Err refusal) next r rest e = let z : ◌≡◌ {A = ℕ} 0 1 = cc in absurd (omega arith)
went_on (Ok read) next r rest e = record { state = read.0; left = read.1; here = refl; on = e }

-- a text that is read gives what was read
record Closed (stage : Stage) (r : Registration) : Type 0 where
  left : List ℕ
  here : stage ≡ going r left
  accepted : verdict_of_all r left ≡ Ok tt

accepted_is : (v : Verdict) (s r : Registration) → result_and v (Ok s) ≡ Ok r → (v ≡ Ok tt) × (s ≡ r)
accepted_is (Ok _) s r e = (refl, cc)
accepted_is (Err refusal) s r e = let z : ◌≡◌ {A = ℕ} 0 1 = cc in absurd (omega arith)

closed_by : (stage : Stage) (r : Registration) → closing stage ≡ Ok r → Closed stage r
closed_by (Err refusal) r e = let z : ◌≡◌ {A = ℕ} 0 1 = cc in absurd (omega arith)
closed_by (Ok read) r e =
    let a = accepted_is (verdict_of_all read.0 read.1) read.0 r e in
    record { left = read.1; here = rw (← a.1) refl; accepted = rw (← a.1) a.0 }

-- the text read up to the last D line, and up to the last O line
abbrev read_up_to_d : List ℕ → Stage
read_up_to_d text = then_read (read_g text) (λ r rest. read_d 0 r.producers r rest)

abbrev read_up_to_o : List ℕ → Stage
read_up_to_o text = then_read (read_up_to_d text) (λ r rest. read_o 0 r.consumers r rest)

pub sound_read : (text : List ℕ) (r : Registration) → read_text text ≡ Ok r → Right r × (text_of r ≡ text)
unfolding read_text
sound_read text r e =
    let c = closed_by (read_up_to_o text) r e in
    let o = went_on (read_up_to_d text) _ r c.left c.here in
    let d = went_on (read_g text) _ o.state o.left o.here in (
      right_read text d.left o.left c.left d.state o.state r d.here d.on o.on c.accepted,
      text_read text d.left o.left c.left d.state o.state r d.here d.on o.on c.accepted,
    )
