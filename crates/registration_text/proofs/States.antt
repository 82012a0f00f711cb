-- A registration as far as it has been read: how each line takes it further, and what the line put there. Assumes nothing.
use Prim.Native.Nat.{ℕ, zero, suc, ◌+◌, ◌*◌, ◌≤◌, ◌<◌}
use mathlib.Core.Path.{◌≡◌, refl}
use native.Mathlib.Omega.{arith}
use lib.ListN.{set}
use Rattle.registration.specs.declared.Registration.{Registration}
use Rattle.registration.specs.Rules.{code_at, status_at, count_at, source_at, key_at}
use Rattle.registration_text.specs.Reader.{with_point, with_count, with_pair, with_pairs}
use Rattle.registration_text.proofs.Fronts.{front, front_next, clean_set, back_set, fills, fills_same, clean_fills, back_fills, fills_front}
use Rattle.registration_text.proofs.ConsumerLine.{Said}

-- the registration up to a point, a consumer and a place of a pair, and zeros from there on
abbrev pub up_to : Registration → (point consumer place : ℕ) → Registration
up_to r point consumer place =
    record {
      producers = r.producers;
      consumers = r.consumers;
      iteration = r.iteration;
      codes = front 64 point r.codes;
      statuses = front 64 point r.statuses;
      counts = front 64 consumer r.counts;
      sources = front 320 place r.sources;
      keys = front 320 place r.keys;
    }

-- the registration up to a consumer's line
abbrev pub up_to_consumer : Registration → ℕ → Registration
up_to_consumer r consumer = up_to r (r.producers + consumer) consumer (5 * consumer)

-- what a registration says of a consumer
abbrev pub said : Registration → ℕ → Said
said r consumer =
    record {
      code = code_at r (r.producers + consumer);
      status = status_at r (r.producers + consumer);
      count = count_at r consumer;
      source = source_at r consumer;
      key = key_at r consumer;
    }

-- what a line says of a consumer, put into the registration
abbrev pub with_one : Registration → ℕ → Said → Registration
with_one r consumer l =
    record {
      producers = r.producers;
      consumers = r.consumers;
      iteration = r.iteration;
      codes = set r.codes (r.producers + consumer) l.code;
      statuses = set r.statuses (r.producers + consumer) l.status;
      counts = set r.counts consumer l.count;
      sources = fills r.sources (5 * consumer) l.source 0 l.count;
      keys = fills r.keys (5 * consumer) l.key 0 l.count;
    }

filled_pairs : (r : Registration) (consumer : ℕ) (source key : ℕ → ℕ) (priority count : ℕ)
    → with_pairs r consumer source key priority count
    ≡ record {
      producers = r.producers;
      consumers = r.consumers;
      iteration = r.iteration;
      codes = r.codes;
      statuses = r.statuses;
      counts = r.counts;
      sources = fills r.sources (5 * consumer) source priority count;
      keys = fills r.keys (5 * consumer) key priority count;
    }
unfolding with_pairs with_pair fills
filled_pairs r consumer source key priority zero = refl
filled_pairs r consumer source key priority (suc count) = filled_pairs (with_pair r (5 * consumer + priority) (source priority) (key priority)) consumer source key (suc priority) count

module _ (r : Registration) (consumer : ℕ) (l : Said) where
  pub put_consumer : with_pairs (with_count (with_point r (r.producers + consumer) l.code l.status) consumer l.count) consumer l.source l.key 0 l.count
      ≡ with_one r consumer l
  unfolding with_point with_count
  put_consumer = filled_pairs _ consumer l.source l.key 0 l.count

  -- of the numbers and keys only those of the producers named matter
  pub one_same : (source key : ℕ → ℕ) → ((k : ℕ) → k < l.count → source k ≡ l.source k) → ((k : ℕ) → k < l.count → key k ≡ l.key k)
      → with_one r consumer record { code = l.code; status = l.status; count = l.count; source = source; key = key } ≡ with_one r consumer l
  one_same source key s t =
      rw (
        fills_same (5 * consumer) source l.source 0 l.count r.sources (λ k h. s k (omega arith)),
        fills_same (5 * consumer) key l.key 0 l.count r.keys (λ k h. t k (omega arith)),
      )

-- ---- what a registration's own numbers make of its front

module _ (r : Registration) where
  pub next_point : (point consumer place : ℕ)
      → with_point (up_to r point consumer place) point (code_at r point) (status_at r point) ≡ up_to r (suc point) consumer place
  unfolding with_point
  next_point point consumer place = rw (front_next 64 point r.codes, front_next 64 point r.statuses)

  pub next_consumer : (consumer : ℕ)
      → with_one (up_to_consumer r consumer) consumer (said r consumer) ≡ up_to r (suc (r.producers + consumer)) (suc consumer) (5 * consumer + count_at r consumer)
  next_consumer consumer =
      let point = r.producers + consumer in
      let place = 5 * consumer in
      rw (
        front_next 64 point r.codes,
        front_next 64 point r.statuses,
        front_next 64 consumer r.counts,
        fills_front 320 place 0 (count_at r consumer) place r.sources (omega arith),
        fills_front 320 place 0 (count_at r consumer) place r.keys (omega arith),
      )

-- ---- what a line put into a registration with only zeros from there on

module _ (s : Registration) (point consumer place code status : ℕ) (clean : up_to s point consumer place ≡ s) where
  pub clean_point : up_to (with_point s point code status) (suc point) consumer place ≡ with_point s point code status
  unfolding with_point
  clean_point =
      let a = clean_set 64 point s.codes (λ i. (clean i).codes) (suc point) code (omega arith) in
      let b = clean_set 64 point s.statuses (λ i. (clean i).statuses) (suc point) status (omega arith) in
      λ i.
      record {
        producers = s.producers;
        consumers = s.consumers;
        iteration = s.iteration;
        codes = a i;
        statuses = b i;
        counts = (clean i).counts;
        sources = (clean i).sources;
        keys = (clean i).keys;
      }

  -- if that is the front of a registration r, r has the line's numbers
  pub back_point : (r : Registration) → point < 64 → with_point s point code status ≡ up_to r (suc point) consumer place
      → (s ≡ up_to r point consumer place) × (code_at r point ≡ code) × (status_at r point ≡ status)
  unfolding with_point
  back_point r h e =
      let a = back_set 64 point s.codes (λ i. (clean i).codes) (suc point) code r.codes (omega arith) h (λ i. (e i).codes) in
      let b = back_set 64 point s.statuses (λ i. (clean i).statuses) (suc point) status r.statuses (omega arith) h (λ i. (e i).statuses) in
      let start : s ≡ up_to r point consumer place = λ i.
      record {
        producers = (e i).producers;
        consumers = (e i).consumers;
        iteration = (e i).iteration;
        codes = a.0 i;
        statuses = b.0 i;
        counts = (e i).counts;
        sources = (e i).sources;
        keys = (e i).keys;
      } in
      (start, a.1, b.1)

-- a registration has a line's numbers of a consumer, and zeros at its other places
pub record Put (r : Registration) (consumer : ℕ) (l : Said) : Type 0 where
  pub code : code_at r (r.producers + consumer) ≡ l.code
  pub status : status_at r (r.producers + consumer) ≡ l.status
  pub count : count_at r consumer ≡ l.count
  pub sources : (k : ℕ) → k < l.count → source_at r consumer k ≡ l.source k
  pub keys : (k : ℕ) → k < l.count → key_at r consumer k ≡ l.key k
  pub no_source : (k : ℕ) → l.count ≤ k → k < 5 → source_at r consumer k ≡ 0
  pub no_key : (k : ℕ) → l.count ≤ k → k < 5 → key_at r consumer k ≡ 0

module _ (s : Registration) (consumer : ℕ) (l : Said) (few : l.count ≤ 5) (clean : up_to_consumer s consumer ≡ s) where
  abbrev point : ℕ
  point = s.producers + consumer

  abbrev place : ℕ
  place = 5 * consumer

  abbrev next : ℕ
  next = suc consumer

  pub clean_one : up_to_consumer (with_one s consumer l) next ≡ with_one s consumer l
  clean_one =
      let a = clean_set 64 point s.codes (λ i. (clean i).codes) (s.producers + next) l.code (omega arith) in
      let b = clean_set 64 point s.statuses (λ i. (clean i).statuses) (s.producers + next) l.status (omega arith) in
      let c = clean_set 64 consumer s.counts (λ i. (clean i).counts) next l.count (omega arith) in
      let d = clean_fills 320 place l.source l.count s.sources (λ i. (clean i).sources) (5 * next) (omega arith) in
      let e = clean_fills 320 place l.key l.count s.keys (λ i. (clean i).keys) (5 * next) (omega arith) in
      λ i.
      record {
        producers = s.producers;
        consumers = s.consumers;
        iteration = s.iteration;
        codes = a i;
        statuses = b i;
        counts = c i;
        sources = d i;
        keys = e i;
      }

  -- if that is the front of a registration r, r has the line's numbers
  pub back_one : (r : Registration) → r.producers + next ≤ 64 → with_one s consumer l ≡ up_to_consumer r next
      → (s ≡ up_to_consumer r consumer) × Put r consumer l
  back_one r within e =
      let p : s.producers ≡ r.producers = λ i. (e i).producers in
      let a = rw p at (back_set 64 point s.codes (λ i. (clean i).codes) (r.producers + next) l.code r.codes (omega arith) (omega arith) (λ i. (e i).codes)) in
      let b =
      rw p at
      (back_set 64 point s.statuses (λ i. (clean i).statuses) (r.producers + next) l.status r.statuses (omega arith) (omega arith) (λ i. (e i).statuses)) in
      let c = back_set 64 consumer s.counts (λ i. (clean i).counts) next l.count r.counts (omega arith) (omega arith) (λ i. (e i).counts) in
      let d = back_fills 320 place l.source l.count s.sources (λ i. (clean i).sources) (5 * next) r.sources (omega arith) (omega arith) (λ i. (e i).sources) in
      let f = back_fills 320 place l.key l.count s.keys (λ i. (clean i).keys) (5 * next) r.keys (omega arith) (omega arith) (λ i. (e i).keys) in
      let start : s ≡ up_to_consumer r consumer = λ i.
      record {
        producers = (e i).producers;
        consumers = (e i).consumers;
        iteration = (e i).iteration;
        codes = a.0 i;
        statuses = b.0 i;
        counts = c.0 i;
        sources = d.0 i;
        keys = f.0 i;
      } in (
        start,
        record {
          code = a.1;
          status = b.1;
          count = c.1;
          sources = d.1;
          keys = f.1;
          no_source = λ k h m. d.2 k h (omega arith);
          no_key = λ k h m. f.2 k h (omega arith);
        },
      )
