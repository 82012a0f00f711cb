-- An undamaged registration: each line of its text has right numbers, and it has nothing behind what its lines say. Assumes nothing.
use Prim.Native.Nat.{ℕ, ◌+◌, ◌*◌, ◌≤◌, ◌<◌}
use mathlib.Core.Path.{◌≡◌}
use mathlib.Core.Bool.{true, false, ◌&&◌, ◌||◌}
use mathlib.Core.List.{List}
use native.Mathlib.Omega.{arith}
use borrow.Author.Tests.{lt-ltb, le-ltb, leb-true, le-leb, eq-eqb}
use lib.Dec.{leb, ltb, eqb}
use lib.ListN.{get_or}
use Rattle.lists.proofs.Below.{both}
use Rattle.registration.specs.declared.Registration.{Registration}
use Rattle.registration.specs.Code.{is_code}
use Rattle.registration.specs.Rules.{points, code_at, status_at, count_at, source_at, key_at, count_right, codes_differ, consumer_right, keys_right}
use Rattle.registration.specs.Damage.{zeros_from, pairs_unused, is_damaged, Sized}
use Rattle.lists.proofs.Below.{every_at, every_all}
use Rattle.registration.proofs.Unused.{Unused, zeros_at, places, zero_after, no_pairs, no_count}
use Rattle.registration.proofs.Damage.{Undamaged, undamaged_parts, parts_undamaged, point_bounds}
use Rattle.registration_text.proofs.Fronts.{by_order, front_self, clean_zero}
use Rattle.registration_text.proofs.States.{up_to_consumer, said}
use Rattle.registration_text.proofs.Steps.{GroupGood, PointGood, ConsumerGood}

-- what the lines of its text say is right, and there is nothing else in it
pub record Right (r : Registration) : Type 0 where
  pub group : GroupGood r.producers r.consumers r.iteration
  pub point : (i : ℕ) → i < points r → PointGood (code_at r i) (status_at r i)
  pub consumer : (c : ℕ) → c < r.consumers → ConsumerGood r.producers (said r c)
  pub unused : (c : ℕ) → c < r.consumers → Unused r c
  pub whole : up_to_consumer r r.consumers ≡ r
  pub differ : codes_differ r ≡ true
  pub keys : keys_right r ≡ true

module _ (size n : ℕ) (xs : List ℕ) where
  zeros_all : ((i : ℕ) → n ≤ i → get_or xs i 0 ≡ 0) → zeros_from size n xs ≡ true
  zeros_all zeros =
      every_all (λ place. ltb place n || eqb (get_or xs place 0) 0) size
      (λ i h. by_order i n (λ l. rw (lt-ltb i n l)) (λ l. rw (le-ltb i n l, eq-eqb (get_or xs i 0) 0 (zeros i l))))

module _ (r : Registration) (c : ℕ) where
  unused_all : Unused r c → pairs_unused r c ≡ true
  unused_all zeros =
      every_all (λ priority. ltb priority (count_at r c) || (eqb (source_at r c priority) 0 && eqb (key_at r c priority) 0)) 5
      (λ k h.
      let n = count_at r c in
      by_order k n (λ l. rw (lt-ltb k n l))
      (λ l. let z = zeros k l h in rw (le-ltb k n l, eq-eqb (source_at r c k) 0 z.0, eq-eqb (key_at r c k) 0 z.1)))

module _ (r : Registration) (sized : Sized r) (undamaged : is_damaged r ≡ false) where
  abbrev parts : Undamaged r
  parts = undamaged_parts r undamaged

  right_point : (i : ℕ) → i < points r → PointGood (code_at r i) (status_at r i)
  right_point i h =
      record {
        coded = every_at (λ p. is_code (code_at r p)) (points r) i parts.codes h;
        stated = leb-true (status_at r i) 3 (every_at (λ p. leb (status_at r p) 3) (points r) i parts.statuses h);
      }

  right_consumer : (c : ℕ) → c < r.consumers → ConsumerGood r.producers (said r c)
  right_consumer c h =
      let t = both (count_right (count_at r c)) _ (every_at (consumer_right r) r.consumers c parts.consumers h) in
      record { point = right_point (r.producers + c) (omega arith); counted = t.0; paired = t.1 }

  all_read : up_to_consumer r r.consumers ≡ r
  all_read =
      let n = r.consumers in
      let a = front_self 64 (points r) r.codes sized.codes (zeros_at 64 (points r) r.codes (zero_after r parts.unused).0) in
      let b = front_self 64 (points r) r.statuses sized.statuses (zeros_at 64 (points r) r.statuses (zero_after r parts.unused).1) in
      let c = front_self 64 n r.counts sized.counts (no_count r parts.unused) in
      let d = front_self 320 (5 * n) r.sources sized.sources (places r.sources n (λ c h l k m. (no_pairs r parts.unused c l k (omega (arith, no_count r parts.unused c h l)) m).0)) in
      let e = front_self 320 (5 * n) r.keys sized.keys (places r.keys n (λ c h l k m. (no_pairs r parts.unused c l k (omega (arith, no_count r parts.unused c h l)) m).1)) in
      λ i.
      record {
        producers = r.producers;
        consumers = r.consumers;
        iteration = r.iteration;
        codes = a i;
        statuses = b i;
        counts = c i;
        sources = d i;
        keys = e i;
      }

  pub undamaged_right : Right r
  undamaged_right =
      let few = point_bounds r.producers r.consumers parts.point_counts in
      record {
        group = record { counted = parts.point_counts; iterated = parts.iteration };
        point = right_point;
        consumer = right_consumer;
        unused = λ c h. no_pairs r parts.unused c (omega arith);
        whole = all_read;
        differ = parts.differ;
        keys = parts.keys;
      }

module _ (r : Registration) (right : Right r) where
  none_after : (c : ℕ) → Unused r c
  none_after c k h l =
      let n = r.consumers in
      by_order c n (λ m. right.unused c m k h l)
      (λ m. (
        clean_zero 320 (5 * n) r.sources (λ i. (right.whole i).sources) (5 * c + k) (omega arith),
        clean_zero 320 (5 * n) r.keys (λ i. (right.whole i).keys) (5 * c + k) (omega arith),
      ))

  pub right_undamaged : is_damaged r ≡ false
  right_undamaged =
      let n = r.consumers in
      let a = zeros_all 64 (points r) r.codes (clean_zero 64 (points r) r.codes (λ i. (right.whole i).codes)) in
      let b = zeros_all 64 (points r) r.statuses (clean_zero 64 (points r) r.statuses (λ i. (right.whole i).statuses)) in
      let c = zeros_all 64 n r.counts (clean_zero 64 n r.counts (λ i. (right.whole i).counts)) in
      let d = every_all (pairs_unused r) 64 (λ c h. unused_all r c (none_after c)) in
      parts_undamaged r
      record {
        point_counts = right.group.counted;
        iteration = right.group.iterated;
        codes = every_all (λ p. is_code (code_at r p)) (points r) (λ i h. (right.point i h).coded);
        statuses = every_all (λ p. leb (status_at r p) 3) (points r) (λ i h. le-leb (status_at r i) 3 (right.point i h).stated);
        differ = right.differ;
        consumers = every_all (consumer_right r) n (λ c h. let t = right.consumer c h in rw (t.counted, t.paired));
        keys = right.keys;
        unused = rw (a, b, c, d);
      }
