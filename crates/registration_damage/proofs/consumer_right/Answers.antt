-- `registration_damage::consumer_right` meets its contract: the pairs copied from the consumer's places say the same as where they stand. Assumes nothing.
use Prim.Native.Nat.{ℕ, ◌≤◌, ◌<◌}
use mathlib.Core.Path.{◌≡◌, ap, ◌∙◌}
use native.Mathlib.Omega.{arith}
use borrow.Author.Tests.{le-leb}
use lib.ListN.{length, take, get_or}
use lib.Seq.{length-take-le}
use Rattle.std.proofs.Common.{rules}
use Rattle.std.proofs.lemmas.List.{get_or-take}
use Rattle.registration.specs.declared.Pair.{Pair}
use Rattle.registration.specs.Rules.{no_pair, pair_at, source_in, key_in, source_at, key_at}
use Rattle.registration.proofs.Places.{pairs_same}
use Rattle.registration_damage.proofs.consumer_right.Goals as goal

pub returns-then-contains : goal.returns-then-contains
returns-then-contains c =
    let r = c.args.registration.now in
    let count = c.from-count.result in
    let pairs = c.pairs-pairs.result in
    let five : length pairs ≡ 5 = search rules in
    let few : count ≤ 5 = search rules in
    let some : 1 ≤ count = search rules in
    let at : (k : ℕ) → k < count → get_or (take count pairs) k no_pair ≡ pair_at r c.args.consumer k =
    λ k h. get_or-take count pairs k no_pair h ∙ c.pairs-pairs.ensures k (omega arith) in
    c.pairs_right.ensures
    ∙ rw (
      length-take-le count pairs (omega arith),
      pairs_same r.producers count (source_in (take count pairs)) (source_at r c.args.consumer) (key_in (take count pairs))
          (key_at r c.args.consumer) (λ k h. ap (λ (pair : Pair). pair.source) (at k h)) (λ k h. ap (λ (pair : Pair). pair.key) (at k h)),
    )
    (rw (← c.from-count.ensures, le-leb 1 count some, le-leb count 5 few))
