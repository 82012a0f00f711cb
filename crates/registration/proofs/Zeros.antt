-- An array each of whose numbers is 0. Assumes nothing.
use Prim.Native.Nat.{ℕ}
use mathlib.Core.Path.{◌≡◌, sym, ◌∙◌}
use mathlib.Core.List.{List}
use native.Mathlib.Omega.{arith}
use lib.ListN.{length, replicate, get_or-replicate}
use lib.Seq.{ext_get_or}
use Rattle.std.specs.Array.{AllOfLen}
use Rattle.std.proofs.lemmas.List.{length-replicate}
use Rattle.registration.specs.declared.Registration.{Registration}
use Rattle.registration.specs.Damage.{empty}

pub all_zeros : (xs : List ℕ) (n : ℕ) → AllOfLen (λ x. x ≡ 0) xs n → xs ≡ replicate n 0
all_zeros xs n a =
    let as_long : length (replicate {A = ℕ} n 0) ≡ n = length-replicate n 0 in
    ext_get_or 0 xs (replicate n 0) (a.long ∙ sym as_long)
    (λ i h. let l = a.long in a.at i 0 (omega arith) ∙ sym (get_or-replicate {A = ℕ} n i 0 0 (omega arith)))

-- a registration each of whose numbers is 0
pub empty_is : (r : Registration) → r.producers ≡ 0 → r.consumers ≡ 0 → r.iteration ≡ 0 → r.codes ≡ replicate 64 0 → r.statuses ≡ replicate 64 0
    → r.counts ≡ replicate 64 0 → r.sources ≡ replicate 320 0 → r.keys ≡ replicate 320 0 → r ≡ empty
unfolding empty
empty_is r producers consumers iteration codes statuses counts sources keys =
    λ j. record {
      producers = producers j;
      consumers = consumers j;
      iteration = iteration j;
      codes = codes j;
      statuses = statuses j;
      counts = counts j;
      sources = sources j;
      keys = keys j;
    }
