-- A fresh service, refused and made, by computation: the whole answer is compared. Assumes nothing.
use Prim.Native.Nat.{ℕ}
use mathlib.Core.Path.{◌≡◌, refl}
use mathlib.Core.List.{◌∷◌}
use lib.ListN.{replicate}
use Rattle.lists.specs.Below.{every, sum_below, differ}
use Rattle.std.specs.Prelude.{Ok, Err}
use Rattle.answers.specs.declared.Refusal.TheVariants.{Damaged}
use Rattle.answers.specs.Order.{refuse◌if◌else◌}
use Rattle.registration.specs.declared.Registration.{Registration}
use Rattle.registration.specs.Code.{is_code, weighted}
use Rattle.registration.specs.Rules.{pairs_right}
use Rattle.registration.specs.Damage.{is_damaged}
use Rattle.service.specs.declared.Service.{Service}
use Rattle.service.specs.Promises.{fresh_of}

-- one producer of this status, which supplies one consumer by this key
pair : (status key : ℕ) → Registration
pair status key =
    record {
      producers = 1;
      consumers = 1;
      iteration = 1;
      codes = 859182400220162071 ∷ 859182400220162088 ∷ replicate 62 0;
      statuses = status ∷ 2 ∷ replicate 62 0;
      counts = 1 ∷ replicate 63 0;
      sources = 1 ∷ replicate 319 0;
      keys = key ∷ replicate 319 0;
    }

-- the record with this registration, and with zeros for the last stamp, the kept stamp, the kept day and the entry count
abbrev made : Registration → Service
made r = record { registration = r; state = record { last = 0; numbers = record { kept_stamp = 0; kept_day = 0; entries = 0 } } }

-- a status of 4 and a key of 10001 are damage, and nothing of the registration is given back; a status of 3 and a key of 10000 are not
fresh : (fresh_of (pair 4 10000) ≡ Err Damaged)
    × (fresh_of (pair 3 10001) ≡ Err Damaged)
    × (fresh_of (pair 3 10000) ≡ Ok (made (pair 3 10000)))
unfolding pair is_damaged every sum_below differ pairs_right is_code weighted refuse◌if◌else◌
fresh = (refl, refl, refl)
