-- What is strongest, without the fold: a reading among them, to which every other gives way. Of the order it uses its two laws alone. Assumes nothing.
use mathlib.Core.Path.{◌≡◌, refl}
use mathlib.Core.Bool.{true}
use mathlib.Core.Logic.{⊎_elim}
use mathlib.Core.List.Memᴰ
use mathlib.Core.List.{List, [], ◌∷◌, Memᴰ}
use Rattle.std.specs.Prelude.{Option, None, Some}
use Rattle.journal.specs.Order.{Reading, weaker}
use Rattle.journal.specs.Readings.{join, strongest}
use Rattle.lists.proofs.Cases.{by_test}
use Rattle.journal.proofs.Order.{weaker_total, weaker_trans}

-- m is strongest: among the readings, and none of them is stronger
pub record IsStrongest (rs : List Reading) (m : Reading) : Type 0 where
  pub among : Memᴰ m rs
  pub over : (r : Reading) → Memᴰ r rs → weaker r m ≡ true

-- nothing is strongest only where there is none
abbrev pub FindsStrongest : List Reading → Option Reading → Type 0
FindsStrongest rs None = rs ≡ []
FindsStrongest rs (Some m) = IsStrongest rs m

weaker_refl : (r : Reading) → weaker r r ≡ true
weaker_refl r = by_test (weaker r r) (λ t. t) (λ t. weaker_total r r t)

on_cons : (P : Reading → Type 0) (x : Reading) (rs : List Reading) → P x → ((r : Reading) → Memᴰ r rs → P r)
    → (r : Reading) → Memᴰ r (x ∷ rs) → P r
on_cons P x rs h k r m = ⊎_elim (λ (e : r ≡ x). rw e h) (k r) (Memᴰ.cases_cons m)

-- one reading more
one_more : (x : Reading) (rs : List Reading) (o : Option Reading) → FindsStrongest rs o → FindsStrongest (x ∷ rs) (join (Some x) o)
one_more x rs None h =
    record {
      among = Memᴰ.head refl;
      over = on_cons (λ r. weaker r x ≡ true) x rs (weaker_refl x) (λ r m. absurd (Memᴰ.not-nil (rw h at m)));
    }
one_more x rs (Some s) h =
    by_test (weaker x s)
    (λ t. rw t (record {
      among = Memᴰ.tail h.among;
      over = on_cons (λ r. weaker r s ≡ true) x rs t h.over;
    }))
    (λ t. rw t (record {
      among = Memᴰ.head refl;
      over = on_cons (λ r. weaker r x ≡ true) x rs (weaker_refl x) (λ r m. weaker_trans r s x (h.over r m) (weaker_total x s t));
    }))

pub finds_strongest : (rs : List Reading) → FindsStrongest rs (strongest rs)
finds_strongest [] = refl
finds_strongest (x ∷ rs) = one_more x rs (strongest rs) (finds_strongest rs)
