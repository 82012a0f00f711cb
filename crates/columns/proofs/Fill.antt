-- How long a column is, and filling it from its right end. Assumes nothing.
use Prim.Native.Nat.{ℕ, zero, suc, ◌+◌, ◌-◌, ◌/◌, ◌%◌, ◌≤◌, ◌<◌}
use mathlib.Core.Path.{◌≡◌, refl}
use mathlib.Core.Bool.{Bool, not, ◌&&◌}
use mathlib.Core.List.{List, [], ◌∷◌, ◌++◌, append_assoc}
use native.Mathlib.Omega.{arith}
use native.Mathlib.Numerals.{add-one, sub-one}
use lib.Dec.{eqb}
use lib.ListN.{length, drop, set, length-append}
use Rattle.std.proofs.lemmas.List.{drop-set}
use Rattle.columns.specs.Column.{byte_before, lead_of, column_of}

pub length_lead : (minus : Bool) (w n : ℕ) → length (lead_of minus w n) ≡ w
unfolding lead_of
length_lead minus zero n = refl
length_lead minus (suc w) n = rw (length-append, length_lead (minus && not (eqb n 0)) w (n / 10)) (omega arith)

pub length_column : (minus : Bool) (w n : ℕ) → length (column_of minus w n) ≡ w
unfolding column_of
length_column minus zero n = refl
length_column minus (suc w) n = rw (length-append, length_lead minus w (n / 10)) (omega arith)

-- the bytes before the last one, filled from their right end: what is to be written before i, and what stands from i on
module _ (out : List ℕ) (minus : Bool) where
  pub fill_step : (i n : ℕ) → 0 < i → i ≤ length out
      → lead_of minus i n ++ drop i out ≡ lead_of (minus && not (eqb n 0)) (i - 1) (n / 10) ++ drop (i - 1) (set out (i - 1) (byte_before minus n))
  unfolding lead_of
  fill_step zero n h l = absurd (omega arith)
  fill_step (suc k) n h l = simp (sub-one, drop-set out k (byte_before minus n) l, add-one, append_assoc)

  -- and the last one after them
  pub fill_end : (due : Bool) (w n i m : ℕ) → length out + 1 ≡ w → i ≡ 0 → lead_of minus (length out) (n / 10) ≡ lead_of due i m ++ drop i out
      → out ++ ((48 + n % 10) ∷ []) ≡ column_of minus w n
  unfolding lead_of column_of
  fill_end due w n i m e z h = let s : w ≡ suc (length out) = omega arith in rw (s, h, z)

pub fill_empty : (out : List ℕ) (minus : Bool) (n : ℕ) → length out ≡ 0 → out ≡ column_of minus (length out) n
unfolding column_of
fill_empty [] minus n e = refl
fill_empty (x ∷ out) minus n e = absurd (omega arith)
