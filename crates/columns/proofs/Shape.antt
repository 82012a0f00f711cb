-- How a column looks: spaces, the sign, and the digits of the number with no leading 0. Assumes nothing.
use Prim.Native.Nat.{ℕ, zero, suc, ◌+◌, ◌-◌, ◌*◌, ◌/◌, ◌%◌, ◌^◌, ◌≤◌, ◌<◌}
use mathlib.Core.Path.{◌≡◌, refl, sym, ap, ◌∙◌}
use mathlib.Core.Bool.{Bool, true, false}
use mathlib.Core.List.{List, [], ◌∷◌, ◌++◌, append_assoc, append-nil}
use native.Mathlib.Omega.{arith}
use lib.Dec.{eqb-suc-zero}
use lib.ListN.{length, get_or, replicate, length-append}
use Rattle.columns.specs.Column.{lead_of, column_of}
use Rattle.columns.specs.Laws.{ColumnLooks, decimal_from}
use Rattle.columns.proofs.Clauses.{column_of_suc}
use Rattle.columns.proofs.Fill.{length_column}
use Rattle.columns.proofs.Values.{tenth}

-- ---- one more digit

decimal_snoc : (v : ℕ) (bytes : List ℕ) (byte : ℕ) → decimal_from v (bytes ++ (byte ∷ [])) ≡ decimal_from v bytes * 10 + (byte - 48)
unfolding decimal_from
decimal_snoc v [] byte = refl
decimal_snoc v (x ∷ bytes) byte = decimal_snoc (v * 10 + (x - 48)) bytes byte

-- each byte is a decimal digit
abbrev Digits : List ℕ → Type 0
Digits bytes = (i : ℕ) → i < length bytes → (48 ≤ get_or bytes i 0) × (get_or bytes i 0 ≤ 57)

digits_snoc : (bytes : List ℕ) (n : ℕ) → Digits bytes → Digits (bytes ++ ((48 + n % 10) ∷ []))
digits_snoc [] n d zero h = (omega arith, omega arith)
digits_snoc [] n d (suc i) h = absurd (omega arith)
digits_snoc (x ∷ bytes) n d zero h = d 0 (omega arith)
digits_snoc (x ∷ bytes) n d (suc i) h = digits_snoc bytes n (λ j k. d (suc j) (omega arith)) i (omega arith)

-- the first of the digits is 0 only if n is
leading_snoc : (bytes : List ℕ) (n : ℕ)
    → (get_or bytes 0 0 ≡ 48 → ⊥) → decimal_from 0 bytes ≡ n / 10 → get_or (bytes ++ ((48 + n % 10) ∷ [])) 0 0 ≡ 48 → n ≡ 0
unfolding decimal_from
leading_snoc [] n f v e = omega arith
leading_snoc (x ∷ bytes) n f v e = absurd (f e)

-- ---- the bytes before the last digit

-- spaces, at least one, the sign, and n's digits, none where n is 0
record Lead (sign : List ℕ) (n : ℕ) (bytes : List ℕ) : Type 0 where
  spaces : ℕ
  decimals : List ℕ
  whole : bytes ≡ replicate spaces 32 ++ (sign ++ decimals)
  space : 1 ≤ spaces
  each : Digits decimals
  leading : get_or decimals 0 0 ≡ 48 → ⊥
  none : n ≡ 0 → decimals ≡ []
  value : decimal_from 0 decimals ≡ n

digit_lead : (minus : Bool) (p n : ℕ) → lead_of minus (suc p) (suc n) ≡ lead_of minus p (suc n / 10) ++ ((48 + suc n % 10) ∷ [])
unfolding lead_of
digit_lead true p n = rw eqb-suc-zero
digit_lead false p n = rw eqb-suc-zero

-- one more digit of a number that is not 0
digit_more : (minus : Bool) (sign : List ℕ) (p n : ℕ) → Lead sign (suc n / 10) (lead_of minus p (suc n / 10)) → Lead sign (suc n) (lead_of minus (suc p) (suc n))
digit_more minus sign p n i =
    record {
      spaces = i.spaces;
      decimals = i.decimals ++ ((48 + suc n % 10) ∷ []);
      whole = digit_lead minus p n ∙ rw i.whole (simp append_assoc);
      space = i.space;
      each = digits_snoc i.decimals (suc n) i.each;
      leading = λ e. omega (arith, leading_snoc i.decimals (suc n) i.leading i.value e);
      none = λ e. absurd (omega arith);
      value = decimal_snoc 0 i.decimals (48 + suc n % 10) ∙ rw i.value (omega arith);
    }

-- one more space after spaces
space_snoc : (w : ℕ) → replicate {A = ℕ} w 32 ++ (32 ∷ []) ≡ replicate (suc w) 32
space_snoc zero = refl
space_snoc (suc w) = ap (λ (l : List ℕ). 32 ∷ l) (space_snoc w)

spaces_lead : (w : ℕ) → lead_of false w 0 ≡ replicate w 32
unfolding lead_of
spaces_lead zero = refl
spaces_lead (suc w) = ap (λ (l : List ℕ). l ++ (32 ∷ [])) (spaces_lead w) ∙ space_snoc w

minus_lead : (w : ℕ) → lead_of true (suc w) 0 ≡ replicate w 32 ++ (45 ∷ [])
unfolding lead_of
minus_lead w = ap (λ (l : List ℕ). l ++ (45 ∷ [])) (spaces_lead w)

module _ (minus : Bool) (sign : List ℕ) (zeros : (p w : ℕ) → p ≡ length sign + w → lead_of minus p 0 ≡ replicate w 32 ++ sign) where
  no_digits : (p w : ℕ) → p ≡ length sign + suc w → Lead sign 0 (lead_of minus p 0)
  unfolding decimal_from
  no_digits p w l =
      record {
        spaces = suc w;
        decimals = [];
        whole = zeros p (suc w) l ∙ simp append-nil;
        space = omega arith;
        each = λ i h. absurd (omega arith);
        leading = λ e. absurd (omega arith);
        none = λ e. refl;
        value = refl;
      }

  lead_looks : (p w n : ℕ) → p ≡ length sign + suc w → n < 10 ^ w → Lead sign n (lead_of minus p n)
  lead_looks zero w n l h = absurd (omega arith)
  lead_looks (suc p) zero n l h = let e : n ≡ 0 = omega arith in rw e (no_digits (suc p) 0 l)
  lead_looks (suc p) (suc w) zero l h = no_digits (suc p) (suc w) l
  lead_looks (suc p) (suc w) (suc n) l h = digit_more minus sign p n (lead_looks p w (suc n / 10) (omega arith) (tenth w (suc n) h))

  -- the whole column, with the last digit, which is written of 0 too
  column_looks : (p w n : ℕ) → p ≡ length sign + suc w → n < 10 ^ suc w → ColumnLooks sign (suc p) n (column_of minus (suc p) n)
  column_looks p w n l h =
      let i = lead_looks p w (n / 10) l (tenth w n h) in
      record {
        spaces = i.spaces;
        decimals = i.decimals ++ ((48 + n % 10) ∷ []);
        whole = column_of_suc minus p n ∙ rw i.whole (simp append_assoc);
        width = length_column minus (suc p) n;
        space = i.space;
        digit = rw length-append (omega arith);
        each = digits_snoc i.decimals n i.each;
        leading = leading_snoc i.decimals n i.leading i.value;
        none = λ e. rw (i.none (omega arith), e);
        value = decimal_snoc 0 i.decimals (48 + n % 10) ∙ rw i.value (omega arith);
      }

pub positive_looks : (w n : ℕ) → n < 10 ^ suc w → ColumnLooks [] (suc (suc w)) n (column_of false (suc (suc w)) n)
positive_looks w n h = column_looks false [] zeros (suc w) w n (omega arith) h
  where
    zeros : (p k : ℕ) → p ≡ length {A = ℕ} [] + k → lead_of false p 0 ≡ replicate k 32 ++ []
    zeros p k l = let e : p ≡ k = omega arith in rw e (spaces_lead k ∙ sym (append-nil _))

pub negative_looks : (w n : ℕ) → n < 10 ^ suc w → ColumnLooks (45 ∷ []) (suc (suc (suc w))) n (column_of true (suc (suc (suc w))) n)
negative_looks w n h = column_looks true (45 ∷ []) zeros (suc (suc w)) w n (omega arith) h
  where
    zeros : (p k : ℕ) → p ≡ length {A = ℕ} (45 ∷ []) + k → lead_of true p 0 ≡ replicate k 32 ++ (45 ∷ [])
    zeros p k l = let e : p ≡ suc k = omega arith in rw e (minus_lead k)
