-- What the answer of a call that gives a value back says of its verdict. Assumes nothing.
use Rattle.std.proofs.Common.{◌≡◌, refl, Ok, Err}
use Rattle.answers.specs.declared.Refusal.{Refusal}
use Rattle.std.specs.Result.{result_and}
use Rattle.answers.specs.Numbers.{Verdict, answer_of}

-- a refusal is the verdict's
pub refused_told : {T : Type 0} (verdict : Verdict) (value : T) (refusal : Refusal) → Err refusal ≡ result_and verdict (Ok value) → verdict ≡ Err refusal
refused_told (Ok _) value refusal e = cc
refused_told (Err other) value refusal e = cc

-- a value is given where the verdict accepts
pub given_told : {T : Type 0} (verdict : Verdict) (value : T) (given : T) → Ok given ≡ result_and verdict (Ok value) → (verdict ≡ Ok tt) × (given ≡ value)
given_told (Ok _) value given e = (refl, cc)
given_told (Err other) value given e = cc

-- the answer number is the verdict's, whatever value is given
pub answer_same : {T : Type 0} (verdict : Verdict) (value : T) → answer_of (result_and verdict (Ok value)) ≡ answer_of verdict
answer_same (Ok _) value = refl
answer_same (Err refusal) value = refl
