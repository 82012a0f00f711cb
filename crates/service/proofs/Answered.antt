-- What a call's answer says in numbers: that of its refusal, and the number that it returns, which is 0 where it is refused. Assumes nothing.
use Rattle.std.proofs.Common.{◌≡◌, refl, sym, ℕ, true, List, Ok, Err}
use Rattle.std.specs.Result.{result_and, result_unwrap_or}
use Rattle.answers.specs.Numbers.{Verdict, answer_of}
use Rattle.answers.proofs.Values.{answer_same}
use Rattle.service.specs.declared.Service.{Service}
use Rattle.service.specs.Call.{Call, is_refused}
use Rattle.service.specs.Record.{call_on}
use Rattle.service.specs.Promises.{answered}
use Rattle.service.proofs.Laws.{refused_alters_nothing}

-- a number that is 0 where the verdict refuses is told by the answer
number_told : (verdict : Verdict) (number : ℕ) → (is_refused verdict ≡ true → number ≡ 0) → result_unwrap_or (result_and verdict (Ok number)) 0 ≡ number
number_told (Ok _) number h = refl
number_told (Err refusal) number h = sym (h refl)

-- of every call, on whatever record and journal
module _ (s : Service) (j : List ℕ) (call : Call) where
  pub number_answered : result_unwrap_or (answered (call_on s j call).seen) 0 ≡ (call_on s j call).seen.number
  number_answered = number_told (call_on s j call).seen.verdict (call_on s j call).seen.number (λ e. (refused_alters_nothing s j call e).number)

  pub verdict_answered : answer_of (answered (call_on s j call).seen) ≡ answer_of (call_on s j call).seen.verdict
  verdict_answered = answer_same (call_on s j call).seen.verdict (call_on s j call).seen.number
