-- `event_text::refusal_line` meets its contract: the line fills its 19 bytes. Assumes nothing.
use Rattle.std.proofs.Common.{rules, ℕ, sym}
use lib.ListN.{length-replicate}
use Rattle.lists.proofs.Adding.{lent_put}
use Rattle.event_writer.specs.Answers.{bytes_of_answer}
use Rattle.event_text.proofs.Opening.{whole_line}
use Rattle.event_text.proofs.refusal_line.Goals as goal

pub returns : goal.returns
returns c = whole_line _ _ _ _ _ (sym (length-replicate {A = ℕ} bytes_of_answer 0)) (lent_put c.put_answer.ensures (search rules))
