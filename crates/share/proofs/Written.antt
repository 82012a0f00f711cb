-- How far the program's loop has come: the bytes that it has computed, and what record, journal and the rest of the text are still to give. Assumes nothing.
use Rattle.std.proofs.Common.{ℕ, ◌≡◌, List, ◌++◌}
use Rattle.service.specs.declared.Service.{Service}
use Rattle.event_text.specs.Share.{lines_of, answers_to}

-- the bytes computed so far and the answers still to come make up all the answers
pub record Written (answers : List ℕ) (service : Service) (journal rest bytes : List ℕ) : Type 0 where
  pub whole : bytes ++ answers_to service journal (lines_of rest) ≡ answers
