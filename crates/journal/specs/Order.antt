-- Which of two readings gives way to the other. Assumes nothing.
use Rattle.std.specs.Prelude.{ℕ, Bool, leb}
use Rattle.journal.specs.Value.{Value}

-- a value that was accepted, and the stamp that it was given
pub record Reading : Type 0 where
  pub stamp : ℕ
  pub value : Value

-- the newest is shown: a reading gives way to one with a stamp at least as great
unfoldable pub weaker : Reading → Reading → Bool
weaker r s = leb r.stamp s.stamp
