-- Stamps: the greatest one, and that of a new reading. The calls and the book of demand 3 both read this. Assumes nothing.
use Rattle.std.specs.Prelude.{ℕ, ◌+◌, max}

-- the greatest stamp and clock
abbrev pub stamp_most : ℕ
stamp_most = 999999999999

-- a new reading's stamp: the greater of the clock and the last stamp + 1
abbrev pub next_stamp : (clock last : ℕ) → ℕ
next_stamp clock last = max clock (last + 1)
