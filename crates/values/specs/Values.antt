-- Values as they arrive: signed numbers, of which withdrawals are below 0. Assumes nothing.
use Rattle.std.specs.Prelude.{ℕ, Bool, true, false, ℤ, pos, negsuc}

-- whether a value is below 0
abbrev pub is_negative : ℤ → Bool
is_negative (pos n) = false
is_negative (negsuc n) = true

-- the greatest magnitude
abbrev pub magnitude_most : ℕ
magnitude_most = 99999999
