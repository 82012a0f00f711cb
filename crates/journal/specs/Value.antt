-- What was read for a quarter hour, and how a journal stores it: as its magnitude. Assumes nothing.
use Rattle.std.specs.Prelude.{ℕ, Bool, nat_abs, leb, eqb}
use Rattle.values.specs.Values.{magnitude_most}
use Rattle.values.specs.declared.Measurement.{Measurement}

-- energy in hundredths of a kWh, withdrawn or supplied
pub record Value : Type 0 where
  pub magnitude : ℕ

-- the value of a measurement: withdrawals arrive as negative numbers, supplies as positive
abbrev pub value_of : Measurement → Value
value_of m = record { magnitude = nat_abs m.value }

-- two values are the same where their magnitudes are
abbrev pub same_value : Value → Value → Bool
same_value v w = eqb v.magnitude w.magnitude

-- the number that stands in an entry for a value
abbrev pub stored_of : Value → ℕ
stored_of value = value.magnitude

-- the value that an entry's number stands for
abbrev pub value_in : ℕ → Value
value_in stored = record { magnitude = stored }

-- a magnitude lies between 0 and 99999999
abbrev pub stored_right : ℕ → Bool
stored_right stored = leb stored magnitude_most
