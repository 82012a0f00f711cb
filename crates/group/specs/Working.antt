-- What the code finds out on the way to the answer of a call. Assumes nothing.
use Rattle.std.specs.Prelude.{ℕ, cond, Option}
use Rattle.std.specs.Prelude.{Ok}
use Rattle.std.specs.Bool.{then_some}
use Rattle.answers.specs.Numbers.{Verdict}
use Rattle.answers.specs.declared.Refusal.TheVariants.{Damaged}
use Rattle.answers.specs.Order.{refuse◌if◌else◌}
use Rattle.values.specs.declared.Measurement.{Measurement}
use Rattle.journal.specs.Value.{value_in}
use Rattle.journal.specs.Order.{Reading}
use Rattle.journal.specs.Readings.{shown, stamp_of, same_as}
use Rattle.group.specs.declared.Looked.{Looked}
use Rattle.group.specs.declared.Looked.TheVariants.{Repeat, New}
use Rattle.group.specs.Group.{Group, entry_of, readings_for}
use Rattle.group.specs.Refusals.{damaged, repeats}
use Rattle.group.specs.Stamps.{next_stamp}

-- each call refuses a damaged group first
unfoldable pub damage_verdict : (last : ℕ) → Group → Verdict
damage_verdict last G = refuse Damaged if damaged last G else Ok tt

-- what an accepted submission comes to: where it repeats the reading shown the entry of that, otherwise the entry that it needs, with a new stamp
abbrev pub looked_of : (last : ℕ) → Group → (clock : ℕ) → Measurement → Looked
looked_of last G clock m =
    cond (repeats last G m) (Repeat (entry_of G (stamp_of (shown last (readings_for G m))) m)) (New (entry_of G (next_stamp clock last) m))

-- the stamp of a reading shown, if it has this value
abbrev pub repeated : Option Reading → ℕ → Option ℕ
repeated old stored = then_some (same_as old (value_in stored)) (stamp_of old)
