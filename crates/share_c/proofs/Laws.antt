-- The laws on what a refused call gives beside its number. Assumes nothing.
use mathlib.Core.Path.{◌≡◌, refl}
use Rattle.registration.specs.Damage.{empty}
use Rattle.share_c.specs.Laws.{RefusedTextGivesZeros, RefusedWriteGivesZero, RefusedFreshGivesZeros}

pub refused_text_gives_zeros : RefusedTextGivesZeros
unfolding empty
refused_text_gives_zeros text refusal e = rw e

pub refused_write_gives_zero : RefusedWriteGivesZero
refused_write_gives_zero r before refusal e = rw e

pub refused_fresh_gives_zeros : RefusedFreshGivesZeros
unfolding empty
refused_fresh_gives_zeros r refusal e = rw e
