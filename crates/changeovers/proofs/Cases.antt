-- The first two lines and the last one, byte by byte. Assumes nothing.
use mathlib.Core.Path.{◌≡◌, refl}
use mathlib.Core.List.{[], ◌∷◌}
use Rattle.columns.specs.Column.{lead_of, column_of}
use Rattle.calendar.specs.Changeovers.{changeovers}
use Rattle.changeovers.specs.Text.{day_line, changeover_line}

lines : (changeover_line 0 ≡ 32 ∷ 32 ∷ 32 ∷ 32 ∷ 57 ∷ 48 ∷ 10 ∷ []) × (changeover_line 1 ≡ 32 ∷ 32 ∷ 32 ∷ 51 ∷ 48 ∷ 48 ∷ 10 ∷ []) × (changeover_line 151 ≡ 32 ∷ 50 ∷ 55 ∷ 54 ∷ 57 ∷ 49 ∷ 10 ∷ [])
unfolding day_line column_of lead_of changeovers
lines = (refl, refl, refl)
