-- The order of readings: its two laws, from which all else about what is shown follows (ShownLaws.antt). Assumes nothing.
use native.Mathlib.Omega.{arith}
use mathlib.Core.Path.{◌≡◌}
use mathlib.Core.Bool.{true, false}
use borrow.Author.Tests.{leb-true, leb-false, le-leb}
use Rattle.journal.specs.Order.{Reading, weaker}

pub weaker_total : (r s : Reading) → weaker r s ≡ false → weaker s r ≡ true
unfolding weaker
weaker_total r s h = le-leb s.stamp r.stamp (omega (arith, leb-false r.stamp s.stamp h))

pub weaker_trans : (r s t : Reading) → weaker r s ≡ true → weaker s t ≡ true → weaker r t ≡ true
unfolding weaker
weaker_trans r s t a b = le-leb r.stamp t.stamp (omega (arith, leb-true r.stamp s.stamp a, leb-true s.stamp t.stamp b))
