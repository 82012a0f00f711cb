-- The reading shown as of a stamp T, among the readings of one quarter hour of one point. Of the order it knows `weaker` alone. Assumes nothing.
use Rattle.std.specs.Prelude.{ℕ, Bool, false, cond, List, [], ◌∷◌, leb, eqb, Option, None, Some}
use Rattle.lists.specs.Those.{those}
use Rattle.journal.specs.Value.{Value, same_value}
use Rattle.journal.specs.Order.{Reading, weaker}

-- of two readings the one that does not give way
abbrev pub prefer : Reading → Reading → Reading
prefer r s = cond (weaker r s) s r

-- the same of two readings that need not exist
abbrev pub join : Option Reading → Option Reading → Option Reading
join None o = o
join (Some r) None = Some r
join (Some r) (Some s) = Some (prefer r s)

-- the reading that gives way to no other
abbrev pub strongest : List Reading → Option Reading
strongest [] = None
strongest (r ∷ rs) = join (Some r) (strongest rs)

-- whether a reading has a stamp of at most T
abbrev pub in_time : ℕ → Reading → Bool
in_time T r = leb r.stamp T

-- the readings with a stamp of at most T
abbrev pub as_of : ℕ → List Reading → List Reading
as_of T rs = those (in_time T) rs

-- the reading shown as of T: the newest with a stamp of at most T (proofs/Laws.antt shows that it is)
unfoldable pub shown : ℕ → List Reading → Option Reading
shown T rs = strongest (as_of T rs)

-- whether a reading exists and has this value
abbrev pub same_as : Option Reading → Value → Bool
same_as None value = false
same_as (Some r) value = same_value r.value value

-- whether a reading exists and has this stamp
abbrev pub has_stamp : Option Reading → ℕ → Bool
has_stamp None stamp = false
has_stamp (Some r) stamp = eqb r.stamp stamp

-- the stamp of a reading, 0 where there is none
abbrev pub stamp_of : Option Reading → ℕ
stamp_of None = 0
stamp_of (Some r) = r.stamp

-- the value of a reading, if there is one
abbrev pub value_shown : Option Reading → Option Value
value_shown None = None
value_shown (Some r) = Some r.value
