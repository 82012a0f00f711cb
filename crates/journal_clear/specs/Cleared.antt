-- What a clear leaves of a journal. Assumes nothing.
use Rattle.std.specs.Prelude.{ℕ, ◌-◌, ◌≡◌, List, length}
use Rattle.journal.specs.Entries.{keep}
use Rattle.journal.specs.Stored.{entries, written}

-- a journal of `count` entries before and after a clear with K = day and P = stamp, and the number of entries kept: they stand at the front, then zeros
pub record JournalCleared (day stamp count : ℕ) (before after : List ℕ) (r : ℕ) : Type 0 where
  pub number : r ≡ length (keep day stamp (entries count before))
  pub journal : after ≡ written (keep day stamp (entries count before)) (count - length (keep day stamp (entries count before))) before
