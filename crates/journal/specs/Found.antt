-- What the code's search for a reading found. Assumes nothing.
use Rattle.std.specs.Prelude.{Option, None, Some}
use Rattle.journal.specs.declared.Entry.{Entry}
use Rattle.journal.specs.Order.{Reading}
use Rattle.journal.specs.Entries.{reading_of}

-- the reading of the entry found
abbrev pub found : Option Entry → Option Reading
found None = None
found (Some e) = Some (reading_of e)
