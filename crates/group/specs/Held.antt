-- How a group stands in its registration, its numbers and a journal. Assumes nothing.
use Rattle.std.specs.Prelude.{ℕ, List, length}
use Rattle.registration.specs.declared.Registration.{Registration}
use Rattle.journal.specs.Stored.{entries}
use Rattle.group.specs.declared.Numbers.{Numbers}
use Rattle.group.specs.declared.Group.{Group as Held}
use Rattle.group.specs.Group.{Group}

-- the group that a registration, its numbers and a journal hold
abbrev pub group_in : Registration → Numbers → List ℕ → Group
group_in r numbers j =
    record {
      registration = r;
      keptstamp = numbers.kept_stamp;
      keptday = numbers.kept_day;
      entries = entries numbers.entries j;
      room = length j;
    }

-- the same of the code's struct
abbrev pub held : Held → Group
held group = group_in group.registration.now group.numbers group.journal.now

-- the numbers of a group
abbrev pub numbers_of : Group → Numbers
numbers_of G = record { kept_stamp = G.keptstamp; kept_day = G.keptday; entries = length G.entries }
