-- `lookup::Lookup::first_near` meets its contract: the day is one of the calendar. Assumes nothing.
use Rattle.std.proofs.Common.{arith}
use Rattle.lookup.proofs.Opened.{asked_within}
use Rattle.lookup.proofs.Lookup.first_near.Goals as goal

pub place-requires : goal.place-requires
place-requires c = omega (arith, asked_within c.args.self.now)
