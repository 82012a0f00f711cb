-- `registration::Registration::empty` meets its contract: each number of each array is 0. Assumes nothing.
use Rattle.std.proofs.Common.{rules}
use Rattle.registration.proofs.Zeros.{all_zeros, empty_is}
use Rattle.registration.proofs.Registration.empty.Goals as goal

pub returns : goal.returns
returns c = search (rules, all_zeros, empty_is)
