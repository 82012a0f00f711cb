-- `service::Service::empty` meets its contract: each number of the record is 0. Assumes nothing.
use Rattle.std.proofs.Common.{rules}
use Rattle.registration.proofs.Zeros.{all_zeros, empty_is}
use Rattle.service.proofs.Zeros.{zeros_kept}
use Rattle.service.proofs.Service.empty.Goals as goal

pub returns : goal.returns
returns c = zeros_kept _ (search (rules, all_zeros, empty_is)) (search rules) (search rules) (search rules) (search rules)
