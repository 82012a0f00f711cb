-- A record each of whose numbers is 0. Assumes nothing.
use mathlib.Core.Path.{◌≡◌}
use Rattle.registration.specs.Damage.{empty}
use Rattle.service.specs.declared.Service.{Service}
use Rattle.service.specs.Record.{zero_service}

pub zeros_kept : (s : Service) → s.registration ≡ empty → s.state.last ≡ 0 → s.state.numbers.kept_stamp ≡ 0 → s.state.numbers.kept_day ≡ 0
    → s.state.numbers.entries ≡ 0 → s ≡ zero_service
zeros_kept s registration last kept_stamp kept_day entries =
    λ i. record {
      registration = registration i;
      state = record { last = last i; numbers = record { kept_stamp = kept_stamp i; kept_day = kept_day i; entries = entries i } };
    }
