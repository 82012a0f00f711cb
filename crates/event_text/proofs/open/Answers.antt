-- `event_text::open` meets its contract, by `Opening.antt`. Assumes nothing.
use Rattle.std.proofs.Common.{refl, arith}
use Rattle.std.proofs.lemmas.Result.{err_from_is_err_and}
use Rattle.event_text.proofs.Opening.{too_long, registration_refused, service_made, registration_opened}
use Rattle.event_text.proofs.open.Goals as goal

pub returns-then-input-gt-INPUT_MOST : goal.returns-then-input-gt-INPUT_MOST
returns-then-input-gt-INPUT_MOST c = too_long _ c.if-input-gt-INPUT_MOST.true

pub returns-in_err-registration : goal.returns-in_err-registration
returns-in_err-registration c =
    let p = err_from_is_err_and c.from_residual.result c.from_residual.ensures.1 in
    rw (p.1, p.2)
    (registration_refused _ (omega (arith, c.if-input-gt-INPUT_MOST.false)) _ c.events-events.ensures _ c.read.ensures _ c.in_err-registration.was)

pub returns-in_err-service : goal.returns-in_err-service
returns-in_err-service c =
    service_made _ (omega (arith, c.if-input-gt-INPUT_MOST.false)) _ c.events-events.ensures _ c.read.ensures _ _ c.in_ok-registration.was c.in_err-service.ensures

pub returns : goal.returns
returns c =
    registration_opened _ (omega (arith, c.if-input-gt-INPUT_MOST.false)) _ c.events-events.ensures _ c.read.ensures c.in_ok-registration.registration _
    c.in_ok-registration.was (c.in_ok-service.ensures) refl
