-- The opening of an input: refused, or a fresh service and the text from where its events begin. Assumes nothing.
use Rattle.std.proofs.Common.{ℕ, ◌-◌, ◌≤◌, ◌<◌, ◌≡◌, refl, sym, ap, ◌∙◌, List, length, take, false, Result, Ok, Err, arith}
use borrow.Author.Tests.{lt-ltb, le-ltb}
use Rattle.answers.specs.declared.Refusal.{Refusal}
use Rattle.answers.specs.declared.Refusal.TheVariants.{NotInColumns}
use Rattle.answers.specs.Order.{refuse◌if◌else◌}
use Rattle.lists.specs.Place.{Put}
use Rattle.lists.proofs.PlaceLaws.{put_whole}
use Rattle.registration.specs.declared.Registration.{Registration}
use Rattle.registration.specs.Damage.{is_damaged}
use Rattle.registration_text.specs.Reader.{read_text}
use Rattle.registration_text.proofs.Theorems.{accepted_is_sound}
use Rattle.service.specs.Record.{fresh_service}
use Rattle.service.specs.Promises.{fresh_of}
use Rattle.event_writer.specs.Answers.{line_a, bytes_of_answer}
use Rattle.event_writer.proofs.Lengths.{length_of_answer}
use Rattle.event_text.specs.declared.Opened.{Opened}
use Rattle.event_text.specs.Share.{lines_of, registration_in, registration_of, events_text, opening_of}
use Rattle.event_text.specs.Promises.{Opens}
use Rattle.event_text.proofs.Cutting.{registration_before}

module _ (input : List ℕ) where
  pub too_long : 32768 < length input → Opens input (Err NotInColumns)
  unfolding opening_of refuse◌if◌else◌
  too_long h = rw (lt-ltb 32768 (length input) h) refl

  module _ (h : length input ≤ 32768) (events : List ℕ) (cut : events ≡ events_text input)
      (answer : Result Registration Refusal) (read : answer ≡ read_text (take (length input - length events) input)) where
    whole : answer ≡ registration_of input
    whole = read ∙ ap read_text (registration_before input events cut)

    judged : opening_of input ≡ answer
    unfolding opening_of refuse◌if◌else◌
    judged = rw (le-ltb 32768 (length input) h, whole)

    pub registration_refused : (refusal : Refusal) → answer ≡ Err refusal → Opens input (Err refusal)
    registration_refused refusal e = rw (judged, e) refl

    -- a registration that was read is not damaged, so the service is made of it
    pub made_of : (r : Registration) → answer ≡ Ok r → fresh_of r ≡ Ok (fresh_service r)
    unfolding refuse◌if◌else◌
    made_of r e =
        let sound : is_damaged r ≡ false = accepted_is_sound (registration_in (lines_of input)) r (sym whole ∙ e) in
        rw sound

    -- so a refusal of the service does not come
    pub service_made : {A : Type 0} (r : Registration) (refusal : Refusal) → answer ≡ Ok r → Err refusal ≡ fresh_of r → A
    service_made r refusal e f = let never : Err refusal ≡ Ok (fresh_service r) = f ∙ made_of r e in cc

    pub registration_opened : (r : Registration) (opened : Opened) → answer ≡ Ok r → Ok opened.service ≡ fresh_of r → opened.events.now ≡ events
        → Opens input (Ok opened)
    registration_opened r opened e s k =
        let same = s ∙ made_of r e in
        rw (judged, e) (record { service = cc; events = k ∙ cut })

-- the line of a refusal fills its buffer
pub whole_line : (answer number next : ℕ) (before after : List ℕ) → bytes_of_answer ≡ length before → Put 0 (line_a answer number) before after next
    → (after ≡ line_a answer number) × (bytes_of_answer ≡ length after)
whole_line answer number next before after e p =
    let long = length_of_answer answer number in
    let whole : after ≡ line_a answer number = put_whole (omega (arith, long)) p in
    (whole, omega (arith, long, ap length whole))
