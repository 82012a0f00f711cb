-- A line is answered: refused where the buffer is too short, and otherwise by what it asks for. Assumes nothing.
use Rattle.std.proofs.Common.{ℕ, ◌≤◌, ◌<◌, ◌≡◌, refl, List, length, Option, Ok, Err}
use borrow.Author.Tests.{lt-ltb, le-ltb}
use Rattle.answers.specs.declared.Refusal.TheVariants.{TooShort}
use Rattle.answers.specs.Order.{refuse◌if◌else◌}
use Rattle.service.specs.declared.Service.{Service}
use Rattle.event_reader.specs.declared.Event.{Event}
use Rattle.event_reader.specs.Events.{event_in}
use Rattle.event_calls.specs.Replies.{reply_of, reply_to}
use Rattle.event_calls.specs.Promises.{answer_most, Replies}
use Rattle.event_text.specs.Promises.{room_verdict, Answers}
use Rattle.event_text.proofs.Fitting.{answer_within}

module _ (s : Service) (j line buffer : List ℕ) where
  pub no_room : length buffer < answer_most → Answers s j line buffer s (Err TooShort) j buffer
  unfolding room_verdict refuse◌if◌else◌
  no_room h = rw (lt-ltb (length buffer) answer_most h) (refl, refl, refl, refl)

  module _ (h : answer_most ≤ length buffer) (s' : Service) (j' : List ℕ) (bytes : ℕ) (buffer' : List ℕ) (event : Option Event) (e : event ≡ event_in line)
      (p : Replies (reply_of s j event) buffer s' j' bytes buffer') where
    pub by_event : Answers s j line buffer s' (Ok bytes) j' buffer'
    unfolding room_verdict refuse◌if◌else◌ reply_to
    by_event = rw (le-ltb (length buffer) answer_most h) (rw e at p)

    -- and the answer lies within the buffer
    pub within_buffer : bytes ≤ length buffer'
    unfolding reply_to
    within_buffer = answer_within s j line buffer h s' j' bytes buffer' (rw e at p)
