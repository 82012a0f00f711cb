-- What `share` gives for an input, from what opening it gives. Assumes nothing.
use Rattle.std.proofs.Common.{◌≡◌, ℕ, List, replicate, Result, Ok, Err}
use Rattle.answers.specs.declared.Refusal.{Refusal}
use Rattle.answers.specs.Numbers.{number_of}
use Rattle.registration.specs.declared.Registration.{Registration}
use Rattle.event_writer.specs.Answers.{line_a}
use Rattle.event_text.specs.declared.Opened.{Opened}
use Rattle.event_text.specs.Promises.{Opens, OpensBy}
use Rattle.event_text.specs.Share.{lines_of, answers_to, journal_numbers, opening_of, share_if, share}
use Rattle.event_text.proofs.Cutting.{events_left}

-- an input whose opening is refused is answered by the line of the refusal
refused_line_by : (opening : Result Registration Refusal) (input : List ℕ) (refusal : Refusal) → OpensBy opening input (Err refusal)
    → line_a (number_of refusal) 0 ≡ share_if opening input
refused_line_by (Ok r) input refusal e = absurd e
refused_line_by (Err reason) input refusal e = rw e

pub refused_line : (input : List ℕ) (refusal : Refusal) → Opens input (Err refusal) → line_a (number_of refusal) 0 ≡ share input
unfolding share
refused_line input refusal e = refused_line_by (opening_of input) input refusal e

-- and any other by the answers to its events
opened_answers_by : (opening : Result Registration Refusal) (input : List ℕ) (opened : Opened) → OpensBy opening input (Ok opened)
    → answers_to opened.service (replicate journal_numbers 0) (lines_of opened.events.now) ≡ share_if opening input
opened_answers_by (Ok r) input opened e = rw (e.service, e.events, events_left input)
opened_answers_by (Err reason) input opened e = absurd e

pub opened_answers : (input : List ℕ) (opened : Opened) → Opens input (Ok opened)
    → answers_to opened.service (replicate journal_numbers 0) (lines_of opened.events.now) ≡ share input
unfolding share
opened_answers input opened e = opened_answers_by (opening_of input) input opened e
