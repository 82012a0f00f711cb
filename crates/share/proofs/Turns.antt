-- The program's loop over the lines: it begins with no bytes computed, each turn computes the answer to one line, and at the end all are computed. Assumes nothing.
use Rattle.std.proofs.Common.{ℕ, ◌+◌, ◌≤◌, ◌<◌, ◌≡◌, refl, sym, ap, ◌∙◌, List, [], ◌∷◌, ◌++◌, length, take, drop, replicate, append_assoc, append-nil, Result, Ok, Err, arith}
use borrow.Author.Tests.{le-ltb}
use lib.Seq.{take-append_seam}
use Rattle.std.specs.Result.{IsOk}
use Rattle.answers.specs.declared.Refusal.{Refusal}
use Rattle.answers.specs.Order.{refuse◌if◌else◌}
use Rattle.lists.specs.Place.{placed}
use Rattle.lines.specs.Line.{first_line, after_line}
use Rattle.service.specs.declared.Service.{Service}
use Rattle.event_calls.specs.Replies.{reply_to}
use Rattle.event_calls.specs.Promises.{answer_most, Replies}
use Rattle.event_text.specs.declared.Opened.{Opened}
use Rattle.event_text.specs.Share.{lines_of, answers_to, share}
use Rattle.event_text.specs.Promises.{Opens, room_verdict, Answers}
use Rattle.event_text.proofs.Cutting.{lines_none}
use Rattle.event_text.proofs.Laws.{answered_by_lines}
use Rattle.event_text.proofs.Sharing.{opened_answers}
use Rattle.share.proofs.Written.{Written}

-- at first no bytes are computed
pub nothing_written : (input : List ℕ) (opened : Opened) → Opens input (Ok opened) → Written (share input) opened.service (replicate 3000 0) opened.events.now []
nothing_written input opened e = record { whole = opened_answers input opened e }

-- in a buffer with room a line is answered
module _ (s : Service) (j line buffer : List ℕ) (h : answer_most ≤ length buffer) (s' : Service) (j' buffer' : List ℕ) where
  pub always_answered : (answer : Result ℕ Refusal) → Answers s j line buffer s' answer j' buffer' → IsOk answer
  unfolding room_verdict refuse◌if◌else◌
  always_answered (Ok bytes) p = refl
  always_answered (Err refusal) p = absurd (rw (le-ltb (length buffer) answer_most h) at p)

  pub replied : (bytes : ℕ) → Answers s j line buffer s' (Ok bytes) j' buffer' → Replies (reply_to s j line) buffer s' j' bytes buffer'
  unfolding room_verdict refuse◌if◌else◌
  replied bytes p = rw (le-ltb (length buffer) answer_most h) at p

-- what stands at the front of a buffer after an answer was put there
front : (bytes buffer : List ℕ) → take (length bytes) (placed 0 bytes buffer) ≡ bytes
unfolding placed
front bytes buffer = take-append_seam bytes (drop (0 + length bytes) buffer)

-- the answers to a text are the reply to its first line, and then the answers to the text after it
line_then : (s : Service) (j text : List ℕ) → 0 < length text → let reply = reply_to s j (first_line text) in
    answers_to s j (lines_of text) ≡ reply.bytes ++ answers_to reply.service reply.journal (lines_of (after_line text))
line_then s j [] h = absurd (omega arith)
line_then s j (byte ∷ bytes) h = answered_by_lines s j byte bytes

-- a turn adds the front of the buffer, and goes on with record and journal as the answer left them
pub one_more : (answers : List ℕ) (s : Service) (j rest bytes : List ℕ) → Written answers s j rest bytes → 0 < length rest
    → (line later : List ℕ) → line ≡ first_line rest → later ≡ after_line rest → (buffer buffer' : List ℕ) (s' : Service) (j' : List ℕ) (count : ℕ)
    → Replies (reply_to s j line) buffer s' j' count buffer' → Written answers s' j' later (bytes ++ take count buffer')
one_more answers s j rest bytes w h line later l a buffer buffer' s' j' count p =
    let q = rw l at p in
    let reply = reply_to s j (first_line rest) in
    let added : take count buffer' ≡ reply.bytes = rw (q.bytes, q.out) (front reply.bytes buffer) in
    record { whole = rw (added, q.service, q.journal, a, append_assoc, ← line_then s j rest h) w.whole }

-- at the end of the text the bytes computed are all the answers
pub all_written : (answers : List ℕ) (s : Service) (j rest bytes : List ℕ) → Written answers s j rest bytes → length rest ≤ 0 → bytes ≡ answers
unfolding answers_to
all_written answers s j [] bytes w h =
    let none : answers_to s j (lines_of []) ≡ [] = rw lines_none in
    sym (append-nil bytes) ∙ ap (λ (text : List ℕ). bytes ++ text) (sym none) ∙ w.whole
all_written answers s j (byte ∷ rest) bytes w h = absurd (omega arith)
