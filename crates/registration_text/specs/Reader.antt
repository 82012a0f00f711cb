-- Reading a registration's text: G, the D lines, the O lines in turn, then what concerns the whole. Each order of refusals is one chain. Assumes nothing.
use Rattle.std.specs.Prelude.{ℕ, zero, suc, ◌+◌, ◌*◌, cond, not, ◌&&◌, List, length, get_or, set, drop, leb, ltb, eqb, Option, None, Result, Ok, Err}
use Rattle.std.specs.Result.{result_and}
use Rattle.answers.specs.declared.Refusal.{Refusal}
use Rattle.answers.specs.declared.Refusal.TheVariants.{NotInColumns, CodeFalse, CountOutside, CodeTwice, StatusOrIterationAbove, ProducerOrKeyWrong, KeysAbove}
use Rattle.answers.specs.Numbers.{Verdict}
use Rattle.answers.specs.Order.{refuse◌if◌else◌}
use Rattle.columns.specs.Fields.{numbers_in, nth, is_none}
use Rattle.lines.specs.Line.{first_line, after_line}
use Rattle.lines.specs.Lines.{line_in}
use Rattle.registration.specs.declared.Registration.{Registration}
use Rattle.registration.specs.Code.{is_code}
use Rattle.registration.specs.Rules.{point_counts_right, count_right, pairs_right, codes_differ, keys_right}
use Rattle.registration.specs.Damage.{empty}
use Rattle.registration_text.specs.Lines.{letter_g, letter_d, letter_o, widths_g, widths_d, widths_o, widths_of_pairs}

-- ---- one line

-- the numbers of an O line's fixed part, its first 24 bytes
unfoldable pub fixed_in : List ℕ → Option (List ℕ)
fixed_in line = cond (leb 24 (length line) && eqb (get_or line 0 0) letter_o) (numbers_in widths_o (drop 1 line)) None

-- the numbers of an O line's rest: so many producers' numbers and keys, LF, and nothing else
unfoldable pub rest_in : ℕ → List ℕ → Option (List ℕ)
rest_in count line =
    cond (eqb (length line) (10 * count + 25) && eqb (get_or line (10 * count + 24) 0) 10)
    (numbers_in (widths_of_pairs count) (drop 24 line))
    None

-- G: 1, 3, 5
unfoldable pub verdict_g : Option (List ℕ) → Verdict
verdict_g numbers =
    refuse NotInColumns if is_none numbers else
    refuse CountOutside if not (point_counts_right (nth 0 numbers) (nth 1 numbers)) else
    refuse StatusOrIterationAbove if ltb 1 (nth 2 numbers) else
    Ok tt

-- D: 1, 5, 2
unfoldable pub verdict_d : Option (List ℕ) → Verdict
verdict_d numbers =
    refuse NotInColumns if is_none numbers else
    refuse StatusOrIterationAbove if ltb 3 (nth 1 numbers) else
    refuse CodeFalse if not (is_code (nth 0 numbers)) else
    Ok tt

-- a producer's number on an O line, by priority
abbrev pub nth_source : Option (List ℕ) → ℕ → ℕ
nth_source rest priority = nth (2 * priority) rest

-- a key on an O line, by priority
abbrev pub nth_key : Option (List ℕ) → ℕ → ℕ
nth_key rest priority = nth (2 * priority + 1) rest

-- O: 1 for the fixed part, 3, 1 for the rest, 5, 2, 6
unfoldable pub verdict_o : ℕ → Option (List ℕ) → Option (List ℕ) → Verdict
verdict_o producers fixed rest =
    refuse NotInColumns if is_none fixed else
    refuse CountOutside if not (count_right (nth 2 fixed)) else
    refuse NotInColumns if is_none rest else
    refuse StatusOrIterationAbove if ltb 3 (nth 1 fixed) else
    refuse CodeFalse if not (is_code (nth 0 fixed)) else
    refuse ProducerOrKeyWrong if not (pairs_right producers (nth 2 fixed) (nth_source rest) (nth_key rest)) else
    Ok tt

-- ---- what the lines put into the registration

-- counts and iteration, and as yet no points
abbrev pub with_counts : ℕ → ℕ → ℕ → Registration
with_counts producers consumers iteration =
    record {
      producers = producers;
      consumers = consumers;
      iteration = iteration;
      codes = empty.codes;
      statuses = empty.statuses;
      counts = empty.counts;
      sources = empty.sources;
      keys = empty.keys;
    }

-- code and status of a point
unfoldable pub with_point : Registration → ℕ → ℕ → ℕ → Registration
with_point r point code status =
    record {
      producers = r.producers;
      consumers = r.consumers;
      iteration = r.iteration;
      codes = set r.codes point code;
      statuses = set r.statuses point status;
      counts = r.counts;
      sources = r.sources;
      keys = r.keys;
    }

-- how many producers a consumer names
unfoldable pub with_count : Registration → ℕ → ℕ → Registration
with_count r consumer count =
    record {
      producers = r.producers;
      consumers = r.consumers;
      iteration = r.iteration;
      codes = r.codes;
      statuses = r.statuses;
      counts = set r.counts consumer count;
      sources = r.sources;
      keys = r.keys;
    }

-- the producer's number and the key at a place
unfoldable pub with_pair : Registration → ℕ → ℕ → ℕ → Registration
with_pair r place source key =
    record {
      producers = r.producers;
      consumers = r.consumers;
      iteration = r.iteration;
      codes = r.codes;
      statuses = r.statuses;
      counts = r.counts;
      sources = set r.sources place source;
      keys = set r.keys place key;
    }

-- the numbers and keys at so many priorities from one on
unfoldable pub with_pairs : Registration → ℕ → (source key : ℕ → ℕ) → ℕ → ℕ → Registration
with_pairs r consumer source key priority zero = r
with_pairs r consumer source key priority (suc count) =
    with_pairs (with_pair r (5 * consumer + priority) (source priority) (key priority)) consumer source key (suc priority) count

-- all that an O line says of a consumer
abbrev pub with_consumer : Registration → ℕ → Option (List ℕ) → Option (List ℕ) → Registration
with_consumer r consumer fixed rest =
    with_pairs (with_count (with_point r (r.producers + consumer) (nth 0 fixed) (nth 1 fixed)) consumer (nth 2 fixed))
    consumer (nth_source rest) (nth_key rest) 0 (nth 2 fixed)

-- ---- the lines in turn

-- the reading stopped by a refusal, or what has been read so far and the text that is left
abbrev pub Stage : Type 0
Stage = Result (Registration × List ℕ) Refusal

-- the next lines are read where the reading was not stopped
abbrev pub then_read : Stage → (Registration → List ℕ → Stage) → Stage
then_read (Err refusal) next = Err refusal
then_read (Ok read) next = next read.0 read.1

-- the G line
unfoldable pub read_g : List ℕ → Stage
read_g text =
    let numbers = line_in letter_g widths_g (first_line text) in
    result_and (verdict_g numbers) (Ok (with_counts (nth 0 numbers) (nth 1 numbers) (nth 2 numbers), after_line text))

-- the D lines of so many producers from one on
unfoldable pub read_d : ℕ → ℕ → Registration → List ℕ → Stage
read_d producer zero r text = Ok (r, text)
read_d producer (suc left) r text =
    let numbers = line_in letter_d widths_d (first_line text) in
    result_and (verdict_d numbers) (read_d (suc producer) left (with_point r producer (nth 0 numbers) (nth 1 numbers)) (after_line text))

-- the O lines of so many consumers from one on
unfoldable pub read_o : ℕ → ℕ → Registration → List ℕ → Stage
read_o consumer zero r text = Ok (r, text)
read_o consumer (suc left) r text =
    let fixed = fixed_in (first_line text) in
    let rest = rest_in (nth 2 fixed) (first_line text) in
    result_and (verdict_o r.producers fixed rest) (read_o (suc consumer) left (with_consumer r consumer fixed rest) (after_line text))

-- then 1 for extra text, 4, 7
unfoldable pub verdict_of_all : Registration → List ℕ → Verdict
verdict_of_all r text =
    refuse NotInColumns if ltb 0 (length text) else
    refuse CodeTwice if not (codes_differ r) else
    refuse KeysAbove if not (keys_right r) else
    Ok tt

-- the registration once all lines were read, unless the reading was stopped or the whole is refused
abbrev pub closing : Stage → Result Registration Refusal
closing (Err refusal) = Err refusal
closing (Ok read) = result_and (verdict_of_all read.0 read.1) (Ok read.0)

-- a registration's text, read
unfoldable pub read_text : List ℕ → Result Registration Refusal
read_text text =
    closing
    (then_read (then_read (read_g text) (λ r rest. read_d 0 r.producers r rest)) (λ r rest. read_o 0 r.consumers r rest))
