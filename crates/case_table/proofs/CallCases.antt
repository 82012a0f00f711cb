-- Calls on records and journals with all numbers that the paper settles: answers, numbers returned, result lists, record and journal afterwards, by
-- one test that is computed over the rows of a table. Magnitudes and shares are in hundredths of a kWh. Assumes nothing.
use Prim.Native.Nat.{ℕ, min}
use Prim.Native.String.{String}
use mathlib.Core.Path.{◌≡◌, refl}
use mathlib.Core.Bool.{Bool, true, false, ◌&&◌}
use mathlib.Core.List.{List, [], ◌∷◌, ◌++◌, map}
use lib.IntN.{ℤ, pos, neg_ℤ}
use lib.ListN.{replicate}
use lib.Dec.{eqb}
use Rattle.lists.specs.Below.{every, sum_below, differ}
use Rattle.lists.specs.Tables.{joined}
use Rattle.lists.specs.Place.{placed}
use Rattle.answers.specs.Numbers.{answer_of}
use Rattle.answers.specs.Order.{refuse◌if◌else◌}
use Rattle.calendar.specs.Civil.{year_length, month_length, days_before_year, days_before_month, last_up_to}
use Rattle.calendar.specs.Dates.{year_of}
use Rattle.calendar.specs.Quarters.{last_sunday, quarters_of, quarter_exists}
use Rattle.wall_clock.specs.Starts.{start_after, first_up_to, first_at}
use Rattle.registration.specs.declared.Registration.{Registration}
use Rattle.registration.specs.Code.{is_code, weighted}
use Rattle.registration.specs.Rules.{pairs_right}
use Rattle.registration.specs.Damage.{is_damaged, empty}
use Rattle.allocation.specs.Rounds.{rounds_of, left_at, round_of, after_rounds}
use Rattle.allocation.specs.Result.{allocation_of}
use Rattle.lookup.specs.Mean.{sum_of, nearest}
use Rattle.journal.specs.Order.{weaker}
use Rattle.journal.specs.Readings.{shown}
use Rattle.journal.specs.Entries.{keep}
use Rattle.journal.specs.Stored.{entries, flat, written}
use Rattle.journal.specs.Damage.{entry_right, entries_right}
use Rattle.lookup.specs.Earlier.{earlier}
use Rattle.lookup.specs.Substitutes.{existing, looked_up}
use Rattle.evaluation.specs.Evaluation.{result_from, evaluation_of}
use Rattle.service.specs.declared.State.{State}
use Rattle.service.specs.declared.Service.{Service}
use Rattle.points.specs.Points.{index_of}
use Rattle.service.specs.Call.{Call, Submission, Clear, Evaluation, Seen}
use Rattle.group.specs.Refusals.{damaged, submission_verdict, clear_verdict, earliest, evaluation_verdict}
use Rattle.service.specs.Calls.{submitted, cleared, evaluated, step}
use Rattle.service.specs.Record.{call_on, fresh_service, zero_service}
use Rattle.demand3.specs.Lists.{run}
use Rattle.demand3.specs.Demand3.{RecordAndJournal, seen_of}
use Rattle.service.specs.Laws.{lent_by}
use Rattle.case_table.proofs.Same.{same}

-- the codes of the producer and of the two consumers of case LIST, and a code that is not in its group
abbrev producer : ℕ
producer = 859182400220162071

abbrev first : ℕ
first = 859182400220162088

abbrev second : ℕ
second = 859182400220162095

abbrev stranger : ℕ
stranger = 859182400110035201

-- the points of case LIST, with this iteration, this status of the first consumer and this key of the second. Its arrays end with so many zeros, 314
-- make them whole. What stands after the end of a list counts as 0: without these zeros it is the same group, and quicker to compute
unfoldable group : (zeros iteration status key : ℕ) → Registration
group zeros iteration status key =
    record {
      producers = 1;
      consumers = 2;
      iteration = iteration;
      codes = producer ∷ first ∷ second ∷ replicate (min 61 zeros) 0;
      statuses = 0 ∷ status ∷ 0 ∷ replicate (min 61 zeros) 0;
      counts = 1 ∷ 1 ∷ replicate (min 62 zeros) 0;
      sources = 1 ∷ 0 ∷ 0 ∷ 0 ∷ 0 ∷ 1 ∷ replicate zeros 0;
      keys = 4000 ∷ 0 ∷ 0 ∷ 0 ∷ 0 ∷ key ∷ replicate zeros 0;
    }

-- the group of case LIST
abbrev list : Registration
list = group 0 1 0 6000

-- a fresh service and a journal
abbrev fresh : Registration → List ℕ → RecordAndJournal
fresh r journal = record { service = fresh_service r; journal = journal }

-- a record with this registration, last stamp, kept stamp, kept day and entry count, and a journal
abbrev held : Registration → (last P K count : ℕ) → List ℕ → RecordAndJournal
held r last P K count journal =
    record {
      service = record { registration = r; state = record { last = last; numbers = record { kept_stamp = P; kept_day = K; entries = count } } };
      journal = journal;
    }

-- a value with a plus and one with a minus
abbrev plus : ℕ → ℤ
plus n = pos n

abbrev minus : ℕ → ℤ
minus n = neg_ℤ (pos n)

-- the calls: an evaluation is lent nine numbers, of which a result in the group of case LIST takes eight
abbrev submit : (clock code day quarter : ℕ) → ℤ → Call
submit clock code day quarter value = Submission clock (record { code = code; day = day; quarter = quarter; value = value })

abbrev clear : (day stamp : ℕ) → Call
clear = Clear

abbrev evaluate : (day quarter T : ℕ) → Call
evaluate day quarter T = Evaluation day quarter T (replicate 9 7)

-- a call, and what is to be seen of it: its answer, the number that it returns, and the list lent for a result
record Line : Type 0 where
  call : Call
  answer : ℕ
  number : ℕ
  result : List ℕ

-- accepted with a stamp or a dropped count
infixl 70 ◌returns◌
abbrev ◌returns◌ : Call → ℕ → Line
call returns number = record { call = call; answer = 0; number = number; result = [] }

-- accepted with a round count, and the list with a result in front and then the numbers that stay
infixl 70 ◌gives◌rounds◌
abbrev ◌gives◌rounds◌ : Call → ℕ → List ℕ → Line
call gives n rounds numbers = record { call = call; answer = 0; number = n; result = numbers }

-- refused by a number, with 0 and an unaltered list
infixl 70 ◌refused◌
abbrev ◌refused◌ : Call → ℕ → Line
call refused n = record { call = call; answer = n; number = 0; result = lent_by call }

-- what a row shows; record and journal at the start; the calls with what is to be seen of each; and afterwards the record's last stamp, kept stamp,
-- kept day and entry count, and the journal
record Row : Type 0 where
  shows : String
  start : RecordAndJournal
  lines : List Line
  state : List ℕ
  journal : List ℕ

-- a row, its parts in this order
abbrev row : String → RecordAndJournal → List Line → List ℕ → List ℕ → Row
row shows start lines state journal = record { shows = shows; start = start; lines = lines; state = state; journal = journal }

-- the numbers of a record's changing part
abbrev state_numbers : State → List ℕ
state_numbers s = s.last ∷ s.numbers.kept_stamp ∷ s.numbers.kept_day ∷ s.numbers.entries ∷ []

-- a row of a damaged record or journal: an evaluation is refused by 15, and nothing is altered
abbrev damaged_row : String → RecordAndJournal → Row
damaged_row shows start = row shows start (evaluate 38 1 5 refused 15 ∷ []) (state_numbers start.service.state) start.journal

-- the calls of case LIST, and evaluations as of 1001, 1000 and 1003
unfoldable list_lines : List Line
list_lines =
    submit 1000 producer 1 1 (plus 1001) returns 1000 ∷ submit 1000 first 1 1 (minus 100) returns 1001 ∷ submit 990 second 1 1 (minus 900) returns 1002
    ∷ evaluate 1 1 1002 gives 2 rounds (100 ∷ 780 ∷ 0 ∷ 120 ∷ 121 ∷ 0 ∷ 0 ∷ 0 ∷ 7 ∷ []) ∷ evaluate 1 1 1001 gives 2 rounds (100 ∷ 0 ∷ 0 ∷ 0 ∷ 901 ∷ 0 ∷ 0 ∷ 6 ∷ 7 ∷ [])
    ∷ evaluate 1 1 1000 gives 2 rounds (0 ∷ 0 ∷ 0 ∷ 0 ∷ 1001 ∷ 0 ∷ 6 ∷ 6 ∷ 7 ∷ []) ∷ evaluate 1 1 1003 refused 12 ∷ []

-- the journal that they leave
abbrev list_journal : List ℕ
list_journal = 1000 ∷ 100 ∷ 1001 ∷ 1001 ∷ 2776000 ∷ 100 ∷ 1002 ∷ 5551900 ∷ 900 ∷ []

-- case LIST, with whole arrays and also without iteration
unfoldable listed : List Row
listed =
    row "LIST" (fresh (group 314 1 0 6000) (replicate 9 0)) list_lines (1002 ∷ 0 ∷ 0 ∷ 3 ∷ []) list_journal ∷
    row "LIST without iteration" (held (group 0 0 0 6000) 1002 0 0 3 list_journal)
    (evaluate 1 1 1002 gives 1 rounds (100 ∷ 600 ∷ 0 ∷ 300 ∷ 301 ∷ 0 ∷ 0 ∷ 0 ∷ 7 ∷ []) ∷ [])
    (1002 ∷ 0 ∷ 0 ∷ 3 ∷ []) list_journal ∷ []

-- submissions: refusals and their order, the edges, room in the journal, and stamps
unfoldable submissions : List Row
submissions =
    row "refusals and their order" (fresh list (replicate 3 0))
    (submit 1 stranger 1 1 (minus 1) refused 8
    ∷ submit 1 first 1 97 (minus 1) refused 9 ∷ submit 1 first 90 93 (minus 1) refused 9 ∷ submit 1 first 300 101 (minus 1) refused 9
    ∷ submit 1 first 1 0 (minus 1) refused 9 ∷ submit 1 first 27759 1 (minus 1) refused 9
    ∷ submit 1 producer 1 1 (minus 1) refused 10 ∷ submit 1 first 1 1 (plus 1) refused 10
    ∷ submit 1 producer 1 1 (plus 100000000) refused 10 ∷ submit 1 first 1 1 (minus 100000000) refused 10
    ∷ submit 1000000000000 first 1 1 (minus 1) refused 13
    ∷ submit 1 stranger 1 97 (minus 1) refused 8 ∷ submit 1 first 1 97 (plus 1) refused 9 ∷ submit 1000000000000 first 1 1 (plus 1) refused 10 ∷ [])
    (0 ∷ 0 ∷ 0 ∷ 0 ∷ []) (0 ∷ 0 ∷ 0 ∷ []) ∷
    row "the greatest numbers, and last stamp 999999999999" (fresh list (replicate 15 0))
    (submit 0 first 300 100 (minus 99999999) returns 1 ∷ submit 0 producer 90 92 (plus 99999999) returns 2
    ∷ submit 0 producer 1 96 (minus 0) returns 3 ∷ submit 0 second 27758 96 (plus 0) returns 4
    ∷ submit 999999999999 first 0 1 (minus 1) returns 999999999999
    ∷ submit 1 second 0 1 (minus 1) refused 13 ∷ submit 1 first 0 1 (minus 1) refused 13 ∷ [])
    (999999999999 ∷ 0 ∷ 0 ∷ 5 ∷ [])
    (1 ∷ 2805999 ∷ 99999999 ∷ 2 ∷ 9091 ∷ 99999999 ∷ 3 ∷ 195 ∷ 0 ∷ 4 ∷ 8327695 ∷ 0 ∷ 999999999999 ∷ 2775900 ∷ 1 ∷ []) ∷
    row "a journal of 2 numbers" (fresh list (7 ∷ 7 ∷ []))
    (submit 1 first 1 1 (minus 1) refused 14 ∷ submit 1000000000000 first 1 1 (minus 1) refused 13 ∷ submit 1 first 1 1 (plus 1) refused 10 ∷ [])
    (0 ∷ 0 ∷ 0 ∷ 0 ∷ []) (7 ∷ 7 ∷ []) ∷
    row "a journal of 3 numbers" (fresh list (7 ∷ 7 ∷ 7 ∷ []))
    (submit 5 first 1 1 (minus 1) returns 5 ∷ submit 6 second 1 1 (minus 1) refused 14 ∷ submit 6 first 1 1 (minus 2) refused 14
    ∷ submit 6 first 1 1 (minus 1) returns 5 ∷ [])
    (5 ∷ 0 ∷ 0 ∷ 1 ∷ []) (5 ∷ 2776000 ∷ 1 ∷ []) ∷
    row "a journal of 5 numbers" (fresh list (7 ∷ 7 ∷ 7 ∷ 7 ∷ 7 ∷ []))
    (submit 5 first 1 1 (minus 1) returns 5 ∷ submit 6 second 1 1 (minus 1) refused 14 ∷ [])
    (5 ∷ 0 ∷ 0 ∷ 1 ∷ []) (5 ∷ 2776000 ∷ 1 ∷ 7 ∷ 7 ∷ []) ∷
    row "a clock set back, repeats, and a return to an earlier value" (fresh list (replicate 12 0))
    (submit 5000 first 1 1 (minus 1) returns 5000 ∷ submit 10 second 1 1 (minus 1) returns 5001 ∷ submit 9000 first 1 1 (minus 1) returns 5000
    ∷ submit 10 first 1 1 (minus 2) returns 5002 ∷ submit 10 first 1 1 (minus 1) returns 5003 ∷ [])
    (5003 ∷ 0 ∷ 0 ∷ 4 ∷ []) (5000 ∷ 2776000 ∷ 1 ∷ 5001 ∷ 5551900 ∷ 1 ∷ 5002 ∷ 2776000 ∷ 2 ∷ 5003 ∷ 2776000 ∷ 1 ∷ []) ∷ []

-- a journal after a correction and a clear
abbrev corrected : List ℕ
corrected = 10 ∷ 5000 ∷ 1000 ∷ 30 ∷ 2780900 ∷ 300 ∷ 40 ∷ 2780900 ∷ 200 ∷ 0 ∷ 0 ∷ 0 ∷ 7 ∷ 7 ∷ 7 ∷ []

-- clears by stamp and by day
unfoldable clears : List Row
clears =
    row "corrections before and after a clear at a stamp between" (fresh list (replicate 15 7))
    (submit 10 producer 50 1 (plus 1000) returns 10 ∷ submit 20 first 50 1 (minus 100) returns 20 ∷ submit 30 first 50 1 (minus 300) returns 30
    ∷ submit 40 first 50 1 (minus 200) returns 40
    ∷ evaluate 50 1 29 gives 2 rounds (100 ∷ 0 ∷ 0 ∷ 0 ∷ 900 ∷ 0 ∷ 0 ∷ 6 ∷ 7 ∷ []) ∷ evaluate 50 1 35 gives 2 rounds (300 ∷ 0 ∷ 0 ∷ 0 ∷ 700 ∷ 0 ∷ 0 ∷ 6 ∷ 7 ∷ [])
    ∷ evaluate 50 1 40 gives 2 rounds (200 ∷ 0 ∷ 0 ∷ 0 ∷ 800 ∷ 0 ∷ 0 ∷ 6 ∷ 7 ∷ [])
    ∷ clear 0 35 returns 1
    ∷ evaluate 50 1 29 refused 12 ∷ evaluate 50 1 34 refused 12
    ∷ evaluate 50 1 35 gives 2 rounds (300 ∷ 0 ∷ 0 ∷ 0 ∷ 700 ∷ 0 ∷ 0 ∷ 6 ∷ 7 ∷ []) ∷ evaluate 50 1 40 gives 2 rounds (200 ∷ 0 ∷ 0 ∷ 0 ∷ 800 ∷ 0 ∷ 0 ∷ 6 ∷ 7 ∷ []) ∷ [])
    (40 ∷ 35 ∷ 0 ∷ 3 ∷ []) corrected ∷
    row "an emptied slot is used again" (held list 40 35 0 3 corrected)
    (submit 1 second 50 1 (minus 5) returns 41 ∷ evaluate 50 1 41 gives 2 rounds (200 ∷ 5 ∷ 0 ∷ 0 ∷ 795 ∷ 0 ∷ 0 ∷ 0 ∷ 7 ∷ []) ∷ [])
    (41 ∷ 35 ∷ 0 ∷ 4 ∷ []) (10 ∷ 5000 ∷ 1000 ∷ 30 ∷ 2780900 ∷ 300 ∷ 40 ∷ 2780900 ∷ 200 ∷ 41 ∷ 5556800 ∷ 5 ∷ 7 ∷ 7 ∷ 7 ∷ []) ∷
    row "a stamp below P, and then the same P and K again" (held list 40 35 10 3 corrected) (clear 10 34 refused 12 ∷ clear 10 35 returns 0 ∷ [])
    (40 ∷ 35 ∷ 10 ∷ 3 ∷ []) corrected ∷
    row "kept day 100, and the refusals' order" (fresh list (replicate 12 0))
    (submit 1 first 99 1 (minus 1) returns 1 ∷ submit 2 first 100 1 (minus 2) returns 2 ∷ submit 3 producer 100 1 (plus 1000) returns 3
    ∷ clear 27759 2 refused 9 ∷ clear 100 2 returns 1
    ∷ submit 4 first 99 1 (minus 1) refused 11 ∷ submit 4 stranger 99 1 (minus 1) refused 8 ∷ submit 4 first 99 97 (minus 1) refused 9
    ∷ submit 4 first 99 1 (plus 1) refused 11
    ∷ evaluate 127 1 3 refused 11 ∷ evaluate 127 97 3 refused 9 ∷ evaluate 127 1 1 refused 11
    ∷ evaluate 27759 1 3 refused 9 ∷ Evaluation 128 1 1 [] refused 12
    ∷ evaluate 128 1 3 gives 2 rounds (2 ∷ 0 ∷ 0 ∷ 0 ∷ 998 ∷ 1 ∷ 1 ∷ 6 ∷ 7 ∷ []) ∷ evaluate 128 1 2 gives 2 rounds (0 ∷ 0 ∷ 2 ∷ 0 ∷ 0 ∷ 6 ∷ 1 ∷ 6 ∷ 7 ∷ [])
    ∷ clear 99 3 refused 11 ∷ clear 99 1 refused 11 ∷ clear 27759 1 refused 9 ∷ clear 100 1 refused 12 ∷ clear 100 4 refused 12
    ∷ submit 4 first 100 2 (minus 1) returns 4 ∷ [])
    (4 ∷ 2 ∷ 100 ∷ 3 ∷ []) (2 ∷ 2785900 ∷ 2 ∷ 3 ∷ 10000 ∷ 1000 ∷ 4 ∷ 2785901 ∷ 1 ∷ 0 ∷ 0 ∷ 0 ∷ []) ∷
    row "kept day 27758" (held list 4 2 100 3 (2 ∷ 2785900 ∷ 2 ∷ 3 ∷ 10000 ∷ 1000 ∷ 4 ∷ 2785901 ∷ 1 ∷ []))
    (clear 27758 4 returns 3 ∷ submit 5 first 27757 1 (minus 1) refused 11 ∷ submit 5 first 27758 1 (minus 1) returns 5
    ∷ evaluate 27758 1 5 refused 11 ∷ [])
    (5 ∷ 4 ∷ 27758 ∷ 1 ∷ []) (5 ∷ 5551700 ∷ 1 ∷ 0 ∷ 0 ∷ 0 ∷ 0 ∷ 0 ∷ 0 ∷ []) ∷ []

-- a row of a consumer with a status above 0 and readings in earlier weeks: without one of its own it takes nothing, with one it takes that
abbrev status_row : String → (status : ℕ) → Row
status_row shows status =
    row shows (fresh (group 0 1 status 6000) (replicate 12 0))
    (submit 1 producer 28 1 (plus 1000) returns 1 ∷ submit 2 first 21 1 (minus 1) returns 2 ∷ submit 3 first 14 1 (minus 2) returns 3
    ∷ evaluate 28 1 3 gives 2 rounds (0 ∷ 0 ∷ 0 ∷ 0 ∷ 1000 ∷ 0 ∷ 5 ∷ 6 ∷ 7 ∷ []) ∷ submit 4 first 28 1 (minus 5) returns 4
    ∷ evaluate 28 1 4 gives 2 rounds (5 ∷ 0 ∷ 0 ∷ 0 ∷ 995 ∷ 0 ∷ 0 ∷ 6 ∷ 7 ∷ []) ∷ [])
    (4 ∷ 0 ∷ 0 ∷ 4 ∷ []) (1 ∷ 2800 ∷ 1000 ∷ 2 ∷ 2778000 ∷ 1 ∷ 3 ∷ 2777300 ∷ 2 ∷ 4 ∷ 2778700 ∷ 5 ∷ [])

-- evaluations: substitutes, and the list lent
unfoldable evaluations : List Row
evaluations =
    row "means of no, one and two readings" (fresh list (replicate 9 0))
    (submit 1 producer 28 1 (plus 1000) returns 1 ∷ submit 2 first 21 1 (minus 1) returns 2 ∷ submit 3 first 14 1 (minus 2) returns 3
    ∷ evaluate 28 1 1 gives 2 rounds (0 ∷ 0 ∷ 0 ∷ 0 ∷ 1000 ∷ 0 ∷ 6 ∷ 6 ∷ 7 ∷ []) ∷ evaluate 28 1 2 gives 2 rounds (1 ∷ 0 ∷ 0 ∷ 0 ∷ 999 ∷ 0 ∷ 1 ∷ 6 ∷ 7 ∷ [])
    ∷ evaluate 28 1 3 gives 2 rounds (2 ∷ 0 ∷ 0 ∷ 0 ∷ 998 ∷ 0 ∷ 2 ∷ 6 ∷ 7 ∷ []) ∷ [])
    (3 ∷ 0 ∷ 0 ∷ 3 ∷ []) (1 ∷ 2800 ∷ 1000 ∷ 2 ∷ 2778000 ∷ 1 ∷ 3 ∷ 2777300 ∷ 2 ∷ []) ∷
    row "means of zeros, and of three and four readings" (fresh list (replicate 12 0))
    (submit 1 first 21 1 (minus 0) returns 1 ∷ submit 2 first 14 1 (minus 0) returns 2 ∷ submit 3 first 7 1 (minus 0) returns 3
    ∷ submit 4 first 0 1 (minus 4) returns 4
    ∷ evaluate 28 1 1 gives 2 rounds (0 ∷ 0 ∷ 0 ∷ 0 ∷ 0 ∷ 6 ∷ 1 ∷ 6 ∷ 7 ∷ []) ∷ evaluate 28 1 2 gives 2 rounds (0 ∷ 0 ∷ 0 ∷ 0 ∷ 0 ∷ 6 ∷ 2 ∷ 6 ∷ 7 ∷ [])
    ∷ evaluate 28 1 3 gives 2 rounds (0 ∷ 0 ∷ 0 ∷ 0 ∷ 0 ∷ 6 ∷ 3 ∷ 6 ∷ 7 ∷ []) ∷ evaluate 28 1 4 gives 2 rounds (0 ∷ 0 ∷ 1 ∷ 0 ∷ 0 ∷ 6 ∷ 4 ∷ 6 ∷ 7 ∷ [])
    ∷ [])
    (4 ∷ 0 ∷ 0 ∷ 4 ∷ []) (1 ∷ 2778000 ∷ 0 ∷ 2 ∷ 2777300 ∷ 0 ∷ 3 ∷ 2776600 ∷ 0 ∷ 4 ∷ 2775900 ∷ 4 ∷ []) ∷
    row "7, 14, 21 and 28 days before, each alone" (fresh list (replicate 12 0))
    (submit 1 producer 21 1 (plus 11) returns 1 ∷ submit 2 producer 14 2 (plus 22) returns 2 ∷ submit 3 producer 7 3 (plus 33) returns 3
    ∷ submit 4 producer 0 4 (plus 44) returns 4
    ∷ evaluate 28 1 4 gives 2 rounds (0 ∷ 0 ∷ 0 ∷ 0 ∷ 11 ∷ 1 ∷ 6 ∷ 6 ∷ 7 ∷ []) ∷ evaluate 28 2 4 gives 2 rounds (0 ∷ 0 ∷ 0 ∷ 0 ∷ 22 ∷ 1 ∷ 6 ∷ 6 ∷ 7 ∷ [])
    ∷ evaluate 28 3 4 gives 2 rounds (0 ∷ 0 ∷ 0 ∷ 0 ∷ 33 ∷ 1 ∷ 6 ∷ 6 ∷ 7 ∷ []) ∷ evaluate 28 4 4 gives 2 rounds (0 ∷ 0 ∷ 0 ∷ 0 ∷ 44 ∷ 1 ∷ 6 ∷ 6 ∷ 7 ∷ [])
    ∷ evaluate 28 5 4 gives 2 rounds (0 ∷ 0 ∷ 0 ∷ 0 ∷ 0 ∷ 6 ∷ 6 ∷ 6 ∷ 7 ∷ []) ∷ [])
    (4 ∷ 0 ∷ 0 ∷ 4 ∷ []) (1 ∷ 2100 ∷ 11 ∷ 2 ∷ 1401 ∷ 22 ∷ 3 ∷ 702 ∷ 33 ∷ 4 ∷ 3 ∷ 44 ∷ []) ∷
    status_row "status 1" 1 ∷ status_row "status 2" 2 ∷ status_row "status 3" 3 ∷
    row "each point by its own status" (fresh (group 0 1 1 6000) (replicate 9 0))
    (submit 1 producer 28 1 (plus 1000) returns 1 ∷ submit 2 first 21 1 (minus 1) returns 2 ∷ submit 3 second 21 1 (minus 3) returns 3
    ∷ evaluate 28 1 3 gives 2 rounds (0 ∷ 3 ∷ 0 ∷ 0 ∷ 997 ∷ 0 ∷ 5 ∷ 1 ∷ 7 ∷ []) ∷ [])
    (3 ∷ 0 ∷ 0 ∷ 3 ∷ []) (1 ∷ 2800 ∷ 1000 ∷ 2 ∷ 2778000 ∷ 1 ∷ 3 ∷ 5553900 ∷ 3 ∷ []) ∷
    row "28 days before but not 1, not 35, and no other quarter" (fresh list (replicate 12 0))
    (submit 1 producer 28 2 (plus 1000) returns 1 ∷ submit 2 first 27 2 (minus 5) returns 2 ∷ submit 3 first 28 1 (minus 5) returns 3
    ∷ submit 4 first 0 2 (minus 9) returns 4
    ∷ evaluate 28 2 3 gives 2 rounds (0 ∷ 0 ∷ 0 ∷ 0 ∷ 1000 ∷ 0 ∷ 6 ∷ 6 ∷ 7 ∷ []) ∷ evaluate 28 2 4 gives 2 rounds (9 ∷ 0 ∷ 0 ∷ 0 ∷ 991 ∷ 0 ∷ 1 ∷ 6 ∷ 7 ∷ [])
    ∷ evaluate 35 2 4 gives 2 rounds (0 ∷ 0 ∷ 0 ∷ 0 ∷ 1000 ∷ 1 ∷ 6 ∷ 6 ∷ 7 ∷ []) ∷ [])
    (4 ∷ 0 ∷ 0 ∷ 4 ∷ []) (1 ∷ 2801 ∷ 1000 ∷ 2 ∷ 2778601 ∷ 5 ∷ 3 ∷ 2778700 ∷ 5 ∷ 4 ∷ 2775901 ∷ 9 ∷ []) ∷
    row "a result list too short, and one just long enough" (fresh list (replicate 3 0))
    (submit 1 producer 1 1 (plus 5) returns 1 ∷ Evaluation 1 1 1 (replicate 7 7) refused 16 ∷ Evaluation 1 1 1 (replicate 5 7) refused 16
    ∷ Evaluation 1 1 1 [] refused 16 ∷ Evaluation 1 1 1 (replicate 8 7) gives 2 rounds (0 ∷ 0 ∷ 0 ∷ 0 ∷ 5 ∷ 0 ∷ 6 ∷ 6 ∷ []) ∷ [])
    (1 ∷ 0 ∷ 0 ∷ 1 ∷ []) (1 ∷ 100 ∷ 5 ∷ []) ∷ []

-- damaged records and journals beside undamaged ones
unfoldable damages : List Row
damages =
    row "undamaged: each call is accepted" (held list 5 3 10 2 (4 ∷ 1000 ∷ 100 ∷ 5 ∷ 2776900 ∷ 100 ∷ 0 ∷ 0 ∷ 0 ∷ []))
    (submit 6 first 20 1 (minus 1) returns 6 ∷ evaluate 38 1 5 gives 2 rounds (64 ∷ 0 ∷ 36 ∷ 0 ∷ 36 ∷ 1 ∷ 1 ∷ 6 ∷ 7 ∷ []) ∷ clear 20 5 returns 2 ∷ [])
    (6 ∷ 5 ∷ 20 ∷ 1 ∷ []) (6 ∷ 2777900 ∷ 1 ∷ 0 ∷ 0 ∷ 0 ∷ 0 ∷ 0 ∷ 0 ∷ []) ∷
    row "undamaged: the greatest numbers" (held list 999999999999 999999999999 27758 1 (999999999999 ∷ 8327695 ∷ 99999999 ∷ []))
    (clear 27758 999999999999 returns 0 ∷ [])
    (999999999999 ∷ 999999999999 ∷ 27758 ∷ 1 ∷ []) (999999999999 ∷ 8327695 ∷ 99999999 ∷ []) ∷
    row "the zero record: 15 is the first refusal of each call" (record { service = zero_service; journal = replicate 3 0 })
    (submit 1 stranger 1 97 (minus 1) refused 15 ∷ clear 27759 1 refused 15 ∷ evaluate 1 97 1 refused 15 ∷ [])
    (0 ∷ 0 ∷ 0 ∷ 0 ∷ []) (0 ∷ 0 ∷ 0 ∷ []) ∷
    damaged_row "keys of a producer above 10000" (fresh (group 0 1 0 6001) (replicate 3 0)) ∷
    damaged_row "iteration 2" (fresh (group 0 2 0 6000) (replicate 3 0)) ∷
    damaged_row "status 4" (fresh (group 0 1 4 6000) (replicate 3 0)) ∷
    damaged_row "P above the last stamp" (held list 5 6 10 1 (4 ∷ 1000 ∷ 100 ∷ [])) ∷
    damaged_row "last stamp 1000000000000" (held list 1000000000000 3 10 1 (4 ∷ 1000 ∷ 100 ∷ [])) ∷
    damaged_row "K 27759" (held list 5 3 27759 0 (0 ∷ 0 ∷ 0 ∷ [])) ∷
    damaged_row "two entries in 5 numbers" (held list 5 3 10 2 (4 ∷ 1000 ∷ 100 ∷ 5 ∷ 2776900 ∷ [])) ∷
    damaged_row "equal stamps" (held list 5 3 10 2 (4 ∷ 1000 ∷ 100 ∷ 4 ∷ 2776900 ∷ 100 ∷ [])) ∷
    damaged_row "falling stamps" (held list 5 3 10 2 (5 ∷ 1000 ∷ 100 ∷ 4 ∷ 2776900 ∷ 100 ∷ [])) ∷
    damaged_row "stamp 0" (held list 5 3 10 1 (0 ∷ 1000 ∷ 100 ∷ [])) ∷
    damaged_row "a stamp above the last" (held list 5 3 10 1 (6 ∷ 1000 ∷ 100 ∷ [])) ∷
    damaged_row "point 3" (held list 5 3 10 1 (4 ∷ 8328700 ∷ 100 ∷ [])) ∷
    damaged_row "day 27759 of the last point, which is day 0 of a point that there is not" (held list 5 3 0 1 (4 ∷ 8327700 ∷ 100 ∷ [])) ∷
    damaged_row "a day below K" (held list 5 3 11 1 (4 ∷ 1000 ∷ 100 ∷ [])) ∷
    damaged_row "quarter 97 of day 1" (held list 5 3 0 1 (4 ∷ 196 ∷ 100 ∷ [])) ∷
    damaged_row "quarter 100 of day 1" (held list 5 3 0 1 (4 ∷ 199 ∷ 100 ∷ [])) ∷
    damaged_row "quarter 93 of day 90" (held list 5 3 10 1 (4 ∷ 9092 ∷ 100 ∷ [])) ∷
    damaged_row "magnitude 100000000" (held list 5 3 10 1 (4 ∷ 1000 ∷ 100000000 ∷ [])) ∷
    damaged_row "magnitude 100000000 of the second entry" (held list 5 3 10 2 (4 ∷ 1000 ∷ 100 ∷ 5 ∷ 2776900 ∷ 100000000 ∷ [])) ∷ []

-- what is seen of a call is what its line says
abbrev agrees : Line → Seen → Bool
agrees line seen = eqb (answer_of seen.verdict) line.answer && eqb seen.number line.number && same seen.result line.result

-- the same of each call of a list
unfoldable agree : List Line → List Seen → Bool
agree [] [] = true
agree [] (seen ∷ rest) = false
agree (line ∷ lines) [] = false
agree (line ∷ lines) (seen ∷ rest) = agrees line seen && agree lines rest

-- each call gets record and journal as the one before left them, and agrees with its line; at the end record and journal have these numbers
unfoldable follow : Service → List ℕ → List Line → (state journal : List ℕ) → Bool
follow s j [] state journal = same (state_numbers s.state) state && same j journal
follow s j (line ∷ lines) state journal =
    let left = call_on s j line.call in
    agrees line left.seen && follow left.service left.journal lines state journal

-- every row of a list is right
unfoldable right : List Row → Bool
right [] = true
right (w ∷ ws) = follow w.start.service w.start.journal w.lines w.state w.journal && right ws

-- case LIST as demand 3 sees its calls
abbrev list_seen : List Seen
list_seen = seen_of list (replicate 9 0) (map (λ line. line.call) list_lines)

-- every row is right
cases : agree list_lines list_seen && right (listed ++ submissions ++ clears ++ evaluations ++ damages) ≡ true
unfolding agree follow right list_lines listed submissions clears evaluations damages group same joined every sum_below differ placed year_length month_length days_before_year days_before_month last_up_to year_of last_sunday quarters_of quarter_exists refuse◌if◌else◌ is_code weighted pairs_right is_damaged empty left_at rounds_of round_of after_rounds allocation_of sum_of nearest weaker shown keep entries flat written entry_right entries_right start_after first_up_to first_at earlier existing looked_up result_from evaluation_of index_of damaged submission_verdict clear_verdict earliest evaluation_verdict submitted cleared evaluated step call_on run
cases = refl
