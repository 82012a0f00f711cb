-- The case table holds: what program `share` writes is computed from the definitions, in every row at once. Assumes nothing.
use mathlib.Core.Path.{refl}
use Rattle.answers.specs.Order.{refuse◌if◌else◌}
use Rattle.lists.specs.Below.{every, sum_below, differ}
use Rattle.lists.specs.Tables.{joined}
use Rattle.lists.specs.Place.{placed}
use Rattle.calendar.specs.Civil.{year_length, month_length, days_before_year, days_before_month, last_up_to}
use Rattle.calendar.specs.Dates.{day_of, year_of}
use Rattle.calendar.specs.Quarters.{last_sunday, quarters_of, quarter_exists}
use Rattle.columns.specs.Column.{column_of, lead_of, value_from, number_in, signed_in}
use Rattle.columns.specs.Fields.{numbers_in, columns_of}
use Rattle.lines.specs.Line.{first_line, after_line}
use Rattle.lines.specs.Lines.{line_in}
use Rattle.wall_clock.specs.Starts.{start_after, first_up_to, first_at}
use Rattle.registration.specs.Code.{is_code, weighted}
use Rattle.registration.specs.Rules.{pairs_right}
use Rattle.registration.specs.Damage.{is_damaged, empty}
use Rattle.registration_text.specs.Lines.{widths_of_pairs}
use Rattle.registration_text.specs.Reader.{read_text, read_g, read_d, read_o, fixed_in, rest_in, verdict_g, verdict_d, verdict_o, verdict_of_all, with_point, with_count, with_pair, with_pairs}
use Rattle.points.specs.Points.{index_of}
use Rattle.journal.specs.Order.{weaker}
use Rattle.journal.specs.Readings.{shown}
use Rattle.journal.specs.Entries.{keep}
use Rattle.journal.specs.Stored.{entries, flat, written}
use Rattle.journal.specs.Damage.{entry_right, entries_right}
use Rattle.allocation.specs.Rounds.{rounds_of, left_at, round_of, after_rounds}
use Rattle.allocation.specs.Result.{allocation_of}
use Rattle.lookup.specs.Mean.{sum_of, nearest}
use Rattle.lookup.specs.Earlier.{earlier}
use Rattle.lookup.specs.Substitutes.{existing, looked_up}
use Rattle.evaluation.specs.Evaluation.{result_from, evaluation_of}
use Rattle.group.specs.Refusals.{damaged, submission_verdict, clear_verdict, earliest, evaluation_verdict}
use Rattle.service.specs.Calls.{submitted, cleared, evaluated, step}
use Rattle.service.specs.Record.{call_on}
use Rattle.event_reader.specs.Events.{submission_in, clear_in, evaluation_in, event_in}
use Rattle.event_writer.specs.Answers.{lines_of_consumer, lines_s, lines_of_points, lines_of_result}
use Rattle.event_calls.specs.Replies.{reply_to}
use Rattle.event_text.specs.Share.{lines_of, registration_in, events_in, answers_to, opening_of, share}
use Rattle.case_table.specs.Table.{bytes, text, TableHolds}

pub table_holds : TableHolds
unfolding bytes text refuse◌if◌else◌ every sum_below differ joined placed year_length month_length days_before_year days_before_month last_up_to day_of year_of last_sunday quarters_of quarter_exists column_of lead_of value_from number_in signed_in numbers_in columns_of first_line after_line line_in is_code weighted pairs_right is_damaged empty widths_of_pairs read_text read_g read_d read_o fixed_in rest_in verdict_g verdict_d verdict_o verdict_of_all with_point with_count with_pair with_pairs index_of weaker shown keep entries flat written entry_right entries_right rounds_of left_at round_of after_rounds allocation_of sum_of nearest start_after first_up_to first_at earlier existing looked_up result_from evaluation_of damaged submission_verdict clear_verdict earliest evaluation_verdict submitted cleared evaluated step call_on submission_in clear_in evaluation_in event_in lines_of_consumer lines_s lines_of_points lines_of_result reply_to lines_of registration_in events_in answers_to opening_of share
table_holds = refl
