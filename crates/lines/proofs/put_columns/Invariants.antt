-- What the loop of `lines::put_columns` keeps: the columns so far have been put.
use mathlib.Core.Path.{◌≡◌}
use lib.ListN.{length, take, drop}
use Rattle.columns.specs.Fields.{columns_of}
use Rattle.lists.specs.Pages.{Added}
use Rattle.lines.proofs.put_columns.Given as goal

abbrev pub invariant-loop-width : goal.invariant-loop-width
invariant-loop-width g l = record {
  widths : l.width-iterator.a.rest.now ≡ drop (length l.yielded) l.widths;
  numbers : l.width-iterator.b.rest.now ≡ drop (length l.yielded) l.numbers;
  put : Added (columns_of (take (length l.yielded) l.widths) (take (length l.yielded) l.numbers)) l.initial.page l.page;
}
