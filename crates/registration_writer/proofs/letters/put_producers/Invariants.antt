-- What the loop of `registration_writer::letters::put_producers` keeps: the D lines passed have been put. Assumes nothing.
use Prim.Native.Nat.{◌≤◌}
use mathlib.Core.Path.{◌≡◌}
use lib.ListN.{length, take, drop}
use Rattle.lists.specs.Pages.{Added}
use Rattle.lists.specs.Tables.{joined}
use Rattle.registration_text.specs.Lines.{line_d}
use Rattle.registration_writer.proofs.letters.put_producers.Given as goal

abbrev pub invariant-loop-code : goal.invariant-loop-code
invariant-loop-code l = record {
  codes : l.code-iterator.a.rest.now ≡ drop (length l.yielded) (take l.registration.producers l.registration.codes);
  statuses : l.code-iterator.b.rest.now ≡ drop (length l.yielded) l.registration.statuses;
  within : length l.yielded ≤ l.registration.producers;
  put : Added (joined (line_d l.registration) (length l.yielded)) l.initial.page l.page;
}
