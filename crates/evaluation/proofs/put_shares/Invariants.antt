-- What the loop of `evaluation::put_shares` keeps. Assumes nothing.
use Prim.Native.Nat.{ℕ, ◌≤◌}
use mathlib.Core.Path.{◌≡◌}
use mathlib.Core.List.{List}
use lib.ListN.{length, get_or, take, drop}
use Rattle.lists.specs.Tables.{joined, table}
use Rattle.lists.specs.Pages.{Added}
use Rattle.registration.specs.Rules.{place_at}
use Rattle.std.specs.Simd.{first_chunks}
use Rattle.evaluation.proofs.put_shares.Given as goal

-- the piece of a turn: a consumer's shares
abbrev pub shares_of : (shares counts : List ℕ) → ℕ → List ℕ
shares_of shares counts consumer = table (place_at shares consumer) (get_or counts consumer 0)

abbrev pub invariant-loop-row : goal.invariant-loop-row
invariant-loop-row l = record {
  rows : l.row-iterator.a.rest.now ≡ drop (length l.yielded) (first_chunks 5 64 l.shares);
  counts : l.row-iterator.b.rest.now ≡ drop (length l.yielded) (take l.registration.consumers l.registration.counts);
  within : length l.yielded ≤ l.registration.consumers;
  put : Added (joined (shares_of l.shares l.registration.counts) (length l.yielded)) l.initial.page l.page;
}
