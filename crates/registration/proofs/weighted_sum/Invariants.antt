-- What the loop of `registration::weighted_sum` keeps. Assumes nothing.
use Prim.Native.Nat.{◌+◌, ◌-◌, ◌*◌, ◌≤◌}
use mathlib.Core.Path.{◌≡◌}
use Rattle.registration.specs.Code.{weighted}
use Rattle.registration.proofs.weighted_sum.Given as goal

abbrev pub invariant-loop : goal.invariant-loop
invariant-loop l = record {
  least : 1 ≤ l.weight;
  most : l.weight ≤ 3;
  bound : l.sum + 27 * (17 - l.counter) ≤ 459;
  sum : l.sum + weighted (17 - l.counter) l.weight l.rest ≡ weighted 17 l.initial.weight l.number;
}
