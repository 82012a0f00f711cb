-- What the loop of `registration::Registration::keys_right` keeps. Assumes nothing.
use Prim.Native.Nat.{◌≤◌}
use mathlib.Core.Path.{◌≡◌}
use lib.ListN.{length, drop}
use Rattle.registration.specs.Rules.{pair_places}
use Rattle.registration.proofs.Keys.{Summed}
use Rattle.registration.proofs.Registration.keys_right.Given as goal

abbrev pub invariant-loop-source : goal.invariant-loop-source
invariant-loop-source l = record {
  sources : l.source-iterator.a.rest.now ≡ drop (length l.yielded) l.self.sources;
  keys : l.source-iterator.b.rest.now ≡ drop (length l.yielded) l.self.keys;
  within : length l.yielded ≤ pair_places;
  summed : Summed l.self.sources l.self.keys l.sums (length l.yielded);
}
