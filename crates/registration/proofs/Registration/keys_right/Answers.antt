-- `registration::Registration::keys_right` meets its contract: the loop adds up the keys by number, and the sums at the producers' numbers are looked at. Assumes nothing.
use native.Mathlib.Omega.{arith}
use Rattle.std.proofs.Common.{rules, ◌≡◌, ◌∙◌, sym, length}
use mathlib.Core.Path.{subst}
use mathlib.Core.Logic.{⊎_elim}
use Prim.Native.Nat.{◌+◌, ◌-◌}
use lib.ListN.{length-append}
use Rattle.registration.specs.Rules.{pair_places}
use Rattle.lists.proofs.Chains.{Taken, taken_one, taken_all}
use Rattle.registration.proofs.Keys.{Summed, summed_none, summed_turn, summed_unused, summed_within}
use Rattle.registration.proofs.Registration.keys_right.Goals as goal
use Rattle.registration.proofs.Registration.keys_right.Goals.{After-none_above}

pub loop-source-init : goal.loop-source-init
loop-source-init c = record { sources = search rules; keys = search rules; within = omega arith; summed = summed_none _ _ }

pub overflow_add-sums : goal.overflow_add-sums
overflow_add-sums c =
    let s : Taken c.args.self.now.sources c.next.new.self.a.rest.now (length c.loop-source.yielded) c.in-Some.source.now 0 =
    taken_one _ _ _ _ _ (sym c.in-Some.ensures.steps.0 ∙ c.loop-source.invariant.sources) in
    omega (arith, c.loop-source.invariant.summed.bound c.from-then-source-gt0.result (omega arith))

pub loop-source-preserved-then-source-gt0 : goal.loop-source-preserved-then-source-gt0
loop-source-preserved-then-source-gt0 c =
    let s : Taken c.args.self.now.sources c.next.new.self.a.rest.now (length c.loop-source.yielded) c.in-Some.source.now 0 =
    taken_one _ _ _ _ _ (sym c.in-Some.ensures.steps.0 ∙ c.loop-source.invariant.sources) in
    let k : Taken c.args.self.now.keys c.next.new.self.b.rest.now (length c.loop-source.yielded) c.in-Some.key.now 0 =
    taken_one _ _ _ _ _ (sym c.in-Some.ensures.steps.1 ∙ c.loop-source.invariant.keys) in
    rw length-append (record {
      sources = s.left;
      keys = k.left;
      within = omega arith;
      summed = summed_turn _ _ _ _ _ _ c.loop-source.invariant.summed (omega arith) (omega arith) (c.from-then-source-gt0.ensures ∙ s.here) (c.from.ensures ∙ k.here);
    })

-- a place that is not used is passed by
pub loop-source-preserved : goal.loop-source-preserved
loop-source-preserved c =
    let s : Taken c.args.self.now.sources c.next.new.self.a.rest.now (length c.loop-source.yielded) c.in-Some.source.now 0 =
    taken_one _ _ _ _ _ (sym c.in-Some.ensures.steps.0 ∙ c.loop-source.invariant.sources) in
    let k : Taken c.args.self.now.keys c.next.new.self.b.rest.now (length c.loop-source.yielded) c.in-Some.key.now 0 =
    taken_one _ _ _ _ _ (sym c.in-Some.ensures.steps.1 ∙ c.loop-source.invariant.keys) in
    rw length-append (record {
      sources = s.left;
      keys = k.left;
      within = omega arith;
      summed = summed_unused _ _ _ _ c.loop-source.invariant.summed (sym s.here ∙ omega arith);
    })

-- both lists have come to their end
places : (c : After-none_above) → length c.loop-source.yielded ≡ pair_places
places c =
    let at = c.loop-source.invariant in
    let sources : length c.args.self.now.sources ≡ 320 = search rules in
    let keys : length c.args.self.now.keys ≡ 320 = search rules in
    ⊎_elim
    (λ e. omega (arith, taken_all c.args.self.now.sources _ (length c.loop-source.yielded) at.sources e.1.0))
    (λ e. omega (arith, taken_all c.args.self.now.keys _ (length c.loop-source.yielded) at.keys e.1.0))
    c.in-None.ensures.steps

pub returns : goal.returns
returns c =
    let producers = c.args.self.now.producers in
    let p : producers + 1 - 1 ≡ producers = omega arith in
    c.none_above.ensures ∙ rw p (sym (summed_within _ _ _ producers 10000 (subst (Summed _ _ _) (places c) c.loop-source.invariant.summed) c.requires))
