-- `registration_reader::read` meets its contract: stage by stage, by `Whole.antt`. Assumes nothing.
use Prim.Native.Nat.{◌+◌, ◌≤◌}
use mathlib.Core.Path.{◌≡◌, sym, ◌∙◌}
use native.Mathlib.Omega.{arith}
use Rattle.registration_text.specs.Reader.{read_g}
use Rattle.registration_text.proofs.Going.{going}
use Rattle.registration_reader.proofs.Stages.{reading_ends, reading_stops, reading_goes}
use Rattle.registration_reader.proofs.Whole.{exits, group_stops, group_goes, group_within, stops_first, stops_second, stops_third, stops_last, goes_on}
use Rattle.registration_reader.proofs.read.Goals as goal
use Rattle.registration_reader.proofs.read.Goals.{In_ok-registration}

-- the G line is accepted: its counts are within bounds, and the reading goes on after it
within : (c : In_ok-registration) → let r = c.in_ok-registration.registration in r.producers + r.consumers ≤ 64
within c = group_within c.args.text.now _ (rw c.split_line.ensures.line at (sym c.read_group.ensures ∙ c.in_ok-registration.was))

begun : (c : In_ok-registration) → read_g c.args.text.now ≡ going c.in_ok-registration.registration c.split_line.result.1.now
begun c =
    rw c.split_line.ensures.rest (group_goes c.args.text.now _ (rw c.split_line.ensures.line at (sym c.read_group.ensures ∙ c.in_ok-registration.was)))

pub returns-in_err-registration : goal.returns-in_err-registration
returns-in_err-registration c =
    exits _ _ _ c.from_residual.ensures.1
    (stops_first c.args.text.now _ (group_stops c.args.text.now _ (rw c.split_line.ensures.line at (sym c.read_group.ensures ∙ c.in_err-registration.was))))

pub read_producer-requires : goal.read_producer-requires
read_producer-requires c = omega (arith, within (goal.at.read_producer-requires c).In_ok-registration)

pub returns-in_err-read_producer : goal.returns-in_err-read_producer
returns-in_err-read_producer c =
    let e = rw c.split_line-in-loop-producer.ensures.line at (sym c.read_producer.ensures.verdict ∙ c.in_err-read_producer.was) in
    exits _ _ _ c.from_residual-in_err-read_producer.ensures.1
    (stops_second c.args.text.now _ _ (begun (goal.at.returns-in_err-read_producer c).In_ok-registration) _
    (reading_stops c.loop-producer.invariant c.loop-producer-test.true _ e))

pub loop-producer-preserved : goal.loop-producer-preserved
loop-producer-preserved c =
    let line = c.split_line-in-loop-producer.ensures.line in
    rw c.split_line-in-loop-producer.ensures.rest
    (reading_goes c.loop-producer.invariant c.loop-producer-test.true _
    (rw line at (sym c.read_producer.ensures.verdict ∙ c.in_ok-read_producer.was)) (rw line at c.in_ok-read_producer.ensures.stored))

pub read_consumer-requires : goal.read_consumer-requires
read_consumer-requires c = omega (arith, within (goal.at.read_consumer-requires c).In_ok-registration)

pub returns-in_err-read_consumer : goal.returns-in_err-read_consumer
returns-in_err-read_consumer c =
    let e = rw c.split_line-in-loop-consumer.ensures.line at (sym c.read_consumer.ensures.verdict ∙ c.in_err-read_consumer.was) in
    exits _ _ _ c.from_residual-in_err-read_consumer.ensures.1
    (stops_third c.args.text.now _ _ (begun (goal.at.returns-in_err-read_consumer c).In_ok-registration) _ _
    (reading_ends c.loop-producer.invariant c.loop-producer-test.false) _
    (reading_stops c.loop-consumer.invariant c.loop-consumer-test.true _ e))

pub loop-consumer-preserved : goal.loop-consumer-preserved
loop-consumer-preserved c =
    let line = c.split_line-in-loop-consumer.ensures.line in
    rw c.split_line-in-loop-consumer.ensures.rest
    (reading_goes c.loop-consumer.invariant c.loop-consumer-test.true _
    (rw line at (sym c.read_consumer.ensures.verdict ∙ c.in_ok-read_consumer.was)) (rw line at c.in_ok-read_consumer.ensures.stored))

pub judge-requires : goal.judge-requires
judge-requires c = omega (arith, within (goal.at.judge-requires c).In_ok-registration)

pub returns-in_err-judge : goal.returns-in_err-judge
returns-in_err-judge c =
    exits _ _ _ c.from_residual-in_err-judge.ensures.1
    (stops_last c.args.text.now _ _ (begun (goal.at.returns-in_err-judge c).In_ok-registration) _ _
    (reading_ends c.loop-producer.invariant c.loop-producer-test.false) _ _
    (reading_ends c.loop-consumer.invariant c.loop-consumer-test.false) _ (sym c.judge.ensures ∙ c.in_err-judge.was))

pub returns : goal.returns
returns c =
    goes_on c.args.text.now _ _ (begun (goal.at.returns c).In_ok-registration) _ _
    (reading_ends c.loop-producer.invariant c.loop-producer-test.false) _ _
    (reading_ends c.loop-consumer.invariant c.loop-consumer-test.false) (sym c.judge.ensures ∙ c.in_ok-judge.was)
