-- What the loops of `registration_reader::read` keep: so many lines have been read. Assumes nothing.
use Rattle.registration_reader.proofs.Stages.{Reading, producer_lines, consumer_lines}
use Rattle.registration_reader.proofs.read.Given as goal

abbrev pub invariant-loop-producer : goal.invariant-loop-producer
invariant-loop-producer l = Reading producer_lines l.producer-end l.initial.registration l.initial.rest l.registration l.rest l.producer

abbrev pub invariant-loop-consumer : goal.invariant-loop-consumer
invariant-loop-consumer l = Reading consumer_lines l.consumer-end l.initial.registration l.initial.rest l.registration l.rest l.consumer
