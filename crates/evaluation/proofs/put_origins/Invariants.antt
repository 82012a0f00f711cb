-- What the loop of `evaluation::put_origins` keeps. Assumes nothing.
use lib.ListN.{take}
use Rattle.lists.specs.Pages.{Added}
use Rattle.evaluation.specs.Working.{origins_of}
use Rattle.evaluation.proofs.put_origins.Given as goal

abbrev pub invariant-loop-value : goal.invariant-loop-value
invariant-loop-value l = Added (origins_of (take l.value-index l.values)) l.initial.page l.page
