-- `take_chunk`: each turn takes a byte or more of those that are left. Assumes nothing.
use lib.ListN.{length}
use Rattle.vectors.proofs.input.Line.take_chunk.Given as goal

abbrev pub invariant-loop-rest : goal.invariant-loop-rest
invariant-loop-rest g l = Unit {0}

abbrev pub decreases-loop-rest : goal.decreases-loop-rest
decreases-loop-rest g l = length l.rest
