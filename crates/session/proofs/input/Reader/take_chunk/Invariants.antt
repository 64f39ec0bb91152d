-- `take_chunk`: some bytes of the chunk have been taken, and the rest is left; each turn gets past a byte. Assumes nothing.
use mathlib.Core.Path.{◌≡◌}
use mathlib.Core.List.{◌++◌}
use lib.ListN.{length}
use Rattle.lists.specs.Bytes.{Bytes}
use Rattle.session.specs.Input.{Feeds}
use Rattle.session.proofs.input.Reader.take_chunk.Given as goal

abbrev pub invariant-loop-rest : goal.invariant-loop-rest
invariant-loop-rest g l = (done : Bytes) × (l.chunk ≡ done ++ l.rest) × Feeds l.initial.self done l.self

abbrev pub decreases-loop-rest : goal.decreases-loop-rest
decreases-loop-rest g l = length l.rest
