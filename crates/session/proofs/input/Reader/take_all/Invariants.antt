-- `take_all`: the session is one of what came. Assumes nothing.
use Rattle.session.specs.Input.{Begun}
use Rattle.session.proofs.input.Reader.take_all.Given as goal

abbrev pub invariant-loop : goal.invariant-loop
invariant-loop g l = Begun l.self
