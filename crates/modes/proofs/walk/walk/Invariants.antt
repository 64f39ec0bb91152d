-- `walk` meets its contract: by the invariant of its loop, which is the contract's own `Going` on the way. Assumes nothing.
use Rattle.aes.specs.declared.State.{State}
use Rattle.modes.specs.Walk.{Steps, Going}
use Rattle.modes.proofs.walk.walk.Given as goal

abbrev pub invariant-loop-i : goal.invariant-loop-i
invariant-loop-i g l =
    (step : State → State → State) (next : State → State → State → State) → Steps (goal.F-post g l.mode) step next → Going step next l.initial.l l.initial.carried l.i l.l l.carried
