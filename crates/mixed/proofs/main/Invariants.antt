-- `main`: of two requests a turn at most two are done. Assumes nothing.
use Prim.Native.Nat.{◌≤◌, ◌*◌}
use Rattle.mixed.proofs.main.Given as goal

abbrev pub invariant-loop-i : goal.invariant-loop-i
invariant-loop-i l = l.done ≤ 2 * l.i
