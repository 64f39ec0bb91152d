-- `walk`: the goals that the search leaves, from the invariant of Invariants.antt. Assumes nothing.
use native.Mathlib.Omega.{arith}
use mathlib.Core.Path.{◌≡◌}
use Prim.Native.Nat.{◌/◌}
use lib.ListN.{length}
use Rattle.modes.proofs.BlockLoop.{going_start, going_turn}
use Rattle.modes.proofs.walk.walk.Goals as goal

pub loop-i-init : goal.loop-i-init
loop-i-init g c = λ step next steps. going_start _ _ _ _

pub loop-i-preserved : goal.loop-i-preserved
loop-i-preserved g c =
    λ step next steps.
    let made = steps _ _ _ _ c.mode.ensures in
    going_turn _ _ _ _ _ _ _ _ _ _ _ (c.loop-i.invariant step next steps) c.load.ensures made.0 c.store.ensures made.1

pub returns : goal.returns
returns g c =
    λ step next steps.
    let e : c.loop-i.i ≡ length c.args.l.now / 16 = omega arith in
    rw (← e) (c.loop-i.invariant step next steps)
