-- `climb` is `climb_from`. The loop's invariant: the climb from the start is the climb from here with the steps that are left.
-- The measure is the steps that are left. Assumes nothing.
use mathlib.Core.Path.{◌≡◌}
use Prim.Native.Nat.{◌≤◌}
use Rattle.volume.specs.Volume.{inode_slots}
use Rattle.volume.specs.Lookup.{climb_from}
use Rattle.lookup.proofs.climb.climb.Given as goal

abbrev pub invariant-loop-moved : goal.invariant-loop-moved
invariant-loop-moved l = (l.left ≤ inode_slots) × (climb_from l.v l.moved inode_slots l.initial.at ≡ climb_from l.v l.moved l.left l.at)

abbrev pub decreases-loop-moved : goal.decreases-loop-moved
decreases-loop-moved l = l.left
