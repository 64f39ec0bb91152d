-- The expanded key: after i turns the first i words stand at the start of w, and what follows is as it was. Assumes nothing.
use mathlib.Core.List.{◌++◌}
use Rattle.aes.specs.KeyExpansion.{expanded}
use Prim.Native.Nat.{◌*◌}
use mathlib.Core.Path.{◌≡◌}
use lib.ListN.{drop}
use Rattle.aes.proofs.key_expansion.key_expansion.Given as goal

abbrev pub invariant-loop-i : goal.invariant-loop-i
invariant-loop-i l = l.w ≡ expanded l.nk l.key l.i ++ drop (4 * l.i) l.initial.w
