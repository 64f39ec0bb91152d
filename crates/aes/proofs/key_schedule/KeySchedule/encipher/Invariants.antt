-- Cipher: where round i comes next, the rounds before it were done. Assumes nothing.
use Prim.Native.Nat.{◌-◌, ◌≤◌}
use mathlib.Core.Path.{◌≡◌}
use Rattle.aes.specs.Cipher.{rounds}
use Rattle.aes.proofs.key_schedule.KeySchedule.encipher.Given as goal

abbrev pub invariant-loop-i : goal.invariant-loop-i
invariant-loop-i l = (l.i - 1 ≤ l.self.rounds - 1) × (l.t ≡ rounds l.self.bytes (l.i - 1) l.initial.t)
