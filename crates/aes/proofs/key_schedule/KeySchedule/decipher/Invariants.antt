-- InvCipher: rounds i - 1 to 1 are left. Assumes nothing.
use Prim.Native.Nat.{◌-◌}
use mathlib.Core.Path.{◌≡◌}
use Rattle.aes.specs.Cipher.{inv_rounds}
use Rattle.aes.proofs.key_schedule.KeySchedule.decipher.Given as goal

abbrev pub invariant-loop-i : goal.invariant-loop-i
invariant-loop-i l = inv_rounds l.self.bytes (l.i - 1) l.t ≡ inv_rounds l.self.bytes (l.self.rounds - 1) l.initial.t
