-- `put_letters`: the first j letters stand in the buffer. Assumes nothing.
use Rattle.std.proofs.Common.{◌≡◌, ◌<◌, ℕ, get_or}
use Rattle.fscrypt.specs.Encoded.{letters}
use Rattle.fscrypt.proofs.encode.put_letters.Given as goal

abbrev pub invariant-loop-j : goal.invariant-loop-j
invariant-loop-j l = (k : ℕ) → k < l.j → get_or l.out k 0 ≡ get_or (letters l.s) k 0
