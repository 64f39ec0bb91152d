-- `encode_long`: the part that is lent has 160 bytes. Assumes nothing.
use native.Mathlib.Omega.{arith}
use Rattle.lists.proofs.ByteStrings.{count_take}
use Rattle.fscrypt.proofs.encode.encode_long.Goals as goal

pub slice_bounds-put_letters-end : goal.slice_bounds-put_letters-end
slice_bounds-put_letters-end c = count_take 160 c.args.s.now (omega arith)
