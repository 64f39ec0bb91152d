-- `write_bytes` stays within its text: there are two digits for each byte of a part. Assumes nothing.
use native.Mathlib.Omega.{arith}
use lib.ListN.{length-take}
use Rattle.script.proofs.Hex.{to_hex_length}
use Rattle.vectors.proofs.answers.write_bytes.Goals as goal

pub slice_bounds-text-end : goal.slice_bounds-text-end
slice_bounds-text-end g c = omega (arith, to_hex_length c.split_at.result.0.now)

pub slice_bounds-write_all-end-in-loop-rest : goal.slice_bounds-write_all-end-in-loop-rest
slice_bounds-write_all-end-in-loop-rest g c = simp length-take (omega (arith, to_hex_length c.split_at.result.0.now))
