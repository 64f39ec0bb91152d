-- `say_bytes`: `ok`, and the digits. Assumes nothing.
use native.Mathlib.Omega.{arith}
use Rattle.script.proofs.Hex.{to_hex_length}
use Rattle.lines.proofs.Texts.{then_written}
use Rattle.lines.proofs.answers.say_bytes.Goals as goal

pub returns : goal.returns
returns c = then_written c.start.ensures c.put_hex.ensures (omega (arith, to_hex_length c.args.s.now))
