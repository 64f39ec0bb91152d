-- `say` of an entry's number: `ok`, and the number. Assumes nothing.
use native.Mathlib.Omega.{arith}
use Rattle.script.proofs.Digits.{decimal_length}
use Rattle.lines.specs.Answers.{answer_text}
use Rattle.lines.proofs.Texts.{then_written}
use Rattle.lines.proofs.answers.EntryNumberSay.say.Goals as goal

pub returns : goal.returns
unfolding answer_text
returns c = then_written c.start.ensures c.put_decimal.ensures (omega (arith, decimal_length c.args.self.now.0))
