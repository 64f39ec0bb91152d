-- `say` of what create made: `ok`, and two numbers. Assumes nothing.
use native.Mathlib.Omega.{arith}
use lib.ListN.{length-append}
use Rattle.script.proofs.Digits.{decimal_length}
use Rattle.lines.specs.Answers.{answer_text}
use Rattle.lines.proofs.Texts.{then_adds, then_written}
use Rattle.lines.proofs.answers.CreatedSay.say.Goals as goal

pub returns : goal.returns
unfolding answer_text
returns c =
    let made = c.args.self.now in
    then_written c.start.ensures (then_adds c.put_decimal.ensures (then_adds c.put.ensures c.put_decimal-2.ensures))
    (simp length-append (omega (arith, decimal_length made.inode.0, decimal_length made.entry.0)))
