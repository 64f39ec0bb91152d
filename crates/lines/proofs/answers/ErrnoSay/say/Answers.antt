-- `say` of a refusal: its number, and its name. Assumes nothing.
use native.Mathlib.Omega.{arith}
use lib.ListN.{length-append}
use Rattle.script.proofs.Digits.{decimal_length}
use Rattle.lines.specs.Answers.{answer_text, error_text}
use Rattle.lines.proofs.Texts.{then_adds, then_written}
use Rattle.lines.proofs.answers.ErrnoSay.say.Goals as goal

pub returns : goal.returns
unfolding answer_text error_text
returns c =
    let name = c.name in
    rw (← name.ensures.name, ← c.from.ensures, ← c.from-2.ensures)
    (then_written c.start.ensures (then_adds c.put_decimal.ensures (then_adds c.put.ensures c.put-2.ensures))
    (simp length-append (omega (arith, decimal_length c.from-2.result, name.ensures.short))))
