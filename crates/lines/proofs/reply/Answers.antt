-- `reply`: nothing, or the answer and a newline. Assumes nothing.
use native.Mathlib.Omega.{arith}
use mathlib.Core.Path.{refl, sym, ◌∙◌, ap}
use lib.ListN.{length}
use Rattle.lines.specs.Lines.{commanded}
use Rattle.lines.proofs.Answering.{without_return_length, skips, answers, then_ended}
use Rattle.lines.proofs.reply.Goals as goal

pub returns-then-is_skipped : goal.returns-then-is_skipped
returns-then-is_skipped c =
    let l = c.without_return-line in
    rw (skips c.args.v c.args.line.now _ l.ensures (sym c.is_skipped.ensures ∙ c.if-is_skipped.true)) (record { volume = refl; buffer = refl; len = c.requires.0; out = refl; room = omega arith })

pub command-after-requires : goal.command-after-requires
command-after-requires c = omega (arith, ap length c.without_return-line.ensures, without_return_length c.args.line.now)

pub returns : goal.returns
returns c =
    let s = c.args in
    let l = c.without_return-line in
    rw (answers s.v s.line.now _ l.ensures (sym c.is_skipped.ensures ∙ c.if-is_skipped.false))
    (then_ended s.text.now _ _ _ (commanded s.v l.result.now) c.command-after.ensures c.put.ensures)
