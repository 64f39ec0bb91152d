-- `command`: the request that the words make, or the word for none. Assumes nothing.
use native.Mathlib.Omega.{arith}
use mathlib.Core.Path.{sym}
use lib.Seq.{length-take-le}
use Rattle.script.specs.Commands.{read_in}
use Rattle.lines.specs.Lines.{respond, commanded}
use Rattle.lines.proofs.Answering.{words_len}
use Rattle.lines.proofs.command.Goals as goal

pub slice_bounds-perform-end : goal.slice_bounds-perform-end
slice_bounds-perform-end c = omega (arith, words_len c.args.line.now (c.in-Some.verb, read_in c.words_of.new.payload c.in-Some.a) (sym c.in-Some.ensures), c.words_of.auto.payload)

pub slice_bounds-perform-end-in-Some : goal.slice_bounds-perform-end-in-Some
slice_bounds-perform-end-in-Some c =
    sym (length-take-le _ _ (omega (arith, words_len c.args.line.now (c.in-Some.verb, read_in c.words_of.new.payload c.in-Some.a) (sym c.in-Some.ensures), c.words_of.auto.payload)))

pub returns-in-Some : goal.returns-in-Some
unfolding commanded respond
returns-in-Some c = rw (← c.in-Some.ensures) c.perform.ensures

pub returns-in-None : goal.returns-in-None
unfolding commanded
returns-in-None c = rw (← c.in-None.ensures) c.malformed.ensures
