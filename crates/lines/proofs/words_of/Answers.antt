-- `words_of`: the request's word, and its words. Assumes nothing.
use native.Mathlib.Omega.{arith}
use mathlib.Core.Path.{sym, ap}
use lib.ListN.{length}
use Rattle.script.proofs.Lines.{after_word_length}
use Rattle.lines.proofs.Answering.{overlong, words_are}
use Rattle.lines.proofs.words_of.Goals as goal

pub returns-then-line-gt-LINE_LIMIT : goal.returns-then-line-gt-LINE_LIMIT
returns-then-line-gt-LINE_LIMIT c = sym (overlong c.args.line.now c.if-line-gt-LINE_LIMIT.true)

pub read_words-requires : goal.read_words-requires
read_words-requires c = omega (arith, ap length c.split.ensures.rest, after_word_length c.args.line.now)

pub returns-in_err-verb : goal.returns-in_err-verb
returns-in_err-verb c =
    let split = c.split.ensures in
    rw (← words_are c.args.line.now c.if-line-gt-LINE_LIMIT.false _ _ split.word split.rest)
    (rw (← c.verb.ensures, c.in_err-verb.was, c.from_residual.ensures))

pub returns-in_err-a : goal.returns-in_err-a
returns-in_err-a c =
    let split = c.split.ensures in
    rw (← words_are c.args.line.now c.if-line-gt-LINE_LIMIT.false _ _ split.word split.rest)
    (rw (← c.verb.ensures, c.in_ok-verb.was, ← c.shape_of.ensures, ← c.read_words.ensures.read, c.in_err-a.was, c.from_residual-in_err-a.ensures))

pub returns : goal.returns
returns c =
    let split = c.split.ensures in
    rw (← words_are c.args.line.now c.if-line-gt-LINE_LIMIT.false _ _ split.word split.rest)
    (rw (← c.verb.ensures, c.in_ok-verb.was, ← c.shape_of.ensures, ← c.read_words.ensures.read, c.in_ok-a.was))
