-- `answer_line`: buffers without room are handed back; else as many bytes of `payload` as the line has are lent on, and come back as zeros. Assumes nothing.
use mathlib.Core.Path.{sym, ◌∙◌, ap}
use Rattle.lists.specs.Bytes.{zeros}
use borrow.Author.Rules.{rules}
use Rattle.lines.proofs.Room.{no_room, done_in}
use Rattle.lines.proofs.answer_line.Goals as goal

pub returns-then-not-has_room-clause-outcome : goal.returns-then-not-has_room-clause-outcome
returns-then-not-has_room-clause-outcome c =
    let s = c.args in
    no_room s.v s.line.now s.payload.now s.out.now (sym c.has_room.ensures ∙ c.if-not-has_room.true)

pub returns-clause-outcome : goal.returns-clause-outcome
unfolding zeros
returns-clause-outcome c =
    let s = c.args in
    done_in s.v s.line.now s.payload.now (sym c.has_room.ensures ∙ c.if-not-has_room.false) c.reply-volume.ensures (search rules)
    (c.fill.ensures.after (λ y h. h) ∙ ap zeros c.reply-volume.auto.payload)
