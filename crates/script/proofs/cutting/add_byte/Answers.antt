-- `add_byte`: a carriage return at the end of a full buffer becomes a full stop. The other ways the search finds by the same lemmas. Assumes nothing.
use Rattle.std.proofs.Common.{sym, ◌∙◌}
use Rattle.script.proofs.Keeping.{store_return}
use Rattle.script.proofs.cutting.add_byte.Goals as goal

pub returns-then-line-last-eq13 : goal.returns-then-line-last-eq13
returns-then-line-last-eq13 c =
    let a = c.args in
    (c.requires.0, store_return a.line.now a.used a.b c.if-used-line.false (sym c.is_blank.ensures ∙ c.if-is_blank.false) c.if-line-last-eq13.true)
