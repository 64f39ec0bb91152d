-- `put_name`: `=` and the bytes, or the digits. Assumes nothing.
use Rattle.std.proofs.Common.{[], ◌∷◌, sym, ◌∙◌}
use Rattle.script.proofs.Hex.{name_plain, name_hex}
use Rattle.script.proofs.Stores.{then_sets}
use Rattle.script.proofs.output.put_name.Goals as goal

pub returns-then-is_all_graphic : goal.returns-then-is_all_graphic
returns-then-is_all_graphic c =
    let s = c.args in
    rw (← name_plain _ (sym c.is_all_graphic.ensures ∙ c.if-is_all_graphic.true)) (then_sets s.out.now s.at (61 ∷ []) s.s.now c.put_byte-next.ensures c.put.ensures)

pub returns-else-is_all_graphic : goal.returns-else-is_all_graphic
returns-else-is_all_graphic c = rw (← name_hex _ (sym c.is_all_graphic.ensures ∙ c.if-is_all_graphic.false)) c.put_hex.ensures
