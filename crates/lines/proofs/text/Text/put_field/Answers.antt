-- `put_field`: the number, and a blank. Assumes nothing.
use Rattle.lines.proofs.Texts.{then_adds}
use Rattle.lines.proofs.text.Text.put_field.Goals as goal

pub returns : goal.returns
returns c = then_adds c.put_decimal.ensures c.put.ensures
