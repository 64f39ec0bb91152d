-- `without_return`: the line, or what is left of it. Assumes nothing.
use mathlib.Core.Path.{◌∙◌, ap}
use Rattle.std.specs.Borrow.{Bor}
use Rattle.lists.specs.Bytes.{Bytes}
use Rattle.lines.proofs.Answering.{stripped}
use Rattle.lines.proofs.without_return.Goals as goal

pub returns : goal.returns
returns c = ap (λ (r : Bor Bytes). r.now) c.unwrap_or.ensures ∙ stripped c.args.line c.strip_suffix.result c.strip_suffix.ensures.cases
