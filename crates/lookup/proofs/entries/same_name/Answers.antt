-- `same_name`: `==` of the names. Assumes nothing.
use mathlib.Core.Path.{◌∙◌, ap₂}
use Rattle.lists.specs.Bytes.{same}
use Rattle.lists.proofs.SameBytes.{same_pointwise}
use Rattle.lookup.proofs.entries.same_name.Goals as goal

pub returns : goal.returns
returns c = c.eq.ensures ∙ same_pointwise _ _ ∙ ap₂ same c.name.ensures.name c.as_bytes.ensures
