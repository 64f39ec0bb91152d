-- `zeros`: an array written with one value is `replicate`. Assumes nothing.
use mathlib.Core.Path.{refl}
use Rattle.lists.specs.Bytes.{zeros}
use Rattle.lists.proofs.zeros.Goals as goal

pub returns : goal.returns
unfolding zeros
returns g c = refl
