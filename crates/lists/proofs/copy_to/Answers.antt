-- `copy_to`: what stands in the part of the buffer that was lent. Assumes nothing.
use Rattle.lists.proofs.Copies.{sets_lent}
use Rattle.lists.proofs.copy_to.Goals as goal

pub returns : goal.returns
returns c = let s = c.args in sets_lent s.out.now s.at s.s.now _ c.requires c.copy_from_slice.ensures.after
