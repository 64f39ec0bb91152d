-- `last_two` of enciphering meets its contract: the second block, filled up with zeros, is what is read past the end of a list. Assumes nothing.
use Rattle.std.proofs.Common.{rules}
use mathlib.Core.Path.{◌≡◌, ◌∙◌, ap}
use Rattle.aes.specs.States.{state_at}
use Rattle.modes.specs.Blocks.{zero_block}
use Rattle.modes.specs.Cts.{last_two, filled}
use Rattle.modes.proofs.ListBlocks.{zero_filled}
use Rattle.modes.proofs.cts.EncipherCs3.last_two.Goals as goal

pub returns : goal.returns
unfolding last_two
returns c =
    let l = c.args.l.now in
    let zeros : c.default.result ≡ zero_block = search rules in
    let q : c.second.result ≡ state_at l 16 = c.second.ensures ∙ ap (filled l 16) zeros ∙ zero_filled l 16 in
    cc
