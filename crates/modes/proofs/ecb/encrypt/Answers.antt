-- `ecb::encrypt` meets its contract: its blocks are a walk to which nothing is carried. Assumes nothing.
use native.Mathlib.Omega.{arith}
use mathlib.Core.Path.{sym, ◌∙◌}
use Rattle.std.proofs.Common.{rules}
use Rattle.modes.proofs.EcbBlocks.{ecb_step, ecb_next, ecb_walked}
use Rattle.modes.proofs.BlockLoop.{going_end}
use Rattle.modes.proofs.ecb.encrypt.Goals as goal

pub returns : goal.returns
returns c =
    let k = c.args.schedule.now in
    going_end (ecb_step k.bytes k.rounds) ecb_next _ _ _ _ _ (c.walk.ensures _ _ (search rules)) (omega arith) ∙ sym (ecb_walked k.bytes k.rounds _ _ _)
