-- `xts::crypt` meets its contract: the walk ends where the data unit does. Assumes nothing.
use native.Mathlib.Omega.{arith}
use mathlib.Core.Path.{◌≡◌, ◌∙◌, ap}
use Prim.Native.Nat.{◌/◌}
use lib.ListN.{length}
use Rattle.std.proofs.Common.{rules}
use Rattle.modes.specs.Walk.{walked}
use Rattle.modes.specs.Xts.{tweaked, next_tweak, xts_aes}
use Rattle.modes.proofs.BlockLoop.{going_end}
use Rattle.modes.proofs.xts.crypt.Goals as goal

pub returns : goal.returns
unfolding xts_aes
returns g c =
    let s = c.args in
    let step = tweaked (g.C.BlockCipher.block s.schedule.now) in
    let m : length s.l.now / 16 ≡ 256 = omega arith in
    going_end step next_tweak _ _ _ _ _ (c.walk.ensures _ _ (search rules)) (omega arith) ∙ ap (walked step next_tweak s.l.now s.tweak) m
