-- `cts::crypt` meets its contract: by the laws `cs3_one` and `cs3_long`, and `long_by` of the two parts. Assumes nothing.
use native.Mathlib.Omega.{arith}
use mathlib.Core.Path.{◌≡◌, sym, ◌∙◌, ap}
use Prim.Native.Nat.{◌-◌, ◌/◌, ◌<◌}
use lib.ListN.{length}
use Rattle.modes.specs.Walk.{walked}
use Rattle.modes.proofs.BlockLoop.{going_end}
use Rattle.modes.proofs.CtsSteal.{cs3_long, cs3_one, long_by}
use Rattle.modes.proofs.cts.crypt.Goals as goal

pub returns-then-l-eq16 : goal.returns-then-l-eq16
returns-then-l-eq16 g c =
    let s = c.args in
    let m : length s.l.now / 16 ≡ 1 = omega arith in
    let step = g.D.Cs3.step s.schedule.now in
    going_end step g.D.Cs3.next _ _ _ _ _ c.blocks-then-l-eq16.ensures (omega arith) ∙ ap (walked step g.D.Cs3.next s.l.now s.iv) m
    ∙ sym (cs3_one step g.D.Cs3.next (g.D.Cs3.last s.schedule.now) s.iv s.l.now (omega arith))

pub returns : goal.returns
returns g c =
    let s = c.args in
    let parts = c.split_at_mut-blocks.ensures in
    let n : length c.split_at_mut-blocks.result.0.now / 16 ≡ (length s.l.now - 17) / 16 = omega (arith, parts.front_len) in
    let long : 16 < length s.l.now = omega (arith, c.if-l-eq16.false) in
    long_by (g.D.Cs3.step s.schedule.now) g.D.Cs3.next (g.D.Cs3.last s.schedule.now) s.iv s.l.now _ _ _ _ _ _ _ parts.front parts.back (omega arith) parts.front_len n
    c.blocks-c.ensures c.last_two.ensures
    ∙ sym (cs3_long (g.D.Cs3.step s.schedule.now) g.D.Cs3.next (g.D.Cs3.last s.schedule.now) s.iv s.l.now long)
