-- `put_hex`: the goals that the search leaves, from the invariant of Invariants.antt. Assumes nothing.
use Rattle.std.proofs.Common.{◌*◌, refl, ◌∙◌, length-take, length-set, take, take_all, arith}
use Rattle.script.specs.Strings.{to_hex}
use Rattle.script.proofs.Hex.{to_hex_length, to_hex_next}
use Rattle.script.proofs.Stores.{sets_two}
use Rattle.script.proofs.output.put_hex.Goals as goal

pub loop-i-init : goal.loop-i-init
unfolding to_hex
loop-i-init c = record { stored = refl; whole = refl; room = c.requires }

pub loop-i-preserved : goal.loop-i-preserved
loop-i-preserved c =
    let l = c.loop-i in
    let s = c.args.s.now in
    let two = sets_two c.args.out.now c.args.at (to_hex (take l.i s)) (2 * l.i) c.hex_digit.result c.hex_digit-in-loop-i.result (omega (arith, to_hex_length (take l.i s), length-take l.i s, c.loop-i-test.true)) in
    let next = to_hex_next s l.i c.loop-i-test.true in
    record { stored = cc; whole = simp length-set l.invariant.whole; room = l.invariant.room }

pub returns : goal.returns
returns c =
    let l = c.loop-i in
    let s = c.args.s.now in
    let all = take_all l.i s c.loop-i-test.false in
    (omega (arith, to_hex_length s), l.invariant.stored ∙ rw all)
