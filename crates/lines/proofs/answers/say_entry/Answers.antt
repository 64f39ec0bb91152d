-- `say_entry`: `ok`, the numbers, the form and the name. Assumes nothing.
use native.Mathlib.Omega.{arith}
use Prim.Native.Nat.{◌≤◌}
use mathlib.Core.Path.{◌≡◌}
use lib.ListN.{length, take, length-append, length-take}
use Rattle.std.proofs.lemmas.List.{take_min}
use Rattle.script.proofs.Hex.{name_text_length}
use Rattle.lines.specs.Answers.{shown_text}
use Rattle.lines.proofs.Texts.{then_adds, then_written, field_length}
use Rattle.script.proofs.Digits.{decimal_length}
use Rattle.lines.proofs.answers.say_entry.Goals as goal

pub put_name-requires : goal.put_name-requires
put_name-requires c =
    let s = c.args.s in
    omega (arith, length-take c.min.result c.args.buffer.now, field_length s.parent.0, field_length s.inode.0, field_length c.from.result, field_length c.from-2.result)

pub returns : goal.returns
unfolding shown_text
returns c =
    let s = c.args.s in
    let buffer = c.args.buffer.now in
    let form = c.form_name in
    let head = then_adds c.put_field.ensures (then_adds c.put_field-2.ensures c.put_field-3.ensures) in
    let tail = then_adds c.put.ensures (then_adds c.put-2.ensures (then_adds c.put_field-4.ensures c.put_name.ensures)) in
    let name = take c.min.result buffer in
    let short : length name ≤ 255 = omega (arith, length-take c.min.result buffer) in
    let e : name ≡ take s.len buffer = rw (c.min.ensures, c.from-3.ensures) (take_min s.len buffer) in
    let first = decimal_length s.parent.0 in
    let second = decimal_length s.inode.0 in
    let third = decimal_length c.from.result in
    let fourth = decimal_length c.from-2.result in
    rw (← form.ensures.name, ← c.from.ensures, ← e, ← c.from-2.ensures)
    (then_written (then_written c.start.ensures head (simp length-append (omega arith))) tail (simp length-append (omega (arith, name_text_length name))))
