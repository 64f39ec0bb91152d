-- `put_hex`: the digits of the bytes so far are stored. Assumes nothing.
use Rattle.std.proofs.Common.{◌≡◌, ◌+◌, ◌*◌, ◌≤◌, length, take}
use Rattle.std.proofs.lemmas.List.Edits.{sets}
use Rattle.script.specs.Strings.{to_hex}
use Rattle.script.proofs.output.put_hex.Given as goal

abbrev pub invariant-loop-i : goal.invariant-loop-i
invariant-loop-i l = record {
  stored : l.out ≡ sets l.initial.out l.at (to_hex (take l.i l.s));
  whole : length l.out ≡ length l.initial.out;
  room : l.at + 2 * length l.s ≤ length l.initial.out;
}
