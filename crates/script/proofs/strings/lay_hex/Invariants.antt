-- `lay_hex`: the bytes of the pairs of digits that have come are laid, and the digits that are left stand for the others. Assumes nothing.
use Rattle.std.proofs.Common.{◌≡◌, ◌≤◌, length, drop}
use Rattle.std.specs.Iterator.Adapters.{enumerate_source, enumerate_count}
use Rattle.std.specs.Slice.Iter.{chunks_exact_rest, chunks_exact_size}
use lib.Seq.{paste}
use Rattle.script.specs.Strings.{from_hex}
use Rattle.script.proofs.strings.lay_hex.Given as goal

abbrev pub invariant-loop-i : goal.invariant-loop-i
invariant-loop-i l = record {
  pairs : chunks_exact_size (enumerate_source l.i-iterator) ≡ 2;
  left : from_hex (chunks_exact_rest (enumerate_source l.i-iterator)) ≡ drop (enumerate_count l.i-iterator) (from_hex l.s);
  within : enumerate_count l.i-iterator ≤ length (from_hex l.s);
  laid : l.out ≡ paste l.initial.out 0 (from_hex l.s) (enumerate_count l.i-iterator);
  whole : length l.out ≡ length l.initial.out;
  room : length (from_hex l.s) ≤ length l.initial.out;
}
