-- `take_line`: what is kept of the bytes so far is in the buffer. Assumes nothing.
use Rattle.std.proofs.Common.{◌≡◌, ◌≤◌, ◌<◌, length, take}
use Rattle.script.specs.Cutting.{kept_on}
use Rattle.script.proofs.cutting.take_line.Given as goal

abbrev pub invariant-loop-b : goal.invariant-loop-b
invariant-loop-b l = record {
  within : l.used ≤ length l.line;
  whole : length l.line ≡ length l.fn.line;
  some : 0 < length l.line;
  kept : take l.used l.line ≡ kept_on (length l.fn.line) (take l.fn.used l.fn.line) (take l.b-index l.b-items);
}
