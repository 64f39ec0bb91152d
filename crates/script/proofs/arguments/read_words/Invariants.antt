-- `read_words`: what is left of the line, read on after what has been read, comes to what the whole line does. Assumes nothing.
use Rattle.std.proofs.Common.{◌≡◌, ◌≤◌, length, drop}
use Rattle.script.specs.Commands.{read_words, left_in}
use Rattle.script.proofs.Taking.{onward}
use Rattle.script.proofs.arguments.read_words.Given as goal

abbrev pub invariant-loop-sort : goal.invariant-loop-sort
invariant-loop-sort l = record {
  room : length l.left ≤ length l.payload;
  left : left_in l.payload (drop l.sort-index l.shape) l.left ≡ left_in l.initial.payload l.fn.shape l.fn.line;
  read : onward l.payload (drop l.sort-index l.shape) l.left l.args ≡ read_words l.fn.shape l.fn.line;
}
