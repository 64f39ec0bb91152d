-- `number`: what is left of the word goes on to spell what the whole word spells. Assumes nothing.
use Rattle.std.proofs.Common.{◌≡◌, drop}
use Rattle.script.specs.Numbers.{number_of, digits_from}
use Rattle.script.proofs.numbers.number.Given as goal

abbrev pub invariant-loop-b : goal.invariant-loop-b
invariant-loop-b l = number_of l.s ≡ digits_from l.n (drop l.b-index l.s)
