-- x^j: after i turns, x^i. Assumes nothing.
use Rattle.aes.specs.KeyExpansion.{x_power}
use mathlib.Core.Path.{◌≡◌}
use Rattle.aes.proofs.key_expansion.x_power.Given as goal

abbrev pub invariant-loop : goal.invariant-loop
invariant-loop l = l.b ≡ x_power l.counter
