-- The product: after i turns, the remainder of the first i digits' terms, and b doubled i times. Assumes nothing.
use mathlib.Core.Path.{◌≡◌}
use Rattle.field.proofs.Products.{product_to, doubled}
use Rattle.field.proofs.gf.times.Given as goal

abbrev pub invariant-loop-i : goal.invariant-loop-i
invariant-loop-i l = (l.sum ≡ product_to l.i l.a l.b) × (l.power ≡ doubled l.i l.b)
