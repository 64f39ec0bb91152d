-- `hex_digit` meets its contract: the law of the range that its number is in. Assumes nothing.
use native.Mathlib.Omega.{arith}
use Rattle.lists.proofs.Digits.{hex_low, hex_high}
use Rattle.lists.proofs.hex_digit.Goals as goal

pub returns-then-n-lt10 : goal.returns-then-n-lt10
returns-then-n-lt10 c = omega (arith, hex_low c.args.n (omega arith))

pub returns-else-n-lt10 : goal.returns-else-n-lt10
returns-else-n-lt10 c = omega (arith, hex_high c.args.n (omega arith))
