-- `put_digits`: each way out is a case of `last_digits`; where there are more digits, what the call stored, and then the last byte. Assumes nothing.
use mathlib.Core.Path.{refl}
use native.Mathlib.Omega.{arith}
use Prim.Native.Nat.{◌+◌, ◌-◌, ◌/◌, ◌%◌}
use mathlib.Core.List.{[], ◌∷◌}
use Rattle.script.specs.Numbers.{last_digits}
use Rattle.script.proofs.Digits.{last_none, last_one, last_more, last_length}
use Rattle.script.proofs.Stores.{then_sets}
use Rattle.script.proofs.output.+put_digits.Goals as goal

pub returns-then-k-eq0 : goal.returns-then-k-eq0
returns-then-k-eq0 t c = rw (last_none _ _ c.if-k-eq0.true) (omega arith, refl)

pub returns-then-n-lt10 : goal.returns-then-n-lt10
returns-then-n-lt10 t c = rw (last_one _ _ c.if-k-eq0.false c.if-n-lt10.true) c.put_byte.ensures

pub put_byte-requires-2 : goal.put_byte-requires-2
put_byte-requires-2 t c = omega (arith, c.put_digits-next.ensures.0, last_length (c.args.k - 1) (c.args.n / 10), c.if-k-eq0.false)

pub returns : goal.returns
returns t c =
    rw (last_more _ _ c.if-k-eq0.false c.if-n-lt10.false)
    (then_sets _ _ (last_digits (c.args.k - 1) (c.args.n / 10)) ((48 + c.args.n % 10) ∷ []) c.put_digits-next.ensures c.put_byte-2.ensures)
