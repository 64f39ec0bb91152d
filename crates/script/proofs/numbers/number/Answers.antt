-- `number`: the goals that the search leaves, from the invariant of Invariants.antt. Assumes nothing.
use Rattle.std.proofs.Common.{◌≡◌, ◌<◌, ◌+◌, ◌-◌, ◌*◌, sym, ◌∙◌, get_or, drop_of_length-le, arith}
use Rattle.script.specs.Numbers.{most_number, digits_from}
use Rattle.script.proofs.Digits.{no_digits, digits_start, digits_bad, digits_large, digits_next}
use Rattle.script.proofs.numbers.number.Goals as goal

pub returns-then-is_empty : goal.returns-then-is_empty
returns-then-is_empty c = no_digits _ (sym c.is_empty.ensures ∙ c.if-is_empty.true)

pub loop-b-init : goal.loop-b-init
loop-b-init c = digits_start _ (sym c.is_empty.ensures ∙ c.if-is_empty.false)

pub returns-then-not-is_ascii_digit : goal.returns-then-not-is_ascii_digit
returns-then-not-is_ascii_digit c =
    let l = c.loop-b in
    sym (l.invariant ∙ digits_bad c.args.s.now l.b-index l.n c.loop-b-test.true (sym c.is_ascii_digit.ensures.value ∙ c.if-not-is_ascii_digit.true))

pub returns-in_err-checked_mul : goal.returns-in_err-checked_mul
returns-in_err-checked_mul c =
    let l = c.loop-b in
    c.from_residual.ensures ∙ sym (l.invariant ∙ digits_large c.args.s.now l.b-index l.n c.loop-b-test.true (omega (arith, c.in_err-checked_mul.ensures)))

pub returns-in_err-n : goal.returns-in_err-n
returns-in_err-n c =
    let l = c.loop-b in
    let large : most_number < l.n * 10 + (get_or c.args.s.now l.b-index 0 - 48) = omega (arith, c.in_ok-checked_mul.ensures, c.in_err-n.ensures) in
    c.from_residual-in_err-n.ensures ∙ sym (l.invariant ∙ digits_large c.args.s.now l.b-index l.n c.loop-b-test.true large)

pub loop-b-preserved : goal.loop-b-preserved
loop-b-preserved c =
    let l = c.loop-b in
    let digit = sym c.is_ascii_digit.ensures.value ∙ c.if-not-is_ascii_digit.false in
    let more : c.in_ok-n.n ≡ l.n * 10 + (get_or c.args.s.now l.b-index 0 - 48) = omega (arith, c.in_ok-checked_mul.ensures, c.in_ok-n.ensures) in
    let next = digits_next c.args.s.now l.b-index l.n c.loop-b-test.true digit (omega (arith, c.in_ok-checked_mul.ensures, c.in_ok-n.ensures)) in
    l.invariant ∙ next ∙ rw more

pub returns : goal.returns
unfolding digits_from
returns c = let l = c.loop-b in let s = c.args.s.now in sym (l.invariant ∙ rw (drop_of_length-le s (c.loop-b-test.false)))
