-- `lay_hex`: the goals that the search leaves, from the invariant of Invariants.antt. Assumes nothing.
use Rattle.std.proofs.Common.{◌≡◌, ◌<◌, ◌+◌, ◌∙◌, length, length-set, zero-add, arith}
use Rattle.std.proofs.lemmas.List.Edits.{paste_more, paste_all}
use Rattle.std.specs.Iterator.Adapters.{enumerate_count}
use Rattle.script.specs.Strings.{from_hex}
use Rattle.script.proofs.Hex.{pair_next, pair_end}
use Rattle.script.proofs.strings.lay_hex.Goals as goal

pub bounds-out-i : goal.bounds-out-i
bounds-out-i c =
    let l = c.loop-i.invariant in
    let s = c.in-Some.ensures.steps in
    let next = pair_next (from_hex c.args.s.now) _ _ _ _ l.left s.0.1.0 (s.0.1.1 ∙ l.pairs) in
    omega arith

pub loop-i-preserved : goal.loop-i-preserved
loop-i-preserved c =
    let l = c.loop-i.invariant in
    let s = c.in-Some.ensures.steps in
    let x = from_hex c.args.s.now in
    let next = pair_next x _ _ _ _ l.left s.0.1.0 (s.0.1.1 ∙ l.pairs) in
    let here : 0 + c.in-Some.i < length c.args.out.now = omega arith in
    let more = paste_more c.args.out.now 0 x c.in-Some.i 0 here (omega arith) in
    let at = zero-add c.in-Some.i in
    let high = c.hex_value.ensures.0 in
    let low = c.hex_value-in-loop-i.ensures.0 in
    record { pairs = s.0.0 ∙ l.pairs; left = cc; within = omega arith; laid = cc; whole = simp length-set l.whole; room = l.room }

pub returns : goal.returns
returns c =
    let l = c.loop-i.invariant in
    let s = c.in-None.ensures.steps in
    let x = from_hex c.args.s.now in
    let end = pair_end x _ _ l.left (omega (arith, l.pairs, s.0.1.0)) in
    let n = enumerate_count c.loop-i.i-iterator in
    let all : n ≡ length x = omega arith in
    l.laid ∙ paste_all c.args.out.now 0 x n all ∙ rw (zero-add, all)
