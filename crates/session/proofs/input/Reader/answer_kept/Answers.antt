-- `answer_kept`: the line is answered as what is kept of it. Assumes nothing.
use native.Mathlib.Omega.{arith}
use mathlib.Core.Path.{refl}
use lib.ListN.{length-take}
use Rattle.session.proofs.Feeding.{held_ends}
use Rattle.session.proofs.input.Reader.answer_kept.Goals as goal

pub returns-clause-ends : goal.returns-clause-ends
returns-clause-ends c =
    let r = c.args.self.now in
    let said = c.answer_line-said in
    let k = length-take r.used r.line.now in
    rw c.unwrap_or.ensures
    (refl, held_ends r.volume r.line.now r.used r.payload.now r.out.now said.new.payload said.new.out said.result (omega arith) (omega arith, omega arith) said.ensures.outcome)
