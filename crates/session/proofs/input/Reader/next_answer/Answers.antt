-- `next_answer`: the line goes on, or it has ended and is answered. Assumes nothing.
use native.Mathlib.Omega.{arith}
use mathlib.Core.Path.{◌≡◌, sym, ◌∙◌}
use lib.ListN.{length, take}
use Rattle.session.proofs.Feeding.{goes_on, ends_here}
use Rattle.session.proofs.input.Reader.next_answer.Goals as goal

pub returns-then-cut : goal.returns-then-cut
returns-then-cut c =
    let r = c.args.self.now in
    let cut = c.take_line-cut in
    let said = c.answer_kept-len in
    let h : length cut.new.line ≡ length r.line.now = omega (arith, cut.auto.line) in
    let newline = sym cut.ensures.3 ∙ c.if-cut.true in
    let fed =
    ends_here r.line.now cut.new.line r.volume r.used cut.result.used c.args.bytes.now h cut.ensures.1 cut.result.taken cut.ensures.2 newline
    said.new.self.volume said.new.self.line.now (take said.result said.new.self.out.now) said.new.self.used said.ensures.ends.0 said.ensures.ends.1 in
    record { taken_value = cut.ensures.2; len_in_bounds = said.ensures.len_in_bounds; feeds = λ s k. (fed s k).0; says = λ s k. (fed s k).1 }

pub returns-else-cut : goal.returns-else-cut
returns-else-cut c =
    let r = c.args.self.now in
    let cut = c.take_line-cut in
    let h : length cut.new.line ≡ length r.line.now = omega (arith, cut.auto.line) in
    let no_newline = sym cut.ensures.3 ∙ c.if-cut.false in
    let fed = goes_on r.line.now cut.new.line r.volume r.used cut.result.used c.args.bytes.now h cut.ensures.1 cut.result.taken cut.ensures.2 no_newline in
    record { taken_value = cut.ensures.2; len_in_bounds = omega arith; feeds = λ s k. (fed s k).0; says = λ s k. (fed s k).1 }
