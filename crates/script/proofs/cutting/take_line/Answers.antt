-- `take_line`: the goals that the search leaves, from the invariant of Invariants.antt. Assumes nothing.
use Rattle.std.proofs.Common.{rules, tests, ◌<◌, refl, ◌∙◌, length, take, take_all, arith}
use Rattle.std.proofs.lemmas.Iterator.{YieldsList-from_slice}
use Rattle.std.proofs.lemmas.Iterator.Search.{position_from_yields_List}
use Rattle.script.specs.Cutting.{is_newline, kept_on, before_newline}
use Rattle.script.proofs.Finding.{first_position, some_position}
use Rattle.script.proofs.Keeping.{kept_on_next}
use Rattle.script.proofs.cutting.take_line.Goals as goal

pub loop-b-init : goal.loop-b-init
unfolding kept_on
loop-b-init c = record { within = c.requires.0; whole = refl; some = c.requires.1; kept = refl }

pub loop-b-preserved : goal.loop-b-preserved
loop-b-preserved c =
    let l = c.loop-b in
    let s = take c.unwrap_or-end.result c.args.bytes.now in
    let h : l.b-index < length s = c.loop-b-test.true in
    let next = kept_on_next (length c.args.line.now) (take c.args.used c.args.line.now) s l.b-index h in
    record { within = omega arith; whole = omega arith; some = omega arith; kept = cc }

pub returns : goal.returns
unfolding before_newline
returns c =
    let l = c.loop-b in
    let s = c.args.bytes.now in
    let found = position_from_yields_List is_newline _ _ c.position-newline.result c.position-newline.ensures.ran (YieldsList-from_slice s cc) (λ x b q k. search (rules, tests)) in
    let end = first_position _ s _ _ found c.unwrap_or-end.ensures in
    let all = take_all l.b-index (take c.unwrap_or-end.result s) c.loop-b-test.false in
    (omega arith, cc, omega (arith, c.min.ensures), c.is_some.ensures ∙ some_position _ s _ found)
