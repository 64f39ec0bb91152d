-- `is_all_graphic`: every byte passes the test. Assumes nothing.
use Rattle.std.proofs.Common.{rules, tests, ◌∙◌}
use Rattle.std.proofs.lemmas.Iterator.{YieldsList-from_slice}
use Rattle.std.proofs.lemmas.Iterator.Search.{all_from_yields_List}
use Rattle.script.specs.Strings.{is_graphic, is_all_graphic}
use Rattle.script.proofs.Finding.{all_first}
use Rattle.script.proofs.output.is_all_graphic.Goals as goal

pub returns : goal.returns
unfolding is_all_graphic
returns c =
    let s = c.args.s.now in
    all_from_yields_List is_graphic _ _ c.all.result c.all.ensures.ran (YieldsList-from_slice s cc) (λ x b q k. search (rules, tests)) ∙ all_first _ s
