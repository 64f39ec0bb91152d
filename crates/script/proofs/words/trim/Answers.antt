-- `trim`: what is left from the first byte that is no blank. Assumes nothing.
use Rattle.std.proofs.Common.{rules, tests, ◌∙◌, ap, ℕ, drop}
use Rattle.std.proofs.lemmas.Iterator.{YieldsList-from_slice}
use Rattle.std.proofs.lemmas.Iterator.Search.{position_from_yields_List}
use borrow.Author.Rules.{part_to_end}
use Rattle.script.specs.Words.{is_not_blank, trimmed}
use Rattle.script.proofs.Finding.{first_position}
use Rattle.script.proofs.words.trim.Goals as goal

pub returns : goal.returns
unfolding trimmed
returns c =
    let s = c.args.s.now in
    let found = position_from_yields_List is_not_blank _ _ c.position.result c.position.ensures.ran (YieldsList-from_slice s cc) (λ x b q k. search (rules, tests)) in
    part_to_end s _ ∙ ap (λ (k : ℕ). drop k s) (first_position _ s _ _ found c.unwrap_or-start.ensures)
