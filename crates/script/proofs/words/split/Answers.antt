-- `split`: the two parts of the trimmed line, at its first blank. Assumes nothing.
use Rattle.std.proofs.Common.{rules, tests}
use Rattle.std.proofs.lemmas.Iterator.{YieldsList-from_slice}
use Rattle.std.proofs.lemmas.Iterator.Search.{position_from_yields_List}
use Rattle.script.specs.Words.{is_blank, first_word, after_word}
use Rattle.script.proofs.Finding.{first_position}
use Rattle.script.proofs.words.split.Goals as goal

pub returns : goal.returns
unfolding first_word after_word
returns c =
    let t = c.trim-t.result.now in
    let found = position_from_yields_List is_blank _ _ c.position.result c.position.ensures.ran (YieldsList-from_slice t cc) (λ x b q k. search (rules, tests)) in
    let end = first_position _ t _ _ found c.unwrap_or-end.ensures in
    record { word = cc; rest = cc }
