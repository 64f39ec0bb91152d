-- `is_hex`: every byte passes the test. Assumes nothing.
use Rattle.std.proofs.Common.{rules, tests, ◌∙◌}
use Rattle.std.proofs.lemmas.Iterator.{YieldsList-from_slice}
use Rattle.std.proofs.lemmas.Iterator.Search.{all_from_yields_List}
use Rattle.script.specs.Strings.{is_hex_digit, is_hex}
use Rattle.script.proofs.Finding.{all_first}
use Rattle.script.proofs.Hex.{hex_digit_joins}
use Rattle.script.proofs.strings.is_hex.Goals as goal

pub returns : goal.returns
unfolding is_hex
returns c =
    let s = c.args.s.now in
    all_from_yields_List is_hex_digit _ _ c.all.result c.all.ensures.ran (YieldsList-from_slice s cc) (λ x b q k. search (rules, tests, hex_digit_joins)) ∙ all_first _ s
