-- `first_nul`: the position of the first NUL, or the length. Assumes nothing.
use Rattle.std.proofs.Common.{rules, tests, ◌∙◌, ap, length}
use Rattle.std.specs.Option.{unwrap_or}
use Rattle.std.proofs.lemmas.Iterator.{YieldsList-from_slice}
use Rattle.std.proofs.lemmas.Iterator.Search.{position_from_yields_List}
use Rattle.fscrypt.specs.Names.{is_nul}
use Rattle.fscrypt.proofs.Searching.{first_or_length}
use Rattle.fscrypt.proofs.fname.first_nul.Goals as goal

pub returns : goal.returns
returns c =
    let found = position_from_yields_List is_nul _ _ c.position.result c.position.ensures.ran (YieldsList-from_slice c.args.bytes.now cc) (λ x b q k. search (rules, tests)) in
    c.unwrap_or.ensures ∙ ap (λ r. unwrap_or r (length c.args.bytes.now)) found ∙ first_or_length is_nul c.args.bytes.now
