-- `is_all_nul`: no byte but NULs. Assumes nothing.
use Rattle.std.proofs.Common.{rules, tests, ◌∙◌}
use Rattle.std.proofs.lemmas.Iterator.{YieldsList-from_slice}
use Rattle.std.proofs.lemmas.Iterator.Search.{all_from_yields_List}
use Rattle.fscrypt.specs.Names.{is_nul, is_all_nul}
use Rattle.fscrypt.proofs.Searching.{all_first}
use Rattle.fscrypt.proofs.fname.is_all_nul.Goals as goal

pub returns : goal.returns
unfolding is_all_nul
returns c =
    all_from_yields_List is_nul _ _ c.all.result c.all.ensures.ran (YieldsList-from_slice c.args.bytes.now cc) (λ x b q k. search (rules, tests))
    ∙ all_first is_nul c.args.bytes.now
