-- `is_bad_name`: each test is one of the two that the definition joins. Assumes nothing.
use Rattle.std.proofs.Common.{rules, tests, ◌∙◌, arith}
use Rattle.std.proofs.lemmas.Grind.{common_steps}
use Rattle.std.proofs.lemmas.Iterator.{YieldsList-from_slice}
use Rattle.std.proofs.lemmas.Iterator.Search.{any_from_yields_List}
use Rattle.fscrypt.specs.Names.{is_nul_or_slash, is_bad_name}
use Rattle.fscrypt.proofs.Searching.{any_first}
use Rattle.fscrypt.proofs.fname.is_bad_name.Goals as goal

pub returns-then-any : goal.returns-then-any
unfolding is_bad_name
returns-then-any c =
    let found = any_from_yields_List is_nul_or_slash _ _ c.any.result c.any.ensures.ran (YieldsList-from_slice c.args.name.now cc) (λ x b q k. search (rules, tests)) ∙ any_first is_nul_or_slash c.args.name.now in
    grind (arith, common_steps)

pub returns-else-any : goal.returns-else-any
unfolding is_bad_name
returns-else-any c =
    let found = any_from_yields_List is_nul_or_slash _ _ c.any.result c.any.ensures.ran (YieldsList-from_slice c.args.name.now cc) (λ x b q k. search (rules, tests)) ∙ any_first is_nul_or_slash c.args.name.now in
    grind (arith, common_steps)
