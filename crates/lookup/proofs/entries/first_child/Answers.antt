-- `first_child`: the first entry of the directory. Assumes nothing.
use Rattle.std.proofs.Common.{rules, tests}
use Rattle.volume.specs.Lookup.{first_child, is_in}
use Rattle.lookup.proofs.Search.{numbered}
use Rattle.lookup.proofs.entries.first_child.Goals as goal

pub returns : goal.returns
unfolding first_child
returns c = numbered (is_in c.args.p) c.args.v.now.entries _ (search rules) _ _ _ (cc) c.position.ensures.ran (λ x b q k. search (rules, tests)) (λ i. record { 0 = i }) _ c.map.ensures.cases (λ i n k. search rules)
