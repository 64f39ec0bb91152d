-- `first_link`: the first entry that holds the inode. Assumes nothing.
use Rattle.std.proofs.Common.{rules, tests}
use Rattle.volume.specs.Lookup.{first_link, is_link}
use Rattle.lookup.proofs.Search.{numbered}
use Rattle.lookup.proofs.entries.first_link.Goals as goal

pub returns : goal.returns
unfolding first_link
returns c = numbered (is_link c.args.n) c.args.entries.now _ (search rules) _ _ _ (cc) c.position.ensures.ran (λ x b q k. search (rules, tests)) (λ i. record { 0 = i }) _ c.map.ensures.cases (λ i n k. search rules)
