-- `entry_named`: the first entry of the directory with the name. Assumes nothing.
use Rattle.std.proofs.Common.{rules, tests}
use Rattle.fscrypt.specs.Names.{name_bytes}
use Rattle.volume.specs.Lookup.{entry_named, is_named}
use Rattle.lookup.proofs.Search.{numbered}
use Rattle.lookup.proofs.entries.entry_named.Goals as goal

pub returns : goal.returns
unfolding entry_named
returns c = numbered (is_named c.args.p (name_bytes c.args.s.now)) c.args.v.now.entries _ (search rules) _ _ _ (cc) c.position.ensures.ran (λ x b q k. search (rules, tests)) (λ i. record { 0 = i }) _ c.map.ensures.cases (λ i n k. search rules)
