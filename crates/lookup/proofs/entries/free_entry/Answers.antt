-- `free_entry`: the first free record. Assumes nothing.
use Rattle.std.proofs.Common.{rules, tests}
use Rattle.volume.specs.Lookup.{free_entry, is_vacant}
use Rattle.lookup.proofs.Search.{numbered}
use Rattle.lookup.proofs.entries.free_entry.Goals as goal

pub returns : goal.returns
unfolding free_entry
returns c = numbered is_vacant c.args.v.now.entries _ (search rules) _ _ _ (cc) c.position.ensures.ran (λ x b q k. search (rules, tests)) (λ i. record { 0 = i }) _ c.map.ensures.cases (λ i n k. search rules)
