-- `free_inode`: the first free record. Assumes nothing.
use Rattle.std.proofs.Common.{rules, tests}
use Rattle.volume.specs.Lookup.{free_inode, is_free}
use Rattle.lookup.proofs.Search.{numbered}
use Rattle.lookup.proofs.inodes.free_inode.Goals as goal

pub returns : goal.returns
unfolding free_inode
returns c = numbered is_free c.args.v.now.inodes _ (search rules) _ _ _ (cc) c.position.ensures.ran (λ x b q k. search (rules, tests)) (λ i. record { 0 = i }) _ c.map.ensures.cases (λ i n k. search rules)
