-- `nonce_holder`: the first inode with the nonce. Assumes nothing.
use Rattle.std.proofs.Common.{rules, tests}
use Rattle.volume.specs.Lookup.{nonce_holder, bears_nonce}
use Rattle.lookup.proofs.Search.{numbered}
use Rattle.lookup.proofs.inodes.nonce_holder.Goals as goal

pub returns : goal.returns
unfolding nonce_holder
returns c = numbered (bears_nonce c.args.x) c.args.v.now.inodes _ (search rules) _ _ _ (cc) c.position.ensures.ran (λ x b q k. search (rules, tests)) (λ i. record { 0 = i }) _ c.map.ensures.cases (λ i n k. search rules)
