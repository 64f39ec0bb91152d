-- `free_key`: the first free slot. Assumes nothing.
use Rattle.std.proofs.Common.{rules, tests}
use Rattle.volume.specs.Lookup.{free_key_slot, is_free_key}
use Rattle.lookup.proofs.Search.{slot}
use Rattle.lookup.proofs.keyring.free_key.Goals as goal

pub returns : goal.returns
unfolding free_key_slot
returns c = slot is_free_key c.args.v.now.keys _ (search rules) _ _ _ (cc) c.position.ensures.ran (λ x b q k. search (rules, tests))
