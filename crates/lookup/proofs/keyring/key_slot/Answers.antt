-- `key_slot`: the first slot with the descriptor. Assumes nothing.
use Rattle.std.proofs.Common.{rules, tests}
use Rattle.volume.specs.Lookup.{key_slot_of, on_keyring}
use Rattle.lookup.proofs.Search.{slot}
use Rattle.lookup.proofs.keyring.key_slot.Goals as goal

pub returns : goal.returns
unfolding key_slot_of
returns c = slot (on_keyring c.args.d) c.args.v.now.keys _ (search rules) _ _ _ (cc) c.position.ensures.ran (λ x b q k. search (rules, tests))
