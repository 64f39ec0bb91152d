-- `key_of`: the slot that the search came to, and past the keyring's end a free one. Assumes nothing.
use mathlib.Core.Path.{◌∙◌}
use Rattle.std.proofs.Common.{rules, tests}
use Rattle.std.proofs.lemmas.Iterator.{YieldsList-from_slice}
use Rattle.std.proofs.lemmas.Iterator.Search.{find_from_yields_List}
use Rattle.volume.specs.Volume.{no_key}
use Rattle.volume.specs.Lookup.{key_slot_of, key_of, on_keyring}
use Rattle.lookup.proofs.Search.{copied_or}
use Rattle.lookup.proofs.keyring.key_of.Goals as goal

pub returns : goal.returns
unfolding key_of key_slot_of
returns c =
    copied_or (on_keyring c.args.d) c.args.v.now.keys no_key _ _ _
    (c.copied.ensures ∙ find_from_yields_List _ _ _ _ c.find.ensures.ran (YieldsList-from_slice c.args.v.now.keys cc) (λ x b q k. search (rules, tests)))
    c.unwrap_or_default.ensures (λ k. k)
