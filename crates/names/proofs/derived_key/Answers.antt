-- `derived_key`: the master key is the start of its slot, and is derived in place; a key that is present fits its slot. Assumes nothing.
use mathlib.Core.Path.{sym, ◌∙◌}
use Rattle.lists.proofs.ByteStrings.{count_take}
use Rattle.names.proofs.Reading.{present_sizes, derived_by_lem}
use Rattle.fscrypt.specs.Cipher.{fscrypt}
use borrow.Author.Rules.{rules}
use Rattle.names.proofs.derived_key.Goals as goal

pub slice_bounds-bytes-end : goal.slice_bounds-bytes-end
slice_bounds-bytes-end c =
    let key = c.key_of-len in
    (present_sizes _ _ key.result key.ensures c.requires (search rules)).fits

pub slice_bounds-derive_key-end : goal.slice_bounds-derive_key-end
slice_bounds-derive_key-end c =
    let key = c.key_of-len in
    count_take _ _ (present_sizes _ _ key.result key.ensures c.requires (search rules)).fits

pub returns : goal.returns
returns c =
    let key = c.key_of-len in
    let sizes = present_sizes _ _ key.result key.ensures c.requires (search rules) in
    let derived = c.derive_key in
    derived_by_lem fscrypt _ _ key.result derived.new.key key.ensures sizes (derived.auto.key ∙ sym (count_take _ _ sizes.fits)) derived.ensures
