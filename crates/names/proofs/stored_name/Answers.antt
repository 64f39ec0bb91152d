-- `stored_name`: as it stands in a plain directory, and in an encrypted one under the start of its derived key. Assumes nothing.
use Rattle.volume.proofs.Passed.{key_present_lem}
use Rattle.lists.proofs.ByteStrings.{count_take}
use Rattle.names.proofs.Reading.{names_key_fits, names_key, stored_plain, stored_encrypted}
use Rattle.fscrypt.specs.Cipher.{fscrypt}
use Rattle.names.proofs.stored_name.Goals as goal

pub returns-then-not-dir : goal.returns-then-not-dir
returns-then-not-dir c = stored_plain fscrypt _ _ _ _ c.if-not-dir.true c.new.ensures

pub derived_key-key-requires : goal.derived_key-key-requires
derived_key-key-requires c = key_present_lem _ _ c.if-not-dir.false c.requires.key_held

pub slice_bounds-encrypt_name-end : goal.slice_bounds-encrypt_name-end
slice_bounds-encrypt_name-end c =
    let key = c.derived_key-key in
    count_take _ _ (names_key_fits fscrypt _ _ key.result _ key.ensures c.name_key_size.ensures.0 _ c.as_bytes.ensures)

pub returns : goal.returns
returns c =
    let key = c.derived_key-key in
    stored_encrypted fscrypt _ _ _ _ _ c.if-not-dir.false (names_key fscrypt _ _ key.result _ key.ensures c.name_key_size.ensures.0 _ c.as_bytes.ensures) c.encrypt_name.ensures
