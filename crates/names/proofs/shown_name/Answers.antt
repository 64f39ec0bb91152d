-- `shown_name`: plain, encoded or decrypted, by the directory and its key. Assumes nothing.
use mathlib.Core.Path.{sym, ◌∙◌, ap}
use Rattle.lists.proofs.ByteStrings.{count_take}
use Rattle.names.proofs.Reading.{names_key_fits, names_key, shown_plain, shown_encoded, shown_decrypted}
use Rattle.fscrypt.specs.Cipher.{fscrypt}
use Rattle.fscrypt.specs.Names.{packed}
use Rattle.names.proofs.shown_name.Goals as goal

pub returns-then-not-dir : goal.returns-then-not-dir
returns-then-not-dir c = shown_plain fscrypt _ _ _ _ _ c.if-not-dir.true (c.new-name.ensures ∙ ap packed c.name.ensures.name)

pub returns-then-not-key_present : goal.returns-then-not-key_present
returns-then-not-key_present c =
    shown_encoded fscrypt _ _ _ _ c.new-name.result _ c.if-not-dir.false (sym c.key_present.ensures ∙ c.if-not-key_present.true) (c.new-name.ensures ∙ ap packed c.name.ensures.name)
    c.encode_name.ensures

pub derived_key-key-requires : goal.derived_key-key-requires
derived_key-key-requires c = sym c.key_present.ensures ∙ c.if-not-key_present.false

pub slice_bounds-decrypt_name-end : goal.slice_bounds-decrypt_name-end
slice_bounds-decrypt_name-end c =
    let key = c.derived_key-key in
    count_take _ _ (names_key_fits fscrypt _ _ key.result _ key.ensures c.name_key_size.ensures.0 _ c.as_bytes.ensures)

pub returns : goal.returns
returns c =
    let key = c.derived_key-key in
    shown_decrypted fscrypt _ _ _ _ c.new-name.result _ _ c.if-not-dir.false (sym c.key_present.ensures ∙ c.if-not-key_present.false)
    (c.new-name.ensures ∙ ap packed c.name.ensures.name) (names_key fscrypt _ _ key.result _ key.ensures c.name_key_size.ensures.0 _ c.as_bytes.ensures) c.decrypt_name.ensures
