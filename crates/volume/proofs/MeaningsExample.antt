-- An inode two entries below the root, computed from the definitions: a directory made in a directory, whatever the cipher is. So `Below` is met, step by step.
-- Assumes nothing.
use mathlib.Core.Path.{refl}
use mathlib.Core.List.{[], ◌∷◌}
use Rattle.lists.specs.Bytes.{zeros, first_at, same}
use Rattle.errno.specs.Refusals.{◌⇒◌, ◌>>◌}
use Rattle.fscrypt.specs.Cipher.{Cipher}
use Rattle.fscrypt.specs.Names.{is_dot_name, is_bad_name, name_check}
use Rattle.volume.specs.Volume.{fresh, root_number}
use Rattle.volume.specs.Request.{create}
use Rattle.volume.specs.Lookup.{lacks_key, free_inode, free_entry, entry_named}
use Rattle.volume.specs.DirectoryNames.{stored}
use Rattle.volume.specs.Checks.{directory_check, is_bad_kind, is_nonce_needed, create_check}
use Rattle.volume.specs.Step.{child_of, lent, check, effect, settle, step}
use Rattle.volume.specs.Sound.{Below, inside, deeper}
use Rattle.volume.specs.declared.Volume.{Volume}
use Rattle.volume.proofs.SoundClimb.{num}
use Rattle.volume.proofs.SoundInvariant.{one≢zero}

module _ (C : Cipher) where
  -- inode 1 in the root, and inode 2 in it
  unfoldable nested : Volume
  nested = (step C (step C fresh (create root_number 1 (97 ∷ []) (zeros 16))).volume (create (num 1) 1 (98 ∷ []) (zeros 16))).volume

  inner_below : Below nested root_number (num 2)
  unfolding nested step settle lent check effect fresh child_of ◌⇒◌ ◌>>◌ zeros first_at same is_dot_name is_bad_name name_check lacks_key free_inode free_entry entry_named directory_check is_bad_kind is_nonce_needed stored create_check
  inner_below =
      deeper 1 (inside 0 (record { in_use = one≢zero refl; parent = refl }) (record { in_use = one≢zero refl; inode = refl }))
      (record { in_use = one≢zero refl; parent = refl })
      (record { in_use = one≢zero refl; inode = refl })
