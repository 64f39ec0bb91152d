-- Names under a directory's key: as the directory stores them, reads them and shows them. Document 01, "Policy, context, derived key" and "Names and blocks".
-- Sentences in quotation marks are document 01's, in its words. Assumes nothing.
use Rattle.std.specs.Prelude.{Bool, cond, not, ◌&&◌, take, Result}
use Rattle.lists.specs.Bytes.{Bytes}
use Rattle.errno.specs.Refusals.{is_fine, check_of}
use Rattle.policy.specs.Policies.{name_key_size}
use Rattle.fscrypt.specs.Cipher.{Cipher}
use Rattle.fscrypt.specs.Names.{encrypted, read_padded, name_bytes, name_in}
use Rattle.fscrypt.specs.Encoded.{encoded}
use Rattle.volume.specs.Lookup.{master_key, descriptor_of, key_present}
use Rattle.ids.specs.declared.EntryNumber.{EntryNumber}
use Rattle.volume.specs.declared.Inode.{Inode}
use Rattle.volume.specs.declared.Volume.{Volume}
use Rattle.volume.specs.Request.{Form, Plain, Decrypted, Encoded}
use Rattle.errno.specs.declared.Errno.{Errno}
use Rattle.fscrypt.specs.declared.Name.{Name}

module _ (C : Cipher) where
  -- the derived key of an inode
  unfoldable pub derived_key : Volume → Inode → Bytes
  derived_key v i = C.derive (master_key v (descriptor_of i)) i.context.nonce

  -- "it is cut to the first 32 bytes for names"
  unfoldable pub name_key : Volume → Inode → Bytes
  name_key v dir = take (name_key_size dir.context.policy) (derived_key v dir)

  -- a plain name as this directory stores it (document 01: "The key is the parent folder's.")
  unfoldable pub stored : Volume → Inode → Bytes → Bytes
  stored v dir n = cond dir.encrypted (encrypted C (name_key v dir) dir.context.policy.flags n) n

  -- a stored name as it is read with this directory's key
  unfoldable pub read_name : Volume → Inode → Bytes → Result Name Errno
  read_name v dir s = read_padded dir.context.policy.flags (C.decrypt_name (name_key v dir) s)

  -- the bytes that show writes for a stored name of this directory, in the entry of this number
  unfoldable pub shown_name : Volume → Inode → EntryNumber → Bytes → Bytes
  shown_name v dir e s = cond dir.encrypted (cond (key_present v dir) (name_bytes (name_in (read_name v dir s))) (encoded s e.0)) s

  -- "shown name doesn't decrypt"
  unfoldable pub is_unreadable : Volume → Inode → Bytes → Bool
  is_unreadable v dir s = dir.encrypted && (key_present v dir && not (is_fine (check_of (read_name v dir s))))

-- "the form being plain, read with the key, or shown without it"
unfoldable pub form_in : Volume → Inode → Form
form_in v dir = cond dir.encrypted (cond (key_present v dir) Decrypted Encoded) Plain
