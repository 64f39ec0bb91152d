-- What stands under a directory's key, said of the slot of the keyring that holds it: the name that the directory stores, the block that seal and open make of a
-- block, and the name that show answers. Another mode, key, nonce, cut or form breaks this, also where code and definitions have it alike.
-- Sentences in quotation marks are document 01's, in its words. Assumes nothing.
use Rattle.std.specs.Prelude.{ℕ, ◌-◌, ◌≡◌, true, false, ◌++◌, length, take, drop}
use Rattle.lists.specs.Bytes.{Bytes, zeros}
use Rattle.policy.specs.Policies.{name_key_size}
use Rattle.policy.specs.Meanings.{MasterKeySize}
use Rattle.fscrypt.specs.Cipher.{Cipher}
use Rattle.fscrypt.specs.Encoded.{encoded}
use Rattle.fscrypt.specs.Meanings.{Multiple, PaddedTo, ReadAs}
use Rattle.volume.specs.Volume.{key_bytes, name_of}
use Rattle.volume.specs.Request.{show, seal, unseal, done, shown, ShownEntry, Form, Plain, Decrypted, Encoded}
use Rattle.volume.specs.Lookup.{key_of, inode_at, entry_at, key_at, dir_of}
use Rattle.volume.specs.DirectoryNames.{stored}
use Rattle.volume.specs.Step.{step}
use Rattle.volume.specs.Sound.{Sound}
use Rattle.volume.specs.Meanings.{KeyIn, LacksKey}
use Rattle.ids.specs.declared.InodeNumber.{InodeNumber}
use Rattle.ids.specs.declared.EntryNumber.{EntryNumber}
use Rattle.volume.specs.declared.Inode.{Inode}
use Rattle.volume.specs.declared.Volume.{Volume}

module _ (C : Cipher) where
  -- "The derived key is the master key encrypted .. the nonce being the AES key": of an inode, by the master key in this slot
  abbrev pub derived_by : Volume → ℕ → Inode → Bytes
  derived_by v k i = C.derive (key_bytes (key_at v k)) i.context.nonce

  -- "it is cut to the first 32 bytes for names": the policy says to how many (policy/specs/Meanings.antt: name-key-size)
  abbrev pub names_by : Volume → ℕ → Inode → Bytes
  names_by v k dir = take (name_key_size dir.context.policy) (derived_by v k dir)

-- "show answers parent, thing, kind, form, length and name"; "Show writes the name's bytes at the buffer's start and no others."
pub record ShownIn (before after : Bytes) (s : ShownEntry) (f : Form) (n : Bytes) : Type 0 where
  pub form : s.form ≡ f
  pub len : s.len ≡ length n
  pub name : take s.len after ≡ n
  pub others : drop s.len after ≡ drop s.len before

pub record UnderKeys (C : Cipher) : Type 0 where
  -- a descriptor is on the keyring once: the key found is the one that is there
  pub key_of_lem : (v : Volume) → Sound v → (d : Bytes) (k : ℕ) → KeyIn v d k → key_of v d ≡ key_at v k
  -- a directory without a context stores a name as it is given
  pub stored_plain : (v : Volume) (dir : Inode) (n : Bytes) → dir.encrypted ≡ false → stored C v dir n ≡ n
  -- "Padding is NULs. .. The key is the parent folder's."
  pub stored_encrypted : (v : Volume) → Sound v → (dir : Inode) (n : Bytes) (k q m : ℕ) → dir.encrypted ≡ true → KeyIn v dir.context.policy.descriptor k
      → Multiple dir.context.policy.flags q → PaddedTo q (length n) m → stored C v dir n ≡ C.encrypt_name (names_by C v k dir) (n ++ zeros (m - length n))
  -- "seal and open also change the lent block": by the contents mode of the inode's own policy, under its own derived key and the number given
  pub sealed : (v : Volume) → Sound v → (i : InodeNumber) (number : ℕ) (b : Bytes) (k : ℕ) → KeyIn v (inode_at v i).context.policy.descriptor k
      → (step C v (seal i number b)).answer ≡ done → (step C v (seal i number b)).buffer ≡ C.seal (inode_at v i).context.policy.contents (derived_by C v k (inode_at v i)) number b
  pub opened : (v : Volume) → Sound v → (i : InodeNumber) (number : ℕ) (b : Bytes) (k : ℕ) → KeyIn v (inode_at v i).context.policy.descriptor k
      → (step C v (unseal i number b)).answer ≡ done → (step C v (unseal i number b)).buffer ≡ C.unseal (inode_at v i).context.policy.contents (derived_by C v k (inode_at v i)) number b
  -- "the form being plain, read with the key, or shown without it"
  pub shown_plain : (v : Volume) → Sound v → (e : EntryNumber) (b : Bytes) (s : ShownEntry) → (step C v (show e b)).answer ≡ shown s
      → (dir_of v e.0).encrypted ≡ false → ShownIn b (step C v (show e b)).buffer s Plain (name_of (entry_at v e))
  pub shown_decrypted : (v : Volume) → Sound v → (e : EntryNumber) (b : Bytes) (s : ShownEntry) → (step C v (show e b)).answer ≡ shown s
      → (dir_of v e.0).encrypted ≡ true → (k : ℕ) → KeyIn v (dir_of v e.0).context.policy.descriptor k
      → MasterKeySize (dir_of v e.0).context.policy (key_at v k).len → (q : ℕ) → Multiple (dir_of v e.0).context.policy.flags q
      → (n : Bytes) × ReadAs q (C.decrypt_name (names_by C v k (dir_of v e.0)) (name_of (entry_at v e))) n × ShownIn b (step C v (show e b)).buffer s Decrypted n
  pub shown_encoded : (v : Volume) → Sound v → (e : EntryNumber) (b : Bytes) (s : ShownEntry) → (step C v (show e b)).answer ≡ shown s
      → LacksKey v (dir_of v e.0) → ShownIn b (step C v (show e b)).buffer s Encoded (encoded (name_of (entry_at v e)) e.0)
