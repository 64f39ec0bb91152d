-- What holds of every volume that started fresh and was changed by requests alone: document 01, "What stands on the shelf", a field for each rule.
-- Sentences in quotation marks are document 01's, in its words. Assumes nothing.
use Rattle.std.specs.Prelude.{ℕ, ◌-◌, ◌≤◌, ◌<◌, ◌≡◌, ◌≢◌, ◌⊎◌, true, false, ◌++◌, length}
use Rattle.lists.specs.Bytes.{zeros}
use Rattle.policy.specs.Policies.{no_context}
use Rattle.policy.specs.Meanings.{ValidPolicy}
use Rattle.fscrypt.specs.Names.{padded_length}
use Rattle.fscrypt.specs.Meanings.{PlainName}
use Rattle.volume.specs.Volume.{key_slots, inode_slots, entry_slots, no_key, no_inode, no_entry, root_number, key_bytes, name_of}
use Rattle.volume.specs.Lookup.{key_at, is_free_key, inode_at, node_at, is_free, slot_at, is_vacant, Used, dir_of, node_of}
use Rattle.volume.specs.declared.Inode.{Inode}
use Rattle.volume.specs.declared.Volume.{Volume}
use Rattle.ids.specs.declared.InodeNumber.{InodeNumber}

-- ---- what stands where

-- an entry of this number stands in this directory
pub record EntryIn (v : Volume) (p : InodeNumber) (e : ℕ) : Type 0 where
  pub in_use : (slot_at v e).len ≢ 0
  pub parent : (slot_at v e).parent ≡ p

-- an entry of this number holds this inode
pub record EntryOf (v : Volume) (i : InodeNumber) (e : ℕ) : Type 0 where
  pub in_use : (slot_at v e).len ≢ 0
  pub inode : (slot_at v e).inode ≡ i

-- an inode stands below a directory, entry by entry: in it, or in a directory that stands below it
pub data Below (v : Volume) : InodeNumber → InodeNumber → Type 0 where
  inside : {d i : InodeNumber} (e : ℕ) → EntryIn v d e → EntryOf v i e → Below v d i
  deeper : {d m i : InodeNumber} (e : ℕ) → Below v d m → EntryIn v m e → EntryOf v i e → Below v d i

-- "a master key of 16, 32, 48 or 64 bytes"
abbrev pub KeyLength : ℕ → Type 0
KeyLength n = (n ≡ 16) ⊎ ((n ≡ 32) ⊎ ((n ≡ 48) ⊎ (n ≡ 64)))

-- an inode bears the policy of a directory
pub record BearsPolicy (dir node : Inode) : Type 0 where
  pub has_context : node.encrypted ≡ true
  pub same : node.context.policy ≡ dir.context.policy

-- a directory may hold an inode: if it is encrypted and the inode is a regular file, directory or symlink, the inode bears its policy
abbrev pub MayHold : Inode → Inode → Type 0
MayHold dir node = dir.encrypted ≡ true → node.kind ≤ 3 → BearsPolicy dir node

-- ---- the rules

pub record Sound (v : Volume) : Type 0 where
  -- "Keys: at most 8 .. Things: at most 64 .. Places: at most 64"
  pub key_slots_lem : length v.keys ≡ key_slots
  pub inode_slots_lem : length v.inodes ≡ inode_slots
  pub entry_slots_lem : length v.entries ≡ entry_slots
  -- "each an 8-byte descriptor and a master key of 16, 32, 48 or 64 bytes"; a descriptor is on the keyring once
  pub key_lengths : (k : ℕ) → is_free_key (key_at v k) ≡ false → KeyLength (key_at v k).len
  pub key_sizes : (k : ℕ) → length (key_bytes (key_at v k)) ≡ (key_at v k).len
  pub descriptors : (k : ℕ) → length (key_at v k).descriptor ≡ 8
  pub descriptors_apart : (j k : ℕ) → is_free_key (key_at v j) ≡ false → is_free_key (key_at v k) ≡ false → (key_at v j).descriptor ≡ (key_at v k).descriptor → j ≡ k
  -- "Thing 0 is the root folder; it always exists and is never encrypted."
  pub root_directory : (node_at v 0).kind ≡ 1
  pub root_plain : (node_at v 0).encrypted ≡ false
  -- "Kinds: 1 folder, 2 regular file, 3 symlink, 4 special"
  pub kinds : (i : ℕ) → (node_at v i).kind ≤ 4
  -- "A place joins a parent folder, a thing and a stored name of 1 to 255 bytes."
  pub parents : (e : ℕ) → Used v e → (dir_of v e).kind ≡ 1
  pub inodes_in_use : (e : ℕ) → Used v e → is_free (node_of v e) ≡ false
  pub name_sizes : (e : ℕ) → length (name_of (slot_at v e)) ≡ (slot_at v e).len
  pub name_lengths : (e : ℕ) → Used v e → (0 < length (name_of (slot_at v e))) × (length (name_of (slot_at v e)) ≤ 255)
  -- "A thing other than the root has one place or more; a folder has exactly one."
  pub root_unheld : (e : ℕ) → Used v e → (slot_at v e).inode.0 ≢ 0
  pub has_entry : (i : ℕ) → i ≢ 0 → is_free (node_at v i) ≡ false → (e : ℕ) × Used v e × ((slot_at v e).inode.0 ≡ i)
  pub one_entry : (a b : ℕ) → Used v a → Used v b → (slot_at v a).inode ≡ (slot_at v b).inode → (node_of v a).kind ≡ 1 → a ≡ b
  -- every directory is the root or stands below it
  pub reachable : (i : InodeNumber) → (inode_at v i).kind ≡ 1 → (i ≡ root_number) ⊎ Below v root_number i
  -- stored names within a directory are distinct
  pub names_apart : (a b : ℕ) → Used v a → Used v b → (slot_at v a).parent ≡ (slot_at v b).parent → name_of (slot_at v a) ≡ name_of (slot_at v b) → a ≡ b
  -- demand 2: "at no time does one stand there"
  pub policies : (e : ℕ) → Used v e → MayHold (dir_of v e) (node_of v e)
  -- "a special child gets no context"; a context's policy is valid, and its nonce is its own
  pub specials_plain : (i : ℕ) → (node_at v i).kind ≡ 4 → (node_at v i).encrypted ≡ false
  pub contexts_valid : (i : ℕ) → (node_at v i).encrypted ≡ true → ValidPolicy (node_at v i).context.policy
  pub context_descriptors : (i : ℕ) → length (node_at v i).context.policy.descriptor ≡ 8
  pub context_nonces : (i : ℕ) → length (node_at v i).context.nonce ≡ 16
  pub nonces_apart : (i j : ℕ) → (node_at v i).encrypted ≡ true → (node_at v j).encrypted ≡ true → (node_at v i).context.nonce ≡ (node_at v j).context.nonce → i ≡ j
  -- a name in a plain directory is a plain name, and in an encrypted one it has the padded length of some plain name
  pub plain_names : (e : ℕ) → Used v e → (dir_of v e).encrypted ≡ false → PlainName (name_of (slot_at v e))
  pub encrypted_lengths : (e : ℕ) → Used v e → (dir_of v e).encrypted ≡ true
      → (n : ℕ) × (0 < n) × (n ≤ 255) × (length (name_of (slot_at v e)) ≡ padded_length (dir_of v e).context.policy.flags n)
  -- "A freed record is all zeros, and so are a record's unused bytes."
  pub free_keys : (k : ℕ) → is_free_key (key_at v k) ≡ true → key_at v k ≡ no_key
  pub free_inodes : (i : ℕ) → is_free (node_at v i) ≡ true → node_at v i ≡ no_inode
  pub free_entries : (e : ℕ) → is_vacant (slot_at v e) ≡ true → slot_at v e ≡ no_entry
  pub unused_key_bytes : (k : ℕ) → (key_at v k).bytes ≡ key_bytes (key_at v k) ++ zeros (64 - (key_at v k).len)
  pub unused_name_bytes : (e : ℕ) → (slot_at v e).name ≡ name_of (slot_at v e) ++ zeros (255 - (slot_at v e).len)
  pub no_context_lem : (i : ℕ) → (node_at v i).encrypted ≡ false → (node_at v i).context ≡ no_context
