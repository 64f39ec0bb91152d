-- What each request that was done has done, in plain predicates: what stands in the slots that it writes, and that all else is as it was. An effect that writes
-- another slot, or something else into it, breaks this, also where code and effect agree.
-- Sentences in quotation marks are document 01's, in its words. Assumes nothing.
use Rattle.std.specs.Prelude.{ℕ, ◌-◌, ◌≤◌, ◌<◌, ◌≡◌, ◌≢◌, true, false, ◌++◌, length}
use Rattle.lists.specs.Bytes.{Bytes, zeros}
use Rattle.policy.specs.Policies.{no_context}
use Rattle.policy.specs.Meanings.{PolicyIn}
use Rattle.fscrypt.specs.Cipher.{Cipher}
use Rattle.volume.specs.Volume.{no_key, no_inode, no_entry, key_bytes, name_of}
use Rattle.volume.specs.Request.{add_key, remove_key, set_policy, create, link, rename, exchange, remove, done, created, at}
use Rattle.volume.specs.Lookup.{inode_at, entry_at, key_at, node_at, slot_at}
use Rattle.volume.specs.DirectoryNames.{stored}
use Rattle.volume.specs.Step.{step}
use Rattle.volume.specs.Sound.{EntryOf, BearsPolicy, Sound}
use Rattle.volume.specs.Meanings.{Least, KeySlotFree, KeyIn, KeyHeld}
use Rattle.ids.specs.declared.InodeNumber.{InodeNumber}
use Rattle.ids.specs.declared.EntryNumber.{EntryNumber}
use Rattle.volume.specs.declared.Inode.{Inode}
use Rattle.volume.specs.declared.Entry.{Entry}
use Rattle.volume.specs.declared.Volume.{Volume}

-- ---- what stays: every key, inode or entry but the one of this number

abbrev pub OtherKeysStay : Volume → Volume → ℕ → Type 0
OtherKeysStay v w k = (j : ℕ) → j ≢ k → key_at w j ≡ key_at v j

abbrev pub OtherInodesStay : Volume → Volume → ℕ → Type 0
OtherInodesStay v w i = (j : ℕ) → j ≢ i → node_at w j ≡ node_at v j

abbrev pub OtherEntriesStay : Volume → Volume → ℕ → Type 0
OtherEntriesStay v w e = (j : ℕ) → j ≢ e → slot_at w j ≡ slot_at v j

-- ---- keys

-- the key is on the keyring, in the slot that was the lowest free one
pub record KeyAdded (v w : Volume) (d key : Bytes) : Type 0 where
  pub slot : ℕ
  pub lowest : Least (KeySlotFree v) slot
  pub added : KeyIn w d slot
  pub bytes : key_bytes (key_at w slot) ≡ key
  -- "and so are a record's unused bytes", all zeros
  pub unused : (key_at w slot).bytes ≡ key ++ zeros (64 - length key)
  pub others : OtherKeysStay v w slot
  pub inodes : w.inodes ≡ v.inodes
  pub entries : w.entries ≡ v.entries

-- the key's slot is free, and the descriptor is not on the keyring
pub record KeyRemoved (v w : Volume) (d : Bytes) : Type 0 where
  pub slot : ℕ
  pub held : KeyIn v d slot
  pub freed : key_at w slot ≡ no_key
  pub gone : KeyHeld w d → ⊥
  pub others : OtherKeysStay v w slot
  pub inodes : w.inodes ≡ v.inodes
  pub entries : w.entries ≡ v.entries

-- ---- contexts

-- a directory with the nonce given and the policy that the bytes say
pub record FirstPolicySet (v w : Volume) (i : InodeNumber) (bytes nonce : Bytes) : Type 0 where
  pub directory : (inode_at w i).kind ≡ 1
  pub encrypted : (inode_at w i).encrypted ≡ true
  pub policy : PolicyIn bytes (inode_at w i).context.policy
  pub nonce_given : (inode_at w i).context.nonce ≡ nonce
  pub others : OtherInodesStay v w i.0
  pub entries : w.entries ≡ v.entries
  pub keys : w.keys ≡ v.keys

pub record PolicySet (v w : Volume) (i : InodeNumber) (bytes nonce : Bytes) : Type 0 where
  -- "if encrypted: equal is a success that changes nothing"
  pub equal : (inode_at v i).encrypted ≡ true → w ≡ v
  pub first : (inode_at v i).encrypted ≡ false → FirstPolicySet v w i bytes nonce

-- a child without a context
pub record WithoutContext (child : Inode) : Type 0 where
  pub no_encryption : child.encrypted ≡ false
  pub no_context_lem : child.context ≡ no_context

-- a child with its directory's policy and the nonce given
pub record Inherits (dir child : Inode) (nonce : Bytes) : Type 0 where
  pub bears : BearsPolicy dir child
  pub nonce_given : child.context.nonce ≡ nonce

-- ---- directory entries

-- "A place joins a parent folder, a thing and a stored name": this entry these; "and so are a record's unused bytes", all zeros
pub record Joins (w : Volume) (e : ℕ) (p i : InodeNumber) (s : Bytes) : Type 0 where
  pub parent : (slot_at w e).parent ≡ p
  pub inode : (slot_at w e).inode ≡ i
  pub name : name_of (slot_at w e) ≡ s
  pub len : (slot_at w e).len ≡ length s
  pub unused : (slot_at w e).name ≡ s ++ zeros (255 - length s)

-- an entry that holds another inode, and is otherwise as it was
pub record Holds (before after : Entry) (i : InodeNumber) : Type 0 where
  pub inode : after.inode ≡ i
  pub parent : after.parent ≡ before.parent
  pub len : after.len ≡ before.len
  pub name : after.name ≡ before.name

-- "Exchange swaps the things of two places; names stay."
pub record Exchanged (v w : Volume) (a b : ℕ) : Type 0 where
  pub one : Holds (slot_at v a) (slot_at w a) (slot_at v b).inode
  pub other : Holds (slot_at v b) (slot_at w b) (slot_at v a).inode
  pub others : (j : ℕ) → j ≢ a → j ≢ b → slot_at w j ≡ slot_at v j
  pub inodes : w.inodes ≡ v.inodes
  pub keys : w.keys ≡ v.keys
  -- "Exchange of a place with itself: done, nothing changes", and so of two that hold one inode
  pub itself : (slot_at v a).inode ≡ (slot_at v b).inode → w ≡ v

pub record Removed (v w : Volume) (e : ℕ) : Type 0 where
  pub freed : slot_at w e ≡ no_entry
  pub others : OtherEntriesStay v w e
  -- "When its last place goes, the thing goes.", and only then
  pub last : ((j : ℕ) → j ≢ e → EntryOf v (slot_at v e).inode j → ⊥) → node_at w (slot_at v e).inode.0 ≡ no_inode
  pub not_last : (j : ℕ) → j ≢ e → EntryOf v (slot_at v e).inode j → w.inodes ≡ v.inodes
  pub inodes : OtherInodesStay v w (slot_at v e).inode.0
  pub keys : w.keys ≡ v.keys

module _ (C : Cipher) where
  pub record Created (v w : Volume) (p : InodeNumber) (kind : ℕ) (n nonce : Bytes) (i : InodeNumber) (e : EntryNumber) : Type 0 where
    pub kind_given : (inode_at w i).kind ≡ kind
    -- "A child of an encrypted folder inherits its policy with the nonce given"
    pub inherits : (inode_at v p).encrypted ≡ true → kind ≤ 3 → Inherits (inode_at v p) (inode_at w i) nonce
    -- "a special child gets no context, and a child of a plain folder ignores the nonce"
    pub special : 3 < kind → WithoutContext (inode_at w i)
    pub in_plain : (inode_at v p).encrypted ≡ false → WithoutContext (inode_at w i)
    pub entry : Joins w e.0 p i (stored C v (inode_at v p) n)
    pub inodes : OtherInodesStay v w i.0
    pub others : OtherEntriesStay v w e.0
    pub keys : w.keys ≡ v.keys

  pub record Linked (v w : Volume) (i p : InodeNumber) (n : Bytes) (e : EntryNumber) : Type 0 where
    pub entry : Joins w e.0 p i (stored C v (inode_at v p) n)
    pub others : OtherEntriesStay v w e.0
    pub inodes : w.inodes ≡ v.inodes
    pub keys : w.keys ≡ v.keys

  -- "Rename doesn't replace, and it keeps the place's number"
  pub record Renamed (v w : Volume) (e : EntryNumber) (p : InodeNumber) (n : Bytes) : Type 0 where
    pub entry : Joins w e.0 p (entry_at v e).inode (stored C v (inode_at v p) n)
    pub others : OtherEntriesStay v w e.0
    pub inodes : w.inodes ≡ v.inodes
    pub keys : w.keys ≡ v.keys

  -- ---- the statement

  pub record Does : Type 0 where
    pub key_added : (v : Volume) → Sound v → (d k : Bytes) → (step C v (add_key d k)).answer ≡ done → KeyAdded v (step C v (add_key d k)).volume d k
    pub key_removed : (v : Volume) → Sound v → (d : Bytes) → (step C v (remove_key d)).answer ≡ done → KeyRemoved v (step C v (remove_key d)).volume d
    pub policy_set : (v : Volume) → Sound v → (i : InodeNumber) (p x : Bytes) → (step C v (set_policy i p x)).answer ≡ done
        → PolicySet v (step C v (set_policy i p x)).volume i p x
    pub created_so : (v : Volume) → Sound v → (p : InodeNumber) (kind : ℕ) (n x : Bytes) (i : InodeNumber) (e : EntryNumber)
        → (step C v (create p kind n x)).answer ≡ created i e → Created v (step C v (create p kind n x)).volume p kind n x i e
    pub linked : (v : Volume) → Sound v → (i p : InodeNumber) (n : Bytes) (e : EntryNumber) → (step C v (link i p n)).answer ≡ at e
        → Linked v (step C v (link i p n)).volume i p n e
    pub exchanged : (v : Volume) → Sound v → (a b : EntryNumber) → (step C v (exchange a b)).answer ≡ done
        → Exchanged v (step C v (exchange a b)).volume a.0 b.0
    pub renamed : (v : Volume) → Sound v → (e : EntryNumber) (p : InodeNumber) (n : Bytes) → (step C v (rename e p n)).answer ≡ done
        → Renamed v (step C v (rename e p n)).volume e p n
    pub removed : (v : Volume) → Sound v → (e : EntryNumber) → (step C v (remove e)).answer ≡ done → Removed v (step C v (remove e)).volume e.0
