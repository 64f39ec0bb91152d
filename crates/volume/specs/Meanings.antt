-- What the tests in the definitions of a volume mean: each that is named here, and on which a table of checks, the rules of a sound volume, the policy clause or the
-- two runs lean, is equal, in both directions, to a plain predicate in which no test stands; and what the views of requests and answers see. What a shown name has to pass is said in DoneWhen.antt: ShowDone.
-- Sentences in quotation marks are those of documents 00 and 01, in their words. Assumes nothing.
use Rattle.std.specs.Prelude.{ℕ, ◌≤◌, ◌<◌, ◌≡◌, ◌≢◌, ◌⊎◌, ◌↔◌, true, false, replicate, ltb, leb, Ok, Err}
use Rattle.std.proofs.Math.Option.{some}
use Rattle.lists.specs.Bytes.{Bytes}
use Rattle.errno.specs.Refusals.{fine, refuse, number}
use Rattle.errno.specs.declared.Errno.{Errno}
use Rattle.errno.specs.declared.Errno.TheVariants.{ENOENT, ENOTDIR}
use Rattle.policy.specs.Policies.{policy_bytes}
use Rattle.policy.specs.Meanings.{MasterKeySize}
use Rattle.volume.specs.Volume.{key_slots, inode_slots, entry_slots, no_key, no_inode, no_entry, root_number, name_of}
use Rattle.volume.specs.Lookup.{is_free_key, key_slot_of, free_key_slot, descriptor_of, key_present, lacks_key, inode_at, is_free, is_directory, free_inode, is_borne, is_vacant, free_entry, entry_named, is_taken, has_entries, is_held, is_under_itself, key_at, node_at, slot_at, Used}
use Rattle.volume.specs.DirectoryNames.{form_in}
use Rattle.volume.specs.Checks.{directory_check, is_policy_refused, is_bad_kind, is_bad_key_length, is_nonce_needed}
use Rattle.volume.specs.Step.{lent}
use Rattle.volume.specs.Sound.{EntryIn, EntryOf, Below, KeyLength}
use Rattle.volume.specs.PolicyClause.{WouldLack}
use Rattle.ids.specs.declared.InodeNumber.{InodeNumber}
use Rattle.ids.specs.declared.EntryNumber.{EntryNumber}
use Rattle.volume.specs.declared.Inode.{Inode}
use Rattle.volume.specs.declared.Volume.{Volume}
use Rattle.volume.specs.declared.Form.TheVariants.{Plain as IsPlain, Decrypted as IsDecrypted, Encoded as IsEncoded}
use Rattle.volume.specs.declared.ShownEntry.{ShownEntry as AnsweredEntry}
use Rattle.volume.specs.Request.{add_key, show, seal, unseal, key_buffer, name_buffer, block_buffer, lends, Plain, Decrypted, Encoded, ShownEntry, Answer, refused, done, created, at, policy_is, shown, refusal_in, shown_in, replied, create_answered, entry_answered, policy_answered, form_answered, show_answered}

-- the least number that ..
pub record Least (P : ℕ → Type 0) (n : ℕ) : Type 0 where
  pub holds : P n
  pub least : (k : ℕ) → P k → n ≤ k

-- ---- keys

-- this slot of the keyring is free
abbrev pub KeySlotFree : Volume → ℕ → Type 0
KeySlotFree v k = (key_at v k).len ≡ 0

-- this slot of the keyring holds a key, under this descriptor
pub record KeyIn (v : Volume) (d : Bytes) (k : ℕ) : Type 0 where
  pub in_use : (key_at v k).len ≢ 0
  pub descriptor : (key_at v k).descriptor ≡ d

-- "descriptor on the ring"
abbrev pub KeyHeld : Volume → Bytes → Type 0
KeyHeld v d = (k : ℕ) × KeyIn v d k

-- "A policy's key is present when its descriptor is on the ring with a key of 64 bytes. A shorter key is held and counts as absent."
abbrev pub KeyPresent : Volume → Inode → Type 0
KeyPresent v i = (k : ℕ) × KeyIn v (descriptor_of i) k × MasterKeySize i.context.policy (key_at v k).len

-- the inode is encrypted, and its key is not there
abbrev pub LacksKey : Volume → Inode → Type 0
LacksKey v i = (i.encrypted ≡ true) × (KeyPresent v i → ⊥)

-- ---- inodes

-- no inode has this number now
abbrev pub InodeFree : Volume → ℕ → Type 0
InodeFree v i = (node_at v i).kind ≡ 0

-- the inode of this number has a context with this nonce
pub record Bears (v : Volume) (x : Bytes) (i : ℕ) : Type 0 where
  pub encrypted : (node_at v i).encrypted ≡ true
  pub nonce : (node_at v i).context.nonce ≡ x

-- "borne by a thing now there"
abbrev pub NonceBorne : Volume → Bytes → Type 0
NonceBorne v x = (i : ℕ) × Bears v x i

-- ---- directory entries

-- no entry has this number now
abbrev pub EntryFree : Volume → ℕ → Type 0
EntryFree v e = (slot_at v e).len ≡ 0

-- an entry of this number stands in this directory under this name, as it is stored
pub record EntryNamed (v : Volume) (p : InodeNumber) (s : Bytes) (e : ℕ) : Type 0 where
  pub entry : EntryIn v p e
  pub name : name_of (slot_at v e) ≡ s

-- "name taken"
abbrev pub NameTaken : Volume → InodeNumber → Bytes → Type 0
NameTaken v p s = (e : ℕ) × EntryNamed v p s e

-- ---- answers

-- what each case of the code's answers stands for
pub record AnswersStand : Type 0 where
  pub done_is : replied fine ≡ done
  pub done_refused : (e : Errno) → replied (refuse e) ≡ refused (number e)
  pub created_is : (i : InodeNumber) (e : EntryNumber) → create_answered (Ok (record { inode = i; entry = e })) ≡ created i e
  pub create_refused : (e : Errno) → create_answered (Err e) ≡ refused (number e)
  pub entry_is : (e : EntryNumber) → entry_answered (Ok e) ≡ at e
  pub entry_refused : (e : Errno) → entry_answered (Err e) ≡ refused (number e)
  pub policy_is_lem : (b : Bytes) → policy_answered fine b ≡ policy_is b
  pub policy_refused : (e : Errno) (b : Bytes) → policy_answered (refuse e) b ≡ refused (number e)
  -- "the form being plain, read with the key, or shown without it"
  pub forms : (form_answered IsPlain ≡ Plain) × (form_answered IsDecrypted ≡ Decrypted) × (form_answered IsEncoded ≡ Encoded)
  pub shown_is : (s : AnsweredEntry)
      → show_answered (Ok s) ≡ shown (record { parent = s.parent; inode = s.inode; kind = s.kind; form = form_answered s.form; len = s.len })
  pub show_refused : (e : Errno) → show_answered (Err e) ≡ refused (number e)

-- what a request lends, what an answer refuses with, and which entry it shows
pub record ViewsMean : Type 0 where
  pub key_lent : (d k : Bytes) → lends (add_key d k) ≡ key_buffer k
  pub name_lent : (e : EntryNumber) (b : Bytes) → lends (show e b) ≡ name_buffer b
  pub block_sealed : (i : InodeNumber) (n : ℕ) (b : Bytes) → lends (seal i n b) ≡ block_buffer b
  pub block_opened : (i : InodeNumber) (n : ℕ) (b : Bytes) → lends (unseal i n b) ≡ block_buffer b
  -- and its bytes, which a refusal leaves (Leaves.antt: refused-all)
  pub key_bytes_lem : (d k : Bytes) → lent (add_key d k) ≡ k
  pub name_bytes_lem : (e : EntryNumber) (b : Bytes) → lent (show e b) ≡ b
  pub sealed_bytes : (i : InodeNumber) (n : ℕ) (b : Bytes) → lent (seal i n b) ≡ b
  pub opened_bytes : (i : InodeNumber) (n : ℕ) (b : Bytes) → lent (unseal i n b) ≡ b
  pub refusal : (a : Answer) (n : ℕ) → (refusal_in a ≡ some n) ↔ (a ≡ refused n)
  pub shown_entry : (a : Answer) (s : ShownEntry) → (shown_in a ≡ some s) ↔ (a ≡ shown s)

-- ---- the tests of numbers and records

pub record PlainMeanings : Type 0 where
  pub answers : AnswersStand
  pub views : ViewsMean
  pub key_length : (n : ℕ) → (is_bad_key_length n ≡ false) ↔ KeyLength n
  -- "Kinds: 1 folder, 2 regular file, 3 symlink, 4 special"
  pub kind : (k : ℕ) → (is_bad_kind k ≡ false) ↔ ((1 ≤ k) × (k ≤ 4))
  -- "a special child gets no context, and a child of a plain folder ignores the nonce"
  pub nonce_needed : (dir : Inode) (k : ℕ) → (is_nonce_needed dir k ≡ true) ↔ ((dir.encrypted ≡ true) × (k ≤ 3))
  -- "an encrypted folder would gain a regular file, folder or symlink that lacks that folder's policy"
  pub policy_refused : (dir node : Inode) → (is_policy_refused dir node ≡ true) ↔ WouldLack dir node
  -- "A freed record is all zeros", written out
  pub free_key : (no_key.len ≡ 0) × (no_key.descriptor ≡ replicate 8 0) × (no_key.bytes ≡ replicate 64 0)
  pub free_inode_lem : (no_inode.kind ≡ 0) × (no_inode.encrypted ≡ false) × (policy_bytes no_inode.context.policy ≡ replicate 12 0) × (no_inode.context.nonce ≡ replicate 16 0)
  pub free_entry_lem : (no_entry.len ≡ 0) × (no_entry.parent.0 ≡ 0) × (no_entry.inode.0 ≡ 0) × (no_entry.name ≡ replicate 255 0)

-- ---- the tests on a volume, of one that requests made

pub record Meanings (v : Volume) : Type 0 where
  pub key_free : (k : ℕ) → (is_free_key (key_at v k) ≡ true) ↔ KeySlotFree v k
  pub key_held : (d : Bytes) → (ltb (key_slot_of v d) key_slots ≡ true) ↔ KeyHeld v d
  pub key_slot_lem : (d : Bytes) (k : ℕ) → k < key_slots → (key_slot_of v d ≡ k) ↔ Least (KeyIn v d) k
  pub key_present_lem : (i : Inode) → (key_present v i ≡ true) ↔ KeyPresent v i
  pub key_lacking : (i : Inode) → (lacks_key v i ≡ true) ↔ LacksKey v i
  -- "A new key, thing or place takes the lowest free slot or number"
  pub lowest_key_slot : (k : ℕ) → k < key_slots → (free_key_slot v ≡ k) ↔ Least (KeySlotFree v) k
  pub keyring_full : (leb key_slots (free_key_slot v) ≡ true) ↔ ((k : ℕ) → k < key_slots → KeySlotFree v k → ⊥)
  pub inode_free : (i : InodeNumber) → (is_free (inode_at v i) ≡ true) ↔ InodeFree v i.0
  pub directory : (i : InodeNumber) → (is_directory (inode_at v i) ≡ true) ↔ ((inode_at v i).kind ≡ 1)
  -- "parent exists; parent is a folder"
  pub parent_fine : (p : InodeNumber) → (directory_check v p ≡ fine) ↔ ((inode_at v p).kind ≡ 1)
  pub parent_missing : (p : InodeNumber) → (directory_check v p ≡ refuse ENOENT) ↔ InodeFree v p.0
  pub parent_no_directory : (p : InodeNumber) → (directory_check v p ≡ refuse ENOTDIR) ↔ (((inode_at v p).kind ≢ 0) × ((inode_at v p).kind ≢ 1))
  pub lowest_inode : (i : ℕ) → i < inode_slots → (free_inode v ≡ i) ↔ Least (InodeFree v) i
  pub inodes_full : (leb inode_slots (free_inode v) ≡ true) ↔ ((i : ℕ) → i < inode_slots → InodeFree v i → ⊥)
  pub nonce_borne : (x : Bytes) → (is_borne v x ≡ true) ↔ NonceBorne v x
  pub entry_free : (e : ℕ) → (is_vacant (slot_at v e) ≡ true) ↔ EntryFree v e
  pub entry_used : (e : ℕ) → Used v e ↔ ((slot_at v e).len ≢ 0)
  pub lowest_entry : (e : ℕ) → e < entry_slots → (free_entry v ≡ e) ↔ Least (EntryFree v) e
  pub entries_full : (leb entry_slots (free_entry v) ≡ true) ↔ ((e : ℕ) → e < entry_slots → EntryFree v e → ⊥)
  pub name_taken : (p : InodeNumber) (s : Bytes) → (is_taken v p s ≡ true) ↔ NameTaken v p s
  pub name_found : (p : InodeNumber) (s : Bytes) (e : ℕ) → e < entry_slots → (entry_named v p s ≡ e) ↔ Least (EntryNamed v p s) e
  -- "folder has entries"
  pub has_entries_lem : (p : InodeNumber) → (has_entries v p ≡ true) ↔ ((e : ℕ) × EntryIn v p e)
  -- "When its last place goes, the thing goes."
  pub held : (i : InodeNumber) → (is_held v.entries i ≡ true) ↔ ((e : ℕ) × EntryOf v i e)
  -- "folder put under itself": the new parent is the moved directory or stands below it
  pub under_itself : (moved parent : InodeNumber) → (inode_at v parent).kind ≡ 1
      → (is_under_itself v moved parent ≡ true) ↔ (((inode_at v moved).kind ≡ 1) × ((parent ≡ moved) ⊎ Below v moved parent))
  -- every inode that stands is the root or stands below it
  pub reached : (i : InodeNumber) → (inode_at v i).kind ≢ 0 → (i ≡ root_number) ⊎ Below v root_number i
  -- "the form being plain, read with the key, or shown without it"
  pub form_plain : (dir : Inode) → (form_in v dir ≡ Plain) ↔ (dir.encrypted ≡ false)
  pub form_decrypted : (dir : Inode) → (form_in v dir ≡ Decrypted) ↔ ((dir.encrypted ≡ true) × KeyPresent v dir)
  pub form_encoded : (dir : Inode) → (form_in v dir ≡ Encoded) ↔ LacksKey v dir
