-- What is looked up in a volume. A number that names nothing reads a free record.
-- Sentences in quotation marks are document 01's, in its words. Assumes nothing.
use Rattle.std.specs.Prelude.{ℕ, zero, suc, ◌≡◌, Bool, true, false, cond, not, ◌&&◌, List, get_or, eqb, ltb}
use Rattle.lists.specs.Bytes.{Bytes, same, first_at}
use Rattle.policy.specs.Policies.{is_master_key_size}
use Rattle.volume.specs.Volume.{inode_slots, entry_slots, no_key, no_inode, no_entry, key_bytes, name_of}
use Rattle.ids.specs.declared.InodeNumber.{InodeNumber}
use Rattle.ids.specs.declared.EntryNumber.{EntryNumber}
use Rattle.volume.specs.declared.Key.{Key}
use Rattle.volume.specs.declared.Inode.{Inode}
use Rattle.volume.specs.declared.Entry.{Entry}
use Rattle.volume.specs.declared.Volume.{Volume}
use Rattle.volume.specs.declared.Met.{Met}
use Rattle.volume.specs.declared.Met.TheVariants.{Moved, Root, Neither}

-- ---- the keyring

-- the slot of this number; past the last one, a free record
abbrev pub key_at : Volume → ℕ → Key
key_at v k = get_or v.keys k no_key

abbrev pub is_free_key : Key → Bool
is_free_key k = eqb k.len 0

-- the key is there, under this descriptor ("on the ring")
abbrev pub on_keyring : Bytes → Key → Bool
on_keyring d k = not (is_free_key k) && same k.descriptor d

-- the slot of the key with this descriptor, or the number of slots
unfoldable pub key_slot_of : Volume → Bytes → ℕ
key_slot_of v d = first_at (on_keyring d) v.keys

-- "A new key, thing or place takes the lowest free slot or number"
unfoldable pub free_key_slot : Volume → ℕ
free_key_slot v = first_at is_free_key v.keys

-- the key with this descriptor, or a free record
unfoldable pub key_of : Volume → Bytes → Key
key_of v d = get_or v.keys (key_slot_of v d) no_key

abbrev pub master_key : Volume → Bytes → Bytes
master_key v d = key_bytes (key_of v d)

abbrev pub descriptor_of : Inode → Bytes
descriptor_of i = i.context.policy.descriptor

-- "A policy's key is present when its descriptor is on the ring with a key of 64 bytes."
unfoldable pub key_present : Volume → Inode → Bool
key_present v i = is_master_key_size i.context.policy (key_of v (descriptor_of i)).len

-- the inode is encrypted and its key is absent
unfoldable pub lacks_key : Volume → Inode → Bool
lacks_key v i = i.encrypted && not (key_present v i)

-- ---- inodes

abbrev pub inode_at : Volume → InodeNumber → Inode
inode_at v n = get_or v.inodes n.0 no_inode

-- by a bare number, as what holds of every number is said
abbrev pub node_at : Volume → ℕ → Inode
node_at v i = inode_at v (record { 0 = i })

-- a free record: no inode (document 01: thing) stands there
abbrev pub is_free : Inode → Bool
is_free i = eqb i.kind 0

abbrev pub is_directory : Inode → Bool
is_directory i = eqb i.kind 1

-- the lowest number that is free
unfoldable pub free_inode : Volume → ℕ
free_inode v = first_at is_free v.inodes

unfoldable pub bears_nonce : Bytes → Inode → Bool
bears_nonce x i = i.encrypted && same i.context.nonce x

unfoldable pub nonce_holder : Volume → Bytes → ℕ
nonce_holder v x = first_at (bears_nonce x) v.inodes

-- the nonce is "borne by a thing now there"
abbrev pub is_borne : Volume → Bytes → Bool
is_borne v x = ltb (nonce_holder v x) inode_slots

-- ---- directory entries

abbrev pub entry_at : Volume → EntryNumber → Entry
entry_at v n = get_or v.entries n.0 no_entry

-- by a bare number
abbrev pub slot_at : Volume → ℕ → Entry
slot_at v e = entry_at v (record { 0 = e })

-- a free record: no entry (document 01: place) stands there
abbrev pub is_vacant : Entry → Bool
is_vacant e = eqb e.len 0

-- the entry is in use
abbrev pub Used : Volume → ℕ → Type 0
Used v e = is_vacant (slot_at v e) ≡ false

-- the directory that an entry stands in, and the inode that it holds
abbrev pub dir_of : Volume → ℕ → Inode
dir_of v e = inode_at v (slot_at v e).parent

abbrev pub node_of : Volume → ℕ → Inode
node_of v e = inode_at v (slot_at v e).inode

-- the lowest number that is free
unfoldable pub free_entry : Volume → ℕ
free_entry v = first_at is_vacant v.entries

-- an entry of this directory
abbrev pub is_in : InodeNumber → Entry → Bool
is_in p e = not (is_vacant e) && eqb e.parent.0 p.0

-- "Names are compared as stored."
abbrev pub is_named : InodeNumber → Bytes → Entry → Bool
is_named p s e = is_in p e && same (name_of e) s

-- the entry of this directory with this stored name, or the number of slots
unfoldable pub entry_named : Volume → InodeNumber → Bytes → ℕ
entry_named v p s = first_at (is_named p s) v.entries

-- "name taken"
abbrev pub is_taken : Volume → InodeNumber → Bytes → Bool
is_taken v p s = ltb (entry_named v p s) entry_slots

unfoldable pub first_child : Volume → InodeNumber → ℕ
first_child v i = first_at (is_in i) v.entries

-- "folder has entries"
abbrev pub has_entries : Volume → InodeNumber → Bool
has_entries v i = ltb (first_child v i) entry_slots

-- an entry that holds this inode
abbrev pub is_link : InodeNumber → Entry → Bool
is_link i e = not (is_vacant e) && eqb e.inode.0 i.0

unfoldable pub first_link : List Entry → InodeNumber → ℕ
first_link es i = first_at (is_link i) es

abbrev pub is_held : List Entry → InodeNumber → Bool
is_held es i = ltb (first_link es i) entry_slots

-- ---- the climb: "climbs from the new parent and stops at whichever it meets first, the moved folder or the root"

-- the directory that an inode stands in, by its first entry; the root where it has none
unfoldable pub parent_of : Volume → InodeNumber → InodeNumber
parent_of v i = (get_or v.entries (first_link v.entries i) no_entry).parent

-- with a number of steps left, so that it ends on any volume
unfoldable pub climb_from : Volume → InodeNumber → ℕ → InodeNumber → Met
climb_from v moved zero from = cond (eqb from.0 moved.0) Moved (cond (eqb from.0 0) Root Neither)
climb_from v moved (suc left) from = cond (eqb from.0 moved.0) Moved (cond (eqb from.0 0) Root (climb_from v moved left (parent_of v from)))

abbrev pub is_moved : Met → Bool
is_moved Moved = true
is_moved Root = false
is_moved Neither = false

-- a directory put under itself: "meeting the moved folder, the new parent itself included"
unfoldable pub is_under_itself : Volume → InodeNumber → InodeNumber → Bool
is_under_itself v moved parent = is_directory (inode_at v moved) && is_moved (climb_from v moved inode_slots parent)
