-- The records of a volume, document 01, "What stands on the shelf".
-- Sentences in quotation marks are document 01's, in its words. Assumes nothing.
use Rattle.std.specs.Prelude.{ℕ, ◌-◌, true, false, ◌++◌, replicate, length, take, set}
use Rattle.lists.specs.Bytes.{Bytes, zeros}
use Rattle.policy.specs.Policies.{no_context}
use Rattle.policy.specs.declared.Policy.{Policy}
use Rattle.ids.specs.declared.InodeNumber.{InodeNumber}
use Rattle.volume.specs.declared.Key.{Key}
use Rattle.volume.specs.declared.Inode.{Inode}
use Rattle.volume.specs.declared.Entry.{Entry}
use Rattle.volume.specs.declared.Volume.{Volume}

-- ---- how much there is room for: "Keys: at most 8 .. Things: at most 64 .. Places: at most 64"

abbrev pub key_slots : ℕ
key_slots = 8

abbrev pub inode_slots : ℕ
inode_slots = 64

abbrev pub entry_slots : ℕ
entry_slots = 64

-- ---- "A freed record is all zeros". It is also what is read past the end of a table

abbrev pub no_key : Key
no_key = record { len = 0; descriptor = zeros 8; bytes = zeros 64 }

-- an inode without a context
abbrev pub plain_inode : ℕ → Inode
plain_inode kind = record { kind = kind; encrypted = false; context = no_context }

abbrev pub no_inode : Inode
no_inode = plain_inode 0

abbrev pub root_number : InodeNumber
root_number = record { 0 = 0 }

abbrev pub no_entry : Entry
no_entry = record { len = 0; parent = root_number; inode = root_number; name = zeros 255 }

-- ---- "and so are a record's unused bytes"

-- the slot of a key
abbrev pub key_slot : Bytes → Bytes → Key
key_slot d k = record { len = length k; descriptor = d; bytes = k ++ zeros (64 - length k) }

-- the master key in a slot
abbrev pub key_bytes : Key → Bytes
key_bytes k = take k.len k.bytes

-- the slot of an entry in a directory, of an inode, with a stored name
abbrev pub entry_slot : InodeNumber → InodeNumber → Bytes → Entry
entry_slot p i s = record { len = length s; parent = p; inode = i; name = s ++ zeros (255 - length s) }

-- the name as stored
abbrev pub name_of : Entry → Bytes
name_of e = take e.len e.name

-- an inode with a context
abbrev pub encrypted_inode : ℕ → Policy → Bytes → Inode
encrypted_inode kind p x = record { kind = kind; encrypted = true; context = record { policy = p; nonce = x } }

-- ---- "A fresh shelf has the root and nothing else."

unfoldable pub fresh : Volume
fresh = record { keys = replicate key_slots no_key; inodes = set (replicate inode_slots no_inode) 0 (plain_inode 1); entries = replicate entry_slots no_entry }
