-- What a search answers: the number of the slot that it came to, and none where it came to the end of the table. Assumes nothing.
use Rattle.std.specs.Prelude.{ℕ, cond, ltb, Option, Some, None}
use Rattle.volume.specs.Volume.{key_slots, inode_slots, entry_slots}
use Rattle.ids.specs.declared.InodeNumber.{InodeNumber}
use Rattle.ids.specs.declared.EntryNumber.{EntryNumber}

abbrev pub entry_found : ℕ → Option EntryNumber
entry_found n = cond (ltb n entry_slots) (Some (record { 0 = n })) None

abbrev pub inode_found : ℕ → Option InodeNumber
inode_found n = cond (ltb n inode_slots) (Some (record { 0 = n })) None

-- a slot of the keyring
abbrev pub slot_found : ℕ → Option ℕ
slot_found n = cond (ltb n key_slots) (Some n) None
