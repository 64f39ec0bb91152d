-- When a request is refused, and with what: for each request its checks, in document 01's order.
-- Sentences in quotation marks are document 01's, in its words. Assumes nothing.
use Rattle.std.specs.Prelude.{ℕ, Bool, cond, not, ◌&&◌, ◌||◌, eqb, leb, ltb}
use Rattle.lists.specs.Bytes.{Bytes}
use Rattle.errno.specs.Refusals.{Checked, fine, ◌⇒◌, ◌>>◌}
use Rattle.errno.specs.declared.Errno.{Errno}
use Rattle.errno.specs.declared.Errno.TheVariants.{EPERM, ENOENT, EEXIST, EXDEV, ENOTDIR, EINVAL, ENOSPC, ERANGE, ENOTEMPTY, ENODATA, ENOTUNIQ, EUCLEAN, ENOKEY}
use Rattle.policy.specs.Policies.{same_policy, policy_check, read_policy, policy_in}
use Rattle.policy.specs.declared.Policy.{Policy}
use Rattle.fscrypt.specs.Cipher.{Cipher}
use Rattle.fscrypt.specs.Names.{name_check}
use Rattle.volume.specs.Volume.{key_slots, inode_slots, entry_slots, name_of}
use Rattle.volume.specs.DirectoryNames.{stored, is_unreadable}
use Rattle.volume.specs.Lookup.{key_slot_of, free_key_slot, lacks_key, inode_at, is_free, is_directory, free_inode, is_borne, entry_at, is_vacant, free_entry, entry_named, is_taken, has_entries, is_under_itself}
use Rattle.ids.specs.declared.InodeNumber.{InodeNumber}
use Rattle.ids.specs.declared.EntryNumber.{EntryNumber}
use Rattle.volume.specs.declared.Inode.{Inode}
use Rattle.volume.specs.declared.Volume.{Volume}

-- ---- checks that requests share

-- the parent exists and is a directory (document 01: "parent exists; parent is a folder")
unfoldable pub directory_check : Volume → InodeNumber → Checked
directory_check v p = do
  is_free (inode_at v p) ⇒ ENOENT
  not (is_directory (inode_at v p)) ⇒ ENOTDIR
  fine

-- the policy refusal, document 00: "an encrypted folder would gain a regular file, folder or symlink that lacks that folder's policy"
unfoldable pub is_policy_refused : Inode → Inode → Bool
is_policy_refused dir node = dir.encrypted && (leb node.kind 3 && not (node.encrypted && same_policy node.context.policy dir.context.policy))

-- its number: "Later fscrypt editions answer the policy refusal with EXDEV (18) .. Follow them for link, rename and exchange. EPERM stays for linking a folder and for
-- the root." (document 02, Item 2)
abbrev pub policy_refusal : Errno
policy_refusal = EXDEV

-- document 01: "Kinds: 1 folder, 2 regular file, 3 symlink, 4 special"
unfoldable pub is_bad_kind : ℕ → Bool
is_bad_kind kind = eqb kind 0 || ltb 4 kind

-- "a master key of 16, 32, 48 or 64 bytes"
unfoldable pub is_bad_key_length : ℕ → Bool
is_bad_key_length n = not (eqb n 16 || (eqb n 32 || (eqb n 48 || eqb n 64)))

-- a child of an encrypted directory has a context, unless it is special
unfoldable pub is_nonce_needed : Inode → ℕ → Bool
is_nonce_needed dir kind = dir.encrypted && leb kind 3

-- "ENOTUNIQ 76 | nonce needed, and borne by a thing now there" (document 01): the check of a nonce that is needed
unfoldable pub nonce_check : Volume → Bytes → Checked
nonce_check v x = do
  is_borne v x ⇒ ENOTUNIQ
  fine

-- ---- the requests

-- "Add key: length, descriptor, room."
unfoldable pub add_key_check : Volume → Bytes → ℕ → Checked
add_key_check v d n = do
  is_bad_key_length n ⇒ EINVAL
  ltb (key_slot_of v d) key_slots ⇒ EEXIST
  leb key_slots (free_key_slot v) ⇒ ENOSPC
  fine

-- "Remove key: held or not."
unfoldable pub remove_key_check : Volume → Bytes → Checked
remove_key_check v d = do
  leb key_slots (key_slot_of v d) ⇒ ENOKEY
  fine

-- ".. if encrypted: equal is a success that changes nothing, else EEXIST" (document 01)
abbrev pub same_policy_check : Inode → Policy → Checked
same_policy_check node p = do
  not (same_policy node.context.policy p) ⇒ EEXIST
  fine

-- ".. then root, non-folder, nonempty, nonce" (document 01)
abbrev pub first_policy_check : Volume → InodeNumber → Bytes → Checked
first_policy_check v i x = do
  eqb i.0 0 ⇒ EPERM
  not (is_directory (inode_at v i)) ⇒ ENOTDIR
  has_entries v i ⇒ ENOTEMPTY
  nonce_check v x

-- document 01: "Set policy: thing, policy bytes, then if encrypted: equal is a success that changes nothing, else EEXIST; then root, non-folder, nonempty, nonce."
unfoldable pub set_policy_check : Volume → InodeNumber → Bytes → Bytes → Checked
set_policy_check v i p x =
    let node = inode_at v i in do
      is_free node ⇒ ENOENT
      policy_check p
      cond node.encrypted (same_policy_check node (policy_in (read_policy p))) (first_policy_check v i x)

-- "Get policy: thing, context."
unfoldable pub get_policy_check : Volume → InodeNumber → Checked
get_policy_check v i = do
  is_free (inode_at v i) ⇒ ENOENT
  not (inode_at v i).encrypted ⇒ ENODATA
  fine

-- "Remove: place, entries."
unfoldable pub remove_check : Volume → EntryNumber → Checked
remove_check v e = do
  is_vacant (entry_at v e) ⇒ ENOENT
  has_entries v (entry_at v e).inode ⇒ ENOTEMPTY
  fine

-- inode i of directory p goes to directory q, and inode j of q to p, each stage for both sides: key, policy, directory under itself
abbrev pub swap_check : Volume → InodeNumber → InodeNumber → InodeNumber → InodeNumber → Checked
swap_check v p i q j = do
  lacks_key v (inode_at v p) ⇒ ENOKEY
  lacks_key v (inode_at v q) ⇒ ENOKEY
  is_policy_refused (inode_at v p) (inode_at v j) ⇒ policy_refusal
  is_policy_refused (inode_at v q) (inode_at v i) ⇒ policy_refusal
  is_under_itself v i q ⇒ EINVAL
  is_under_itself v j p ⇒ EINVAL
  fine

-- "Rename and exchange need the key of both parents, if encrypted"; "An exchange checks each folder it moves."
unfoldable pub exchange_check : Volume → EntryNumber → EntryNumber → Checked
exchange_check v a b =
    let one = entry_at v a in
    let other = entry_at v b in do
      is_vacant one ⇒ ENOENT
      is_vacant other ⇒ ENOENT
      swap_check v one.parent one.inode other.parent other.inode

-- "Seal and open: block length, thing, kind, context, key."
unfoldable pub block_check : Volume → InodeNumber → ℕ → Checked
block_check v i n =
    let node = inode_at v i in do
      not (eqb n 4096) ⇒ EINVAL
      is_free node ⇒ ENOENT
      not (eqb node.kind 2) ⇒ EINVAL
      not node.encrypted ⇒ ENODATA
      lacks_key v node ⇒ ENOKEY
      fine

-- "Order with names: empty, too long, bad byte or dot name; kind; thing or place; parent exists; parent is a folder; linked folder; key; policy; folder
-- under itself; name taken; nonce; room. .. Each request skips what doesn't apply; find looks for its match after the key."

-- ".. nonce; room": the end of create's table
abbrev pub room_check : Volume → InodeNumber → ℕ → Bytes → Checked
room_check v p kind x = do
  cond (is_nonce_needed (inode_at v p) kind) (nonce_check v x) fine
  leb inode_slots (free_inode v) ⇒ ENOSPC
  leb entry_slots (free_entry v) ⇒ ENOSPC
  fine

module _ (C : Cipher) where
  unfoldable pub create_check : Volume → InodeNumber → ℕ → Bytes → Bytes → Checked
  create_check v p kind n x =
      let dir = inode_at v p in do
        name_check n
        is_bad_kind kind ⇒ EINVAL
        directory_check v p
        lacks_key v dir ⇒ ENOKEY
        is_taken v p (stored C v dir n) ⇒ EEXIST
        room_check v p kind x

  -- ".. linked folder; key; policy; .. name taken; .. room" (document 01): the end of link's table
  abbrev pub linked_check : Volume → InodeNumber → InodeNumber → Bytes → Checked
  linked_check v i p n =
      let node = inode_at v i in
      let dir = inode_at v p in do
        is_directory node ⇒ EPERM
        lacks_key v dir ⇒ ENOKEY
        is_policy_refused dir node ⇒ policy_refusal
        is_taken v p (stored C v dir n) ⇒ EEXIST
        leb entry_slots (free_entry v) ⇒ ENOSPC
        fine

  unfoldable pub link_check : Volume → InodeNumber → InodeNumber → Bytes → Checked
  link_check v i p n =
      let node = inode_at v i in do
        name_check n
        is_free node ⇒ ENOENT
        directory_check v p
        linked_check v i p n

  -- "parent exists; parent is a folder; .. key; policy; folder under itself; name taken" (document 01): an inode moves from a directory to another, under a name
  abbrev pub move_check : Volume → InodeNumber → InodeNumber → InodeNumber → Bytes → Checked
  move_check v from moved p n =
      let dir = inode_at v p in do
        directory_check v p
        lacks_key v (inode_at v from) ⇒ ENOKEY
        lacks_key v dir ⇒ ENOKEY
        is_policy_refused dir (inode_at v moved) ⇒ policy_refusal
        is_under_itself v moved p ⇒ EINVAL
        is_taken v p (stored C v dir n) ⇒ EEXIST
        fine

  unfoldable pub rename_check : Volume → EntryNumber → InodeNumber → Bytes → Checked
  rename_check v e p n =
      let old = entry_at v e in do
        name_check n
        is_vacant old ⇒ ENOENT
        move_check v old.parent old.inode p n

  unfoldable pub find_check : Volume → InodeNumber → Bytes → Checked
  find_check v p n =
      let dir = inode_at v p in do
        name_check n
        directory_check v p
        lacks_key v dir ⇒ ENOKEY
        leb entry_slots (entry_named v p (stored C v dir n)) ⇒ ENOENT
        fine

  -- "Show: buffer, place, name."
  unfoldable pub show_check : Volume → EntryNumber → ℕ → Checked
  show_check v e room =
      let x = entry_at v e in do
        ltb room 255 ⇒ ERANGE
        is_vacant x ⇒ ENOENT
        is_unreadable C v (inode_at v x.parent) (name_of x) ⇒ EUCLEAN
        fine
