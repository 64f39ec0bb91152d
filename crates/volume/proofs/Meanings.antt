-- The tests of a volume mean what specs/Meanings.antt says. A test is taken apart and put together part by part; a search is an instance of one law of lists, with
-- its test's meaning; the climb is proofs/Below.antt's. Assumes nothing.
use Prim.Native.Nat.{ℕ, ◌≤◌, ◌<◌}
use native.Mathlib.Omega.{arith}
use mathlib.Core.Path.{◌≡◌, refl, sym, ◌∙◌, ap, subst}
use mathlib.Core.Logic.Iff
use mathlib.Core.Logic.{◌≢◌, ◌↔◌, ⊎_elim}
use mathlib.Core.Bool.{Bool, true, false, cond, not, true≢false, false≢true}
use lib.Dec.{eqb, leb, ltb}
use Rattle.lists.specs.Bytes.{Bytes, first_at}
use Rattle.lists.proofs.Tests.{eqb_other}
use Rattle.lists.proofs.Tables.{first_at_ends}
use Rattle.lists.proofs.Slots.{first_at_found}
use Rattle.lists.proofs.ByteMeanings.{same_means}
use Rattle.lists.proofs.Searches.{equal, fails, denied, both, least_found, none_found, some_found}
use Rattle.errno.specs.Refusals.{Checked, fine, refuse, ◌⇒◌, ◌>>◌}
use Rattle.errno.specs.declared.Errno.TheVariants.{ENOENT, ENOTDIR}
use Rattle.policy.specs.Meanings.{MasterKeySize}
use Rattle.policy.proofs.Meanings.{master_key_size, master_key_some}
use Rattle.volume.specs.Volume.{key_slots, inode_slots, entry_slots, no_key, no_inode, no_entry, name_of}
use Rattle.volume.specs.Lookup.{is_free_key, on_keyring, key_slot_of, free_key_slot, key_of, descriptor_of, key_present, lacks_key, inode_at, is_free, is_directory, free_inode, bears_nonce, nonce_holder, is_borne, is_vacant, free_entry, is_in, is_named, entry_named, is_taken, first_child, has_entries, is_link, first_link, is_held, key_at, node_at, slot_at}
use Rattle.volume.specs.DirectoryNames.{form_in}
use Rattle.volume.specs.Checks.{directory_check}
use Rattle.volume.specs.Sound.{Sound, EntryIn, EntryOf}
use Rattle.volume.specs.Meanings.{Least, KeySlotFree, KeyIn, KeyHeld, KeyPresent, LacksKey, InodeFree, Bears, NonceBorne, EntryFree, EntryNamed, NameTaken, Meanings}
use Rattle.ids.specs.declared.InodeNumber.{InodeNumber}
use Rattle.volume.specs.declared.Key.{Key}
use Rattle.volume.specs.declared.Inode.{Inode}
use Rattle.volume.specs.declared.Volume.{Volume}
use Rattle.volume.specs.Request.{Form}
use Rattle.volume.specs.Request.{Plain, Decrypted, Encoded}
use Rattle.volume.proofs.SoundClimb.{num}
use Rattle.volume.proofs.Below.{under_itself, reached}

-- ---- what a table or a choice comes to, as tests

abbrev parent_table : Bool → Bool → Checked
parent_table free dir = ◌>>◌ (free ⇒ ENOENT) (◌>>◌ (not dir ⇒ ENOTDIR) fine)

table_fine : (a b : Bool) → (parent_table a b ≡ fine) ↔ ((a ≡ false) × (b ≡ true))
unfolding ◌>>◌ ◌⇒◌
table_fine true b = (λ h. absurd (let z : ◌≡◌ {A = ℕ} 0 1 = cc in omega arith), λ r. absurd (true≢false r.0))
table_fine false true = (λ h. (refl, refl), λ r. refl)
table_fine false false = (λ h. absurd (let z : ◌≡◌ {A = ℕ} 0 1 = cc in omega arith), λ r. absurd (false≢true r.1))

table_missing : (a b : Bool) → (parent_table a b ≡ refuse ENOENT) ↔ (a ≡ true)
unfolding ◌>>◌ ◌⇒◌
table_missing true b = (λ h. refl, λ e. refl)
table_missing false true = (λ h. absurd (let z : ◌≡◌ {A = ℕ} 0 1 = cc in omega arith), λ e. absurd (false≢true e))
table_missing false false = (λ h. absurd (let z : ◌≡◌ {A = ℕ} 0 1 = cc in omega arith), λ e. absurd (false≢true e))

table_other : (a b : Bool) → (parent_table a b ≡ refuse ENOTDIR) ↔ ((a ≡ false) × (b ≡ false))
unfolding ◌>>◌ ◌⇒◌
table_other true b = (λ h. absurd (let z : ◌≡◌ {A = ℕ} 0 1 = cc in omega arith), λ r. absurd (true≢false r.0))
table_other false true = (λ h. absurd (let z : ◌≡◌ {A = ℕ} 0 1 = cc in omega arith), λ r. absurd (true≢false r.1))
table_other false false = (λ h. (refl, refl), λ r. refl)

abbrev form_of : Bool → Bool → Form
form_of encrypted present = cond encrypted (cond present Decrypted Encoded) Plain

is_plain : (a b : Bool) → (form_of a b ≡ Plain) ↔ (a ≡ false)
is_plain true true = (λ h. absurd (let z : ◌≡◌ {A = ℕ} 0 1 = cc in omega arith), λ e. absurd (true≢false e))
is_plain true false = (λ h. absurd (let z : ◌≡◌ {A = ℕ} 0 1 = cc in omega arith), λ e. absurd (true≢false e))
is_plain false b = (λ h. refl, λ e. refl)

is_decrypted : (a b : Bool) → (form_of a b ≡ Decrypted) ↔ ((a ≡ true) × (b ≡ true))
is_decrypted true true = (λ h. (refl, refl), λ r. refl)
is_decrypted true false = (λ h. absurd (let z : ◌≡◌ {A = ℕ} 0 1 = cc in omega arith), λ r. absurd (false≢true r.1))
is_decrypted false b = (λ h. absurd (let z : ◌≡◌ {A = ℕ} 0 1 = cc in omega arith), λ r. absurd (false≢true r.0))

is_encoded_lem : (a b : Bool) → (form_of a b ≡ Encoded) ↔ ((a ≡ true) × (b ≡ false))
is_encoded_lem true true = (λ h. absurd (let z : ◌≡◌ {A = ℕ} 0 1 = cc in omega arith), λ r. absurd (true≢false r.1))
is_encoded_lem true false = (λ h. (refl, refl), λ r. refl)
is_encoded_lem false b = (λ h. absurd (let z : ◌≡◌ {A = ℕ} 0 1 = cc in omega arith), λ r. absurd (false≢true r.0))

-- two inode numbers
numbers : (a b : InodeNumber) → (eqb a.0 b.0 ≡ true) ↔ (a ≡ b)
numbers a b = Iff.trans (equal a.0 b.0) (ap num, ap (λ (n : InodeNumber). n.0))

least : (P : ℕ → Type 0) (n : ℕ) → (P n × ((k : ℕ) → P k → n ≤ k)) ↔ Least P n
least P n = (λ r. record { holds = r.0; least = r.1 }, λ w. (w.holds, w.least))

-- ---- the tests on the records of a volume

module _ (v : Volume) where
  on_keyring_lem : (d : Bytes) (k : ℕ) → (on_keyring d (key_at v k) ≡ true) ↔ KeyIn v d k
  on_keyring_lem d k =
      Iff.trans
      (both _ (denied _ (equal (key_at v k).len 0)) _ (same_means (key_at v k).descriptor d))
      (λ r. record { in_use = r.0; descriptor = r.1 }, λ w. (w.in_use, w.descriptor))

  bears : (x : Bytes) (i : ℕ) → (bears_nonce x (node_at v i) ≡ true) ↔ Bears v x i
  unfolding bears_nonce
  bears x i =
      Iff.trans
      (both (node_at v i).encrypted Iff.rfl _ (same_means (node_at v i).context.nonce x))
      (λ r. record { encrypted = r.0; nonce = r.1 }, λ w. (w.encrypted, w.nonce))

  in_directory : (p : InodeNumber) (e : ℕ) → (is_in p (slot_at v e) ≡ true) ↔ EntryIn v p e
  in_directory p e =
      Iff.trans
      (both _ (denied _ (equal (slot_at v e).len 0)) _ (numbers (slot_at v e).parent p))
      (λ r. record { in_use = r.0; parent = r.1 }, λ w. (w.in_use, w.parent))

  named : (p : InodeNumber) (s : Bytes) (e : ℕ) → (is_named p s (slot_at v e) ≡ true) ↔ EntryNamed v p s e
  named p s e =
      Iff.trans (both _ (in_directory p e) _ (same_means (name_of (slot_at v e)) s)) (λ r. record { entry = r.0; name = r.1 }, λ w. (w.entry, w.name))

  pub links : (i : InodeNumber) (e : ℕ) → (is_link i (slot_at v e) ≡ true) ↔ EntryOf v i e
  links i e =
      Iff.trans
      (both _ (denied _ (equal (slot_at v e).len 0)) _ (numbers (slot_at v e).inode i))
      (λ r. record { in_use = r.0; inode = r.1 }, λ w. (w.in_use, w.inode))

  -- ---- the parent of a request

  parent_fine : (p : InodeNumber) → (directory_check v p ≡ fine) ↔ ((inode_at v p).kind ≡ 1)
  unfolding directory_check
  parent_fine p =
      Iff.trans (table_fine (is_free (inode_at v p)) (is_directory (inode_at v p)))
      (λ r. (equal (inode_at v p).kind 1).0 r.1, λ e. (ap (λ (n : ℕ). eqb n 0) e, (equal (inode_at v p).kind 1).1 e))

  parent_missing : (p : InodeNumber) → (directory_check v p ≡ refuse ENOENT) ↔ InodeFree v p.0
  unfolding directory_check
  parent_missing p = Iff.trans (table_missing (is_free (inode_at v p)) (is_directory (inode_at v p))) (equal (inode_at v p).kind 0)

  parent_no_directory : (p : InodeNumber) → (directory_check v p ≡ refuse ENOTDIR) ↔ (((inode_at v p).kind ≢ 0) × ((inode_at v p).kind ≢ 1))
  unfolding directory_check
  parent_no_directory p =
      Iff.trans (table_other (is_free (inode_at v p)) (is_directory (inode_at v p)))
      (Iff.and (fails _ (equal (inode_at v p).kind 0)) (fails _ (equal (inode_at v p).kind 1)))

-- ---- the searches of a volume

module _ (v : Volume) (s : Sound v) where
  key_held : (d : Bytes) → (ltb (key_slot_of v d) key_slots ≡ true) ↔ KeyHeld v d
  unfolding key_slot_of
  key_held d = some_found (on_keyring d) v.keys no_key key_slots s.key_slots_lem (KeyIn v d) (on_keyring_lem v d) refl

  key_slot_lem : (d : Bytes) (k : ℕ) → k < key_slots → (key_slot_of v d ≡ k) ↔ Least (KeyIn v d) k
  unfolding key_slot_of
  key_slot_lem d k h = Iff.trans (least_found (on_keyring d) v.keys no_key key_slots s.key_slots_lem (KeyIn v d) (on_keyring_lem v d) k h) (least (KeyIn v d) k)

  lowest_key_slot : (k : ℕ) → k < key_slots → (free_key_slot v ≡ k) ↔ Least (KeySlotFree v) k
  unfolding free_key_slot
  lowest_key_slot k h =
      Iff.trans (least_found is_free_key v.keys no_key key_slots s.key_slots_lem (KeySlotFree v) (λ k. equal (key_at v k).len 0) k h) (least (KeySlotFree v) k)

  keyring_full : (leb key_slots (free_key_slot v) ≡ true) ↔ ((k : ℕ) → k < key_slots → KeySlotFree v k → ⊥)
  unfolding free_key_slot
  keyring_full = none_found is_free_key v.keys no_key key_slots s.key_slots_lem (KeySlotFree v) (λ k. equal (key_at v k).len 0)

  lowest_inode : (i : ℕ) → i < inode_slots → (free_inode v ≡ i) ↔ Least (InodeFree v) i
  unfolding free_inode
  lowest_inode i h =
      Iff.trans (least_found is_free v.inodes no_inode inode_slots s.inode_slots_lem (InodeFree v) (λ k. equal (node_at v k).kind 0) i h) (least (InodeFree v) i)

  inodes_full : (leb inode_slots (free_inode v) ≡ true) ↔ ((i : ℕ) → i < inode_slots → InodeFree v i → ⊥)
  unfolding free_inode
  inodes_full = none_found is_free v.inodes no_inode inode_slots s.inode_slots_lem (InodeFree v) (λ k. equal (node_at v k).kind 0)

  nonce_borne : (x : Bytes) → (is_borne v x ≡ true) ↔ NonceBorne v x
  unfolding nonce_holder bears_nonce
  nonce_borne x = some_found (bears_nonce x) v.inodes no_inode inode_slots s.inode_slots_lem (Bears v x) (bears v x) refl

  lowest_entry : (e : ℕ) → e < entry_slots → (free_entry v ≡ e) ↔ Least (EntryFree v) e
  unfolding free_entry
  lowest_entry e h =
      Iff.trans (least_found is_vacant v.entries no_entry entry_slots s.entry_slots_lem (EntryFree v) (λ k. equal (slot_at v k).len 0) e h) (least (EntryFree v) e)

  entries_full : (leb entry_slots (free_entry v) ≡ true) ↔ ((e : ℕ) → e < entry_slots → EntryFree v e → ⊥)
  unfolding free_entry
  entries_full = none_found is_vacant v.entries no_entry entry_slots s.entry_slots_lem (EntryFree v) (λ k. equal (slot_at v k).len 0)

  name_taken : (p : InodeNumber) (n : Bytes) → (is_taken v p n ≡ true) ↔ NameTaken v p n
  unfolding entry_named
  name_taken p n = some_found (is_named p n) v.entries no_entry entry_slots s.entry_slots_lem (EntryNamed v p n) (named v p n) refl

  name_found : (p : InodeNumber) (n : Bytes) (e : ℕ) → e < entry_slots → (entry_named v p n ≡ e) ↔ Least (EntryNamed v p n) e
  unfolding entry_named
  name_found p n e h =
      Iff.trans (least_found (is_named p n) v.entries no_entry entry_slots s.entry_slots_lem (EntryNamed v p n) (named v p n) e h) (least (EntryNamed v p n) e)

  has_entries_lem : (p : InodeNumber) → (has_entries v p ≡ true) ↔ ((e : ℕ) × EntryIn v p e)
  unfolding first_child
  has_entries_lem p = some_found (is_in p) v.entries no_entry entry_slots s.entry_slots_lem (EntryIn v p) (in_directory v p) refl

  held : (i : InodeNumber) → (is_held v.entries i ≡ true) ↔ ((e : ℕ) × EntryOf v i e)
  unfolding first_link
  held i = some_found (is_link i) v.entries no_entry entry_slots s.entry_slots_lem (EntryOf v i) (links v i) refl

  -- ---- the key of an inode: a free slot has no key that is long enough, and a descriptor is on the keyring once

  key_there : (i : Inode) → key_present v i ≡ true → KeyPresent v i
  unfolding key_present key_of key_slot_of
  key_there i t =
      let d = descriptor_of i in
      let k = first_at (on_keyring d) v.keys in
      let on : on_keyring d (key_at v k) ≡ true =
      ⊎_elim (λ h. h) (λ e. absurd (master_key_some i.context.policy (key_at v k).len t (ap (λ (x : Key). x.len) e))) (first_at_ends (on_keyring d) v.keys no_key) in
      (k, (on_keyring_lem v d k).0 on, (master_key_size i.context.policy (key_at v k).len).0 t)

  there_key : (i : Inode) → KeyPresent v i → key_present v i ≡ true
  unfolding key_present key_of key_slot_of
  there_key i w =
      let d = descriptor_of i in
      let k = first_at (on_keyring d) v.keys in
      let first = (on_keyring_lem v d k).0 (first_at_found (on_keyring d) v.keys no_key w.0 refl ((on_keyring_lem v d w.0).1 w.1)) in
      let one : k ≡ w.0 =
      s.descriptors_apart k w.0 (eqb_other _ 0 first.in_use) (eqb_other _ 0 w.1.in_use) (first.descriptor ∙ sym w.1.descriptor) in
      (master_key_size i.context.policy (key_at v k).len).1 (subst (λ (n : ℕ). MasterKeySize i.context.policy (key_at v n).len) (sym one) w.2)

  key_present_lem : (i : Inode) → (key_present v i ≡ true) ↔ KeyPresent v i
  key_present_lem i = (key_there i, there_key i)

  key_lacking : (i : Inode) → (lacks_key v i ≡ true) ↔ LacksKey v i
  unfolding lacks_key
  key_lacking i = both i.encrypted Iff.rfl _ (denied _ (key_present_lem i))

  -- ---- the form of a name

  form_plain : (dir : Inode) → (form_in v dir ≡ Plain) ↔ (dir.encrypted ≡ false)
  unfolding form_in
  form_plain dir = is_plain dir.encrypted (key_present v dir)

  form_decrypted : (dir : Inode) → (form_in v dir ≡ Decrypted) ↔ ((dir.encrypted ≡ true) × KeyPresent v dir)
  unfolding form_in
  form_decrypted dir = Iff.trans (is_decrypted dir.encrypted (key_present v dir)) (Iff.and Iff.rfl (key_present_lem dir))

  form_encoded : (dir : Inode) → (form_in v dir ≡ Encoded) ↔ LacksKey v dir
  unfolding form_in
  form_encoded dir = Iff.trans (is_encoded_lem dir.encrypted (key_present v dir)) (Iff.and Iff.rfl (fails _ (key_present_lem dir)))

-- ---- all of them

pub meanings : (v : Volume) → Sound v → Meanings v
meanings v s = record {
  key_free = λ k. equal (key_at v k).len 0;
  key_held = key_held v s;
  key_slot_lem = key_slot_lem v s;
  key_present_lem = key_present_lem v s;
  key_lacking = key_lacking v s;
  lowest_key_slot = lowest_key_slot v s;
  keyring_full = keyring_full v s;
  inode_free = λ i. equal (inode_at v i).kind 0;
  directory = λ i. equal (inode_at v i).kind 1;
  parent_fine = parent_fine v;
  parent_missing = parent_missing v;
  parent_no_directory = parent_no_directory v;
  lowest_inode = lowest_inode v s;
  inodes_full = inodes_full v s;
  nonce_borne = nonce_borne v s;
  entry_free = λ e. equal (slot_at v e).len 0;
  entry_used = λ e. fails _ (equal (slot_at v e).len 0);
  lowest_entry = lowest_entry v s;
  entries_full = entries_full v s;
  name_taken = name_taken v s;
  name_found = name_found v s;
  has_entries_lem = has_entries_lem v s;
  held = held v s;
  under_itself = under_itself v s;
  reached = reached v s;
  form_plain = form_plain v s;
  form_decrypted = form_decrypted v s;
  form_encoded = form_encoded v s;
}
