-- The bytes of a volume are bytes, after every request: each is zeros, was handed in by a request, or was made of such by a lawful cipher. A request stores one key,
-- one inode or one entry, or two entries, so it is enough that what it stores is of bytes. Assumes nothing.
use Prim.Native.Nat.{ℕ, zero, suc, ◌-◌}
use mathlib.Core.Path.{sym, subst}
use mathlib.Core.List.{List, ◌++◌, Memᴰ}
use lib.ListN.{get_or, set, drop}
use Rattle.lists.specs.Bytes.{Bytes, ByteList, zeros}
use Rattle.lists.proofs.ByteStrings.{append_bytes, take_bytes, drop_bytes, zeros_bytes}
use Rattle.lists.proofs.Tables.{all_set}
use Rattle.lists.proofs.Slots.{by_cond, all_same}
use Rattle.errno.specs.Refusals.{is_fine}
use Rattle.policy.specs.Policies.{name_key_size, policy_at, policy_check, read_policy, policy_in}
use Rattle.fscrypt.specs.Cipher.{Cipher, Lawful}
use Rattle.fscrypt.specs.Names.{encrypted}
use Rattle.fscrypt.proofs.Padding.{padded_bytes}
use Rattle.volume.specs.Volume.{key_slots, inode_slots, entry_slots, no_key, no_inode, no_entry, key_slot, entry_slot, fresh}
use Rattle.volume.specs.Request.{Request, Typed, AllTyped}
use Rattle.volume.specs.Lookup.{key_slot_of, key_of, master_key, descriptor_of, inode_at, free_key_slot, free_inode, entry_at, free_entry, is_held, node_at}
use Rattle.volume.specs.DirectoryNames.{derived_key, name_key, stored}
use Rattle.volume.specs.Checks.{is_nonce_needed}
use Rattle.volume.specs.Step.{with_inode, child_of, without_unheld, effect, step}
use Rattle.volume.specs.Run.{Moment, run}
use Rattle.volume.specs.Bytewise.{Bytewise}
use Rattle.ids.specs.declared.InodeNumber.{InodeNumber}
use Rattle.volume.specs.declared.Key.{Key}
use Rattle.volume.specs.declared.Inode.{Inode}
use Rattle.volume.specs.declared.Entry.{Entry}
use Rattle.volume.specs.declared.Volume.{Volume}
use Rattle.volume.proofs.Kept.{volume_has, kept_always}
use Rattle.volume.proofs.Touching.{Touches, asks, adds_key, removes_key, sets_policy, creates, links, renames, exchanges, removes, touches}
use Rattle.errno.specs.declared.Errno.{Errno}
use Rattle.policy.specs.declared.Policy.{Policy}
use Rattle.std.specs.declared.result.Result.{Result}

-- ---- tables

abbrev KeyBytes : Key → Type 0
KeyBytes k = ByteList k.bytes × ByteList k.descriptor

abbrev InodeBytes : Inode → Type 0
InodeBytes n = ByteList n.context.policy.descriptor × ByteList n.context.nonce

abbrev EntryBytes : Entry → Type 0
EntryBytes e = ByteList e.name

abbrev AllKeys : List Key → Type 0
AllKeys ks = (k : ℕ) → KeyBytes (get_or ks k no_key)

abbrev AllInodes : List Inode → Type 0
AllInodes is = (i : ℕ) → InodeBytes (get_or is i no_inode)

abbrev AllEntries : List Entry → Type 0
AllEntries es = (e : ℕ) → EntryBytes (get_or es e no_entry)

no_key_lem : KeyBytes no_key
no_key_lem = (zeros_bytes 64, zeros_bytes 8)

no_inode_lem : InodeBytes no_inode
no_inode_lem = (zeros_bytes 8, zeros_bytes 16)

no_entry_lem : EntryBytes no_entry
no_entry_lem = zeros_bytes 255

set_key : (ks : List Key) → AllKeys ks → (j : ℕ) (x : Key) → KeyBytes x → AllKeys (set ks j x)
set_key ks w j x h = all_set (λ i y. KeyBytes y) ks no_key j x (λ i. no_key_lem) (λ i ne. w i) h

set_inode : (is : List Inode) → AllInodes is → (j : ℕ) (x : Inode) → InodeBytes x → AllInodes (set is j x)
set_inode is w j x h = all_set (λ i y. InodeBytes y) is no_inode j x (λ i. no_inode_lem) (λ i ne. w i) h

set_entry : (es : List Entry) → AllEntries es → (j : ℕ) (x : Entry) → EntryBytes x → AllEntries (set es j x)
set_entry es w j x h = all_set (λ i y. EntryBytes y) es no_entry j x (λ i. no_entry_lem) (λ i ne. w i) h

by_tables : (v : Volume) → AllKeys v.keys → AllInodes v.inodes → AllEntries v.entries → Bytewise v
by_tables v ks is es = record {
  keys = λ k. (ks k).0;
  key_descriptors = λ k. (ks k).1;
  context_descriptors = λ i. (is i).0;
  nonces = λ i. (is i).1;
  names = es;
}

pub fresh_bytes : Bytewise fresh
unfolding fresh
fresh_bytes =
    by_tables fresh (λ k. subst KeyBytes (sym (all_same key_slots k no_key)) no_key_lem) node (λ e. subst EntryBytes (sym (all_same entry_slots e no_entry)) no_entry_lem)
  where
    node : (i : ℕ) → InodeBytes (node_at fresh i)
    node zero = no_inode_lem
    node (suc i) = subst InodeBytes (sym (all_same (inode_slots - 1) i no_inode)) no_inode_lem

-- ---- what a request stores

-- the bytes of a slot, which zeros fill up
filled_bytes : (s : Bytes) (n : ℕ) → ByteList s → ByteList (s ++ zeros n)
filled_bytes s n h = append_bytes s (zeros n) h (zeros_bytes n)

read_bytes : (b : Bytes) → ByteList b → ByteList (policy_in (read_policy b)).descriptor
unfolding read_policy policy_at
read_bytes b h =
    by_cond (λ (r : Result Policy Errno). ByteList (policy_in r).descriptor) (is_fine (policy_check b)) _ _ (λ e. take_bytes 8 (drop 4 b) (drop_bytes 4 b h)) (λ e. zeros_bytes 8)

child_bytes : (dir : Inode) (kind : ℕ) (x : Bytes) → InodeBytes dir → ByteList x → InodeBytes (child_of dir kind x)
unfolding child_of
child_bytes dir kind x w h = by_cond InodeBytes (is_nonce_needed dir kind) _ _ (λ e. (w.0, h)) (λ e. no_inode_lem)

module _ (C : Cipher) (law : Lawful C) (v : Volume) (w : Bytewise v) where
  abbrev ks : AllKeys v.keys
  ks k = (w.keys k, w.key_descriptors k)

  abbrev is : AllInodes v.inodes
  is i = (w.context_descriptors i, w.nonces i)

  pub derived_bytes_lem : (node : Inode) → ByteList node.context.nonce → ByteList (derived_key C v node)
  unfolding derived_key key_of
  derived_bytes_lem node h =
      let d = descriptor_of node in
      law.bytes_derive (master_key v d) node.context.nonce (take_bytes (key_of v d).len (key_of v d).bytes (w.keys (key_slot_of v d))) h

  pub name_key_bytes : (dir : Inode) → ByteList dir.context.nonce → ByteList (name_key C v dir)
  unfolding name_key
  name_key_bytes dir h = take_bytes (name_key_size dir.context.policy) (derived_key C v dir) (derived_bytes_lem dir h)

  stored_bytes : (p : InodeNumber) (n : Bytes) → ByteList n → ByteList (stored C v (inode_at v p) n)
  unfolding stored encrypted
  stored_bytes p n h =
      let dir = inode_at v p in
      by_cond ByteList dir.encrypted _ _
      (λ t. law.bytes_encrypt_name _ _ (name_key_bytes dir (w.nonces p.0)) (padded_bytes dir.context.policy.flags n h)) (λ f. h)

  store_name : (j : ℕ) (p i : InodeNumber) (n : Bytes) → ByteList n → AllEntries (set v.entries j (entry_slot p i (stored C v (inode_at v p) n)))
  store_name j p i n h = set_entry v.entries w.names j _ (filled_bytes (stored C v (inode_at v p) n) _ (stored_bytes p n h))

  -- ---- requests

  effect_bytes : {r : Request} → Touches r → Typed r → Bytewise (effect C v r).volume
  unfolding effect without_unheld
  effect_bytes (asks answers leaves unnaming) t = subst Bytewise (sym (leaves C v)) w
  effect_bytes (adds_key d k) t = by_tables _ (set_key v.keys ks (free_key_slot v) (key_slot d k) (filled_bytes k _ t.2, t.1)) is w.names
  effect_bytes (removes_key d) t = by_tables _ (set_key v.keys ks (key_slot_of v d) no_key no_key_lem) is w.names
  effect_bytes (sets_policy i p x) t =
      by_cond Bytewise (inode_at v i).encrypted _ _ (λ e. w) (λ e. by_tables _ ks (set_inode v.inodes is i.0 _ (read_bytes p t.0, t.2)) w.names)
  effect_bytes (creates p kind n x) t =
      by_tables _ ks (set_inode v.inodes is (free_inode v) _ (child_bytes (inode_at v p) kind x (is p.0) t.2))
      (store_name (free_entry v) p (record { 0 = free_inode v }) n t.0)
  effect_bytes (links i p n) t = by_tables _ ks is (store_name (free_entry v) p i n t)
  effect_bytes (renames e p n) t = by_tables _ ks is (store_name e.0 p (entry_at v e).inode n t)
  effect_bytes (exchanges a b) t =
      let one = with_inode (entry_at v a) (entry_at v b).inode in
      let other = with_inode (entry_at v b) (entry_at v a).inode in
      by_tables _ ks is (set_entry (set v.entries a.0 one) (set_entry v.entries w.names a.0 one (w.names a.0)) b.0 other (w.names b.0))
  effect_bytes (removes e) t =
      by_tables _ ks (by_cond AllInodes (is_held _ _) _ _ (λ h. is) (λ h. set_inode v.inodes is _ no_inode no_inode_lem))
      (set_entry v.entries w.names e.0 no_entry no_entry_lem)

module _ (C : Cipher) (law : Lawful C) where
  pub bytewise_kept : (v : Volume) → Bytewise v → (r : Request) → Typed r → Bytewise (step C v r).volume
  bytewise_kept v w r t = volume_has C v r Bytewise w (λ h. effect_bytes C law v w (touches r) t)

  pub bytewise : (rs : List Request) → AllTyped rs → (m : Moment) → Memᴰ m (run C rs) → Bytewise m.volume
  bytewise = kept_always C Bytewise fresh_bytes bytewise_kept
