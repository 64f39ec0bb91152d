-- The rules of slots by themselves and in pairs, as the proof of soundness keeps them, and what a store of an entry, an inode or a key does to them.
-- A rule of one slot is kept by a store of what has it, and a rule of two by a store of what clashes with no other slot. Assumes nothing.
use Prim.Native.Nat.{ℕ, ◌-◌, ◌≤◌, ◌<◌}
use native.Mathlib.Omega.{arith}
use mathlib.Core.Path.{◌≡◌, refl, sym, ◌∙◌, ap, ap₂, subst}
use mathlib.Core.Logic.{◌≢◌}
use mathlib.Core.Bool.{true, false, not, ◌&&◌, true≢false, false≢true}
use mathlib.Core.List.{List, ◌++◌}
use lib.ListN.{length, get_or, set, length-set}
use lib.Seq.{get_or-set_other, take-append_seam}
use borrow.Author.Tests.{eq-eqb}
use Rattle.lists.specs.Bytes.{Bytes, zeros}
use Rattle.lists.proofs.Tests.{eqb_other, same_of_eq}
use Rattle.lists.proofs.Tables.{all_set}
use Rattle.lists.proofs.Slots.{Apart, apart_set, search_none}
use Rattle.policy.specs.Policies.{is_valid, no_context}
use Rattle.fscrypt.specs.Names.{name_check, padded_length}
use Rattle.lists.proofs.ByteStrings.{length_zeros}
use Rattle.volume.specs.Volume.{key_slots, inode_slots, entry_slots, no_key, no_inode, no_entry, plain_inode, key_bytes, name_of, entry_slot}
use Rattle.volume.specs.Lookup.{is_free_key, is_vacant, is_named, is_taken, entry_named, is_in, first_child, has_entries, key_at, node_at, slot_at}
use Rattle.volume.specs.Checks.{is_bad_key_length}
use Rattle.volume.specs.Step.{with_keys, with_inodes, with_entries}
use Rattle.volume.specs.Sound.{MayHold}
use Rattle.ids.specs.declared.InodeNumber.{InodeNumber}
use Rattle.volume.specs.declared.Key.{Key}
use Rattle.volume.specs.declared.Inode.{Inode}
use Rattle.volume.specs.declared.Entry.{Entry}
use Rattle.volume.specs.declared.Volume.{Volume}
use Rattle.errno.specs.Refusals.{fine}

-- ---- one slot

pub record KeyOk (k : Key) : Type 0 where
  pub size : is_free_key k ≡ false → is_bad_key_length k.len ≡ false
  pub descriptor : length k.descriptor ≡ 8
  pub bytes_there : length (key_bytes k) ≡ k.len
  pub free : is_free_key k ≡ true → k ≡ no_key
  pub unused : k.bytes ≡ key_bytes k ++ zeros (64 - k.len)

-- what the context of an encrypted inode has
pub record ContextOk (n : Inode) : Type 0 where
  pub kind : n.kind ≤ 3
  pub valid : is_valid n.context.policy ≡ true

pub record InodeOk (n : Inode) : Type 0 where
  pub kinds : n.kind ≤ 4
  pub context : n.encrypted ≡ true → ContextOk n
  pub descriptor : length n.context.policy.descriptor ≡ 8
  pub nonce : length n.context.nonce ≡ 16
  pub free : n.kind ≡ 0 → n ≡ no_inode
  pub bare : n.encrypted ≡ false → n.context ≡ no_context

-- a name that this directory may hold as stored
pub record NameOk (dir : Inode) (s : Bytes) : Type 0 where
  pub some : 0 < length s
  pub fits : length s ≤ 255
  pub plain : dir.encrypted ≡ false → name_check s ≡ fine
  pub sealed : dir.encrypted ≡ true → (n : ℕ) × (0 < n) × (n ≤ 255) × (length s ≡ padded_length dir.context.policy.flags n)

-- the inode of this number in a table
abbrev pub node_in : List Inode → ℕ → Inode
node_in is i = get_or is i no_inode

pub record EntryOk (is : List Inode) (e : Entry) : Type 0 where
  pub directory : (node_in is e.parent.0).kind ≡ 1
  pub holds : (node_in is e.inode.0).kind ≢ 0
  pub not_root : e.inode.0 ≢ 0
  pub policy : MayHold (node_in is e.parent.0) (node_in is e.inode.0)
  pub name : NameOk (node_in is e.parent.0) (name_of e)
  pub slot : e ≡ entry_slot e.parent e.inode (name_of e)

-- ---- two slots that may not both be there

-- the entry is in use
abbrev pub InUse : Entry → Type 0
InUse e = is_vacant e ≡ false

abbrev pub SameName : Entry → Entry → Type 0
SameName x y = InUse x × InUse y × (x.parent.0 ≡ y.parent.0) × (name_of x ≡ name_of y)

abbrev pub SameNode : List Inode → Entry → Entry → Type 0
SameNode is x y = InUse x × InUse y × (x.inode.0 ≡ y.inode.0) × ((node_in is x.inode.0).kind ≡ 1)

abbrev pub SameNonce : Inode → Inode → Type 0
SameNonce x y = (x.encrypted ≡ true) × (y.encrypted ≡ true) × (x.context.nonce ≡ y.context.nonce)

abbrev pub SameKey : Key → Key → Type 0
SameKey x y = (is_free_key x ≡ false) × (is_free_key y ≡ false) × (x.descriptor ≡ y.descriptor)

turn_name : (x y : Entry) → SameName x y → SameName y x
turn_name x y r = (r.1, r.0, sym r.2, sym r.3)

turn_node : (is : List Inode) (x y : Entry) → SameNode is x y → SameNode is y x
turn_node is x y r = (r.1, r.0, sym r.2, subst (λ (i : ℕ). (node_in is i).kind ≡ 1) r.2 r.3)

turn_nonce : (x y : Inode) → SameNonce x y → SameNonce y x
turn_nonce x y r = (r.1, r.0, sym r.2)

turn_key : (x y : Key) → SameKey x y → SameKey y x
turn_key x y r = (r.1, r.0, sym r.2)

-- ---- the three tables

pub record KeyringOk (ks : List Key) : Type 0 where
  pub key_slots_lem : length ks ≡ key_slots
  pub keys_ok : (k : ℕ) → KeyOk (get_or ks k no_key)
  pub descriptors : Apart SameKey ks no_key

pub record NodesOk (is : List Inode) : Type 0 where
  pub inode_slots_lem : length is ≡ inode_slots
  pub root_is : node_in is 0 ≡ plain_inode 1
  pub inodes_ok : (i : ℕ) → InodeOk (node_in is i)
  pub nonces : Apart SameNonce is no_inode

pub record JoinsOk (is : List Inode) (es : List Entry) : Type 0 where
  pub entry_slots_lem : length es ≡ entry_slots
  pub entries_ok : (e : ℕ) → InUse (get_or es e no_entry) → EntryOk is (get_or es e no_entry)
  pub free_entries : (e : ℕ) → is_vacant (get_or es e no_entry) ≡ true → get_or es e no_entry ≡ no_entry
  pub names : Apart SameName es no_entry
  pub nodes : Apart (SameNode is) es no_entry

pub record Core (v : Volume) : Type 0 where
  pub keyring_ok : KeyringOk v.keys
  pub nodes_ok : NodesOk v.inodes
  pub joined : JoinsOk v.inodes v.entries

-- ---- free records

pub no_key_ok : KeyOk no_key
no_key_ok = record { size = λ u. absurd (true≢false u); descriptor = length_zeros 8; bytes_there = refl; free = λ u. refl; unused = refl }

pub plain_ok : (kind : ℕ) → kind ≢ 0 → kind ≤ 4 → InodeOk (plain_inode kind)
plain_ok kind nz small = record {
  kinds = small;
  context = λ u. absurd (false≢true u);
  descriptor = length_zeros 8;
  nonce = length_zeros 16;
  free = λ z. absurd (nz z);
  bare = λ u. refl;
}

pub no_inode_ok : InodeOk no_inode
no_inode_ok = record {
  kinds = omega arith;
  context = λ u. absurd (false≢true u);
  descriptor = length_zeros 8;
  nonce = length_zeros 16;
  free = λ z. refl;
  bare = λ u. refl;
}

-- ---- a store of an entry

pub slot_name : (p i : InodeNumber) (s : Bytes) → name_of (entry_slot p i s) ≡ s
slot_name p i s = take-append_seam s (zeros (255 - length s))

-- none stands in an inode that has no entries
pub none_in : (v : Volume) → length v.entries ≡ entry_slots → (i : InodeNumber) → has_entries v i ≡ false → (e : ℕ) → InUse (slot_at v e)
    → (slot_at v e).parent.0 ≢ i.0
unfolding first_child
none_in v size i empty e u q =
    let t : is_in i (slot_at v e) ≡ true = ap₂ ◌&&◌ (ap not u) (eq-eqb (slot_at v e).parent.0 i.0 q) in
    true≢false (sym t ∙ search_none (is_in i) v.entries no_entry entry_slots size refl empty e)

-- a name that no entry of the directory has
not_taken : (v : Volume) → length v.entries ≡ entry_slots → (p : InodeNumber) (s : Bytes) → is_taken v p s ≡ false → (i : InodeNumber) (j : ℕ)
    → SameName (slot_at v j) (entry_slot p i s) → ⊥
unfolding entry_named
not_taken v size p s h i j r =
    let x = slot_at v j in
    let e : is_named p s x ≡ true = ap₂ ◌&&◌ (ap₂ ◌&&◌ (ap not r.0) (eq-eqb x.parent.0 p.0 r.2)) (same_of_eq (r.3 ∙ slot_name p i s)) in
    true≢false (sym e ∙ search_none (is_named p s) v.entries no_entry entry_slots size refl h j)

-- a slot's new record is good if in use, and zeros if not, and clashes with no other
pub set_core : (v : Volume) → Core v → (e : ℕ) (x : Entry) → (InUse x → EntryOk v.inodes x) → (is_vacant x ≡ true → x ≡ no_entry)
    → ((j : ℕ) → j ≢ e → SameName (slot_at v j) x → ⊥) → ((j : ℕ) → j ≢ e → SameNode v.inodes (slot_at v j) x → ⊥)
    → Core (with_entries v (set v.entries e x))
set_core v ok e x good freed name node = record {
  keyring_ok = ok.keyring_ok;
  nodes_ok = ok.nodes_ok;
  joined = record {
    entry_slots_lem = length-set v.entries e x ∙ ok.joined.entry_slots_lem;
    entries_ok = all_set (λ j y. InUse y → EntryOk v.inodes y) v.entries no_entry e x (λ j u. absurd (true≢false u)) (λ j ne. ok.joined.entries_ok j) good;
    free_entries = all_set (λ n y. is_vacant y ≡ true → y ≡ no_entry) v.entries no_entry e x (λ j u. refl) (λ j ne. ok.joined.free_entries j) freed;
    names = apart_set SameName v.entries no_entry e x turn_name (λ y r. true≢false r.0) ok.joined.names name;
    nodes = apart_set (SameNode v.inodes) v.entries no_entry e x (turn_node v.inodes) (λ y r. true≢false r.0) ok.joined.nodes node;
  };
}

pub slot_used : (is : List Inode) (e : Entry) → EntryOk is e → InUse e
slot_used is e w = eqb_other e.len 0 (λ z. absurd (omega (arith, w.name.some, sym (ap (λ (x : Entry). x.len) w.slot) ∙ z)))

pub store_core : (v : Volume) → Core v → (e : ℕ) (p i : InodeNumber) (s : Bytes) → EntryOk v.inodes (entry_slot p i s) → is_taken v p s ≡ false
    → ((j : ℕ) → j ≢ e → SameNode v.inodes (slot_at v j) (entry_slot p i s) → ⊥) → Core (with_entries v (set v.entries e (entry_slot p i s)))
store_core v ok e p i s w free one =
    set_core v ok e (entry_slot p i s) (λ u. w) (λ u. absurd (true≢false (sym u ∙ slot_used v.inodes (entry_slot p i s) w)))
    (λ j ne. not_taken v ok.joined.entry_slots_lem p s free i j) one

-- an entry goes
pub clear_core : (v : Volume) → Core v → (e : ℕ) → Core (with_entries v (set v.entries e no_entry))
clear_core v ok e = set_core v ok e no_entry (λ u. absurd (true≢false u)) (λ u. refl) (λ j ne r. true≢false r.1) (λ j ne r. true≢false r.1)

-- ---- a store of an inode

pub put_core : (v : Volume) → Core v → (i : ℕ) (node : Inode) → i ≢ 0 → InodeOk node
    → ((e : ℕ) → InUse (slot_at v e) → EntryOk (set v.inodes i node) (slot_at v e))
    → ((e : ℕ) → InUse (slot_at v e) → (node_in (set v.inodes i node) (slot_at v e).inode.0).kind ≡ 1 → (node_in v.inodes (slot_at v e).inode.0).kind ≡ 1)
    → ((j : ℕ) → SameNonce (node_at v j) node → ⊥)
    → Core (with_inodes v (set v.inodes i node))
put_core v ok i node nz w entries kinds fresh = record {
  keyring_ok = ok.keyring_ok;
  nodes_ok = record {
    inode_slots_lem = length-set v.inodes i node ∙ ok.nodes_ok.inode_slots_lem;
    root_is = get_or-set_other v.inodes i 0 node no_inode (λ q. nz (sym q)) ∙ ok.nodes_ok.root_is;
    inodes_ok = all_set (λ j n. InodeOk n) v.inodes no_inode i node (λ j. no_inode_ok) (λ j ne. ok.nodes_ok.inodes_ok j) w;
    nonces = apart_set SameNonce v.inodes no_inode i node turn_nonce (λ y r. false≢true r.0) ok.nodes_ok.nonces (λ j ne. fresh j);
  };
  joined = record {
    entry_slots_lem = ok.joined.entry_slots_lem;
    entries_ok = entries;
    free_entries = ok.joined.free_entries;
    names = ok.joined.names;
    nodes = λ a b r. ok.joined.nodes a b (r.0, r.1, r.2, kinds a r.0 r.3);
  };
}

-- ---- a store of a key

pub keys_core : (v : Volume) → Core v → (k : ℕ) (key : Key) → KeyOk key → ((j : ℕ) → j ≢ k → SameKey (key_at v j) key → ⊥) → Core (with_keys v (set v.keys k key))
keys_core v ok k key w fresh = record {
  nodes_ok = ok.nodes_ok;
  joined = ok.joined;
  keyring_ok = record {
    key_slots_lem = length-set v.keys k key ∙ ok.keyring_ok.key_slots_lem;
    keys_ok = all_set (λ j x. KeyOk x) v.keys no_key k key (λ j. no_key_ok) (λ j ne. ok.keyring_ok.keys_ok j) w;
    descriptors = apart_set SameKey v.keys no_key k key turn_key (λ y r. true≢false r.0) ok.keyring_ok.descriptors fresh;
  };
}
