-- What a passed table of checks tells: a law for each table but get policy's, which no proof needs; where there are several lines, a record with a field for each, in
-- the table's order. Proofs about requests that were done read these fields, so that a further line of a table changes one law here. Assumes nothing.
use Prim.Native.Nat.{ℕ, ◌≤◌, ◌<◌}
use mathlib.Core.Path.{◌≡◌, sym, ◌∙◌}
use mathlib.Core.Logic.{◌≢◌}
use mathlib.Core.Bool.{true, false}
use lib.Dec.{eqb, ltb}
use borrow.Author.Tests.{eqb-false, ltb-false, leb-false}
use Rattle.lists.specs.Bytes.{Bytes}
use Rattle.lists.proofs.Tests.{not-false, if_true, if_false, and_known, or_left, or_right, eqb-true}
use Rattle.errno.proofs.ChainMeanings.{table_passes as line, line_passes as test}
use Rattle.policy.specs.Policies.{same_policy, policy_check, read_policy, policy_in}
use Rattle.fscrypt.specs.Cipher.{Cipher}
use Rattle.fscrypt.specs.Names.{name_check}
use Rattle.volume.specs.Volume.{key_slots, inode_slots, entry_slots, name_of}
use Rattle.volume.specs.Lookup.{key_slot_of, free_key_slot, key_present, lacks_key, inode_at, free_inode, is_borne, entry_at, is_vacant, free_entry, entry_named, is_taken, has_entries, is_under_itself}
use Rattle.volume.specs.DirectoryNames.{stored, is_unreadable}
use Rattle.volume.specs.Checks.{directory_check, is_bad_kind, is_bad_key_length, is_nonce_needed, nonce_check, add_key_check, remove_key_check, set_policy_check, create_check, link_check, rename_check, exchange_check, remove_check, find_check, show_check, block_check}
use Rattle.volume.specs.Sound.{MayHold}
use Rattle.ids.specs.declared.InodeNumber.{InodeNumber}
use Rattle.ids.specs.declared.EntryNumber.{EntryNumber}
use Rattle.volume.specs.declared.Inode.{Inode}
use Rattle.volume.specs.declared.Volume.{Volume}
use Rattle.volume.proofs.SoundPolicy.{may_hold}
use Rattle.errno.specs.Refusals.{fine}

-- ---- lines that requests share

pub is_directory_lem : (v : Volume) (p : InodeNumber) → directory_check v p ≡ fine → (inode_at v p).kind ≡ 1
unfolding directory_check
is_directory_lem v p h = let (there, (dir, end)) = simp (line, test) at h in eqb-true (not-false dir)

-- where the key is not lacking and there is need of one, it is present
pub key_present_lem : (v : Volume) (node : Inode) → node.encrypted ≡ true → lacks_key v node ≡ false → key_present v node ≡ true
unfolding lacks_key
key_present_lem v node e h = not-false (and_known e h)

nonce_passed : (v : Volume) (x : Bytes) → nonce_check v x ≡ fine → is_borne v x ≡ false
unfolding nonce_check
nonce_passed v x h = (simp (line, test) at h).0

-- ---- keys

pub record AddKeyPassed (v : Volume) (d : Bytes) (n : ℕ) : Type 0 where
  pub size : is_bad_key_length n ≡ false
  pub descriptor : ltb (key_slot_of v d) key_slots ≡ false
  pub room : free_key_slot v < key_slots

pub add_key_passed : (v : Volume) (d : Bytes) (n : ℕ) → add_key_check v d n ≡ fine → AddKeyPassed v d n
unfolding add_key_check
add_key_passed v d n h =
    let (size, (descriptor, (room, end))) = simp (line, test) at h in
    record { size = size; descriptor = descriptor; room = leb-false key_slots (free_key_slot v) room }

pub remove_key_passed : (v : Volume) (d : Bytes) → remove_key_check v d ≡ fine → key_slot_of v d < key_slots
unfolding remove_key_check
remove_key_passed v d h = leb-false key_slots (key_slot_of v d) (simp (line, test) at h).0

-- ---- policies

-- of an inode without a context
pub record FirstPolicyPassed (v : Volume) (i : InodeNumber) (x : Bytes) : Type 0 where
  pub not_root : i.0 ≢ 0
  pub directory : (inode_at v i).kind ≡ 1
  pub empty : has_entries v i ≡ false
  pub nonce : is_borne v x ≡ false

pub record SetPolicyPassed (v : Volume) (i : InodeNumber) (p x : Bytes) : Type 0 where
  pub inode : (inode_at v i).kind ≢ 0
  pub policy : policy_check p ≡ fine
  pub same : (inode_at v i).encrypted ≡ true → same_policy (inode_at v i).context.policy (policy_in (read_policy p)) ≡ true
  pub first : (inode_at v i).encrypted ≡ false → FirstPolicyPassed v i x

pub set_policy_passed : (v : Volume) (i : InodeNumber) (p x : Bytes) → set_policy_check v i p x ≡ fine → SetPolicyPassed v i p x
unfolding set_policy_check
set_policy_passed v i p x h =
    let (inode, (policy, last)) = simp (line, test) at h in
    record {
      inode = eqb-false _ _ inode;
      policy = policy;
      same = λ bears. not-false (simp (line, test) at (sym (if_true _ _ bears) ∙ last)).0;
      first = λ plain.
          let (root, (dir, (empty, nonce))) = simp (line, test) at (sym (if_false _ _ plain) ∙ last) in
          record { not_root = eqb-false _ _ root; directory = eqb-true (not-false dir); empty = empty; nonce = nonce_passed v x nonce };
    }

-- ---- entries

pub record ExchangePassed (v : Volume) (a b : EntryNumber) : Type 0 where
  pub one : is_vacant (entry_at v a) ≡ false
  pub other : is_vacant (entry_at v b) ≡ false
  pub one_key : lacks_key v (inode_at v (entry_at v a).parent) ≡ false
  pub other_key : lacks_key v (inode_at v (entry_at v b).parent) ≡ false
  pub one_policy : MayHold (inode_at v (entry_at v a).parent) (inode_at v (entry_at v b).inode)
  pub other_policy : MayHold (inode_at v (entry_at v b).parent) (inode_at v (entry_at v a).inode)
  pub one_clear : is_under_itself v (entry_at v a).inode (entry_at v b).parent ≡ false
  pub other_clear : is_under_itself v (entry_at v b).inode (entry_at v a).parent ≡ false

pub exchange_passed : (v : Volume) (a b : EntryNumber) → exchange_check v a b ≡ fine → ExchangePassed v a b
unfolding exchange_check
exchange_passed v a b h =
    let (one, (other, (key₁, (key₂, (policy₁, (policy₂, (clear₁, (clear₂, end)))))))) = simp (line, test) at h in
    record {
      one = one;
      other = other;
      one_key = key₁;
      other_key = key₂;
      one_policy = may_hold _ _ policy₁;
      other_policy = may_hold _ _ policy₂;
      one_clear = clear₁;
      other_clear = clear₂;
    }

pub record RemovePassed (v : Volume) (e : EntryNumber) : Type 0 where
  pub entry : is_vacant (entry_at v e) ≡ false
  pub empty : has_entries v (entry_at v e).inode ≡ false

pub remove_passed : (v : Volume) (e : EntryNumber) → remove_check v e ≡ fine → RemovePassed v e
unfolding remove_check
remove_passed v e h =
    let (entry, (empty, end)) = simp (line, test) at h in
    record { entry = entry; empty = empty }

-- ---- blocks

pub record BlockPassed (v : Volume) (i : InodeNumber) (n : ℕ) : Type 0 where
  pub size : n ≡ 4096
  pub inode : (inode_at v i).kind ≢ 0
  pub regular : (inode_at v i).kind ≡ 2
  pub has_context : (inode_at v i).encrypted ≡ true
  pub key : lacks_key v (inode_at v i) ≡ false

pub block_passed : (v : Volume) (i : InodeNumber) (n : ℕ) → block_check v i n ≡ fine → BlockPassed v i n
unfolding block_check
block_passed v i n h =
    let (size, (inode, (regular, (context, (key, end))))) = simp (line, test) at h in
    record { size = eqb-true (not-false size); inode = eqb-false _ _ inode; regular = eqb-true (not-false regular); has_context = not-false context; key = key }

-- ---- names

module _ (C : Cipher) (v : Volume) where
  pub record CreatePassed (p : InodeNumber) (k : ℕ) (n x : Bytes) : Type 0 where
    pub name : name_check n ≡ fine
    pub kind : (k ≢ 0) × (k ≤ 4)
    pub directory : (inode_at v p).kind ≡ 1
    pub key : lacks_key v (inode_at v p) ≡ false
    pub free_name : is_taken v p (stored C v (inode_at v p) n) ≡ false
    pub nonce : is_nonce_needed (inode_at v p) k ≡ true → is_borne v x ≡ false
    pub inode_room : free_inode v < inode_slots
    pub entry_room : free_entry v < entry_slots

  pub create_passed : (p : InodeNumber) (k : ℕ) (n x : Bytes) → create_check C v p k n x ≡ fine → CreatePassed p k n x
  unfolding create_check is_bad_kind
  create_passed p k n x h =
      let (name, (kind, (dir, (key, (free, (nonce, (inode, (entry, end)))))))) = simp (line, test) at h in
      record {
        name = name;
        kind = (eqb-false _ _ (or_left (eqb k 0) (ltb 4 k) kind), ltb-false 4 k (or_right (eqb k 0) (ltb 4 k) kind));
        directory = is_directory_lem v p dir;
        key = key;
        free_name = free;
        nonce = λ t. nonce_passed v x (sym (if_true _ _ t) ∙ nonce);
        inode_room = leb-false inode_slots (free_inode v) inode;
        entry_room = leb-false entry_slots (free_entry v) entry;
      }

  pub record LinkPassed (i p : InodeNumber) (n : Bytes) : Type 0 where
    pub name : name_check n ≡ fine
    pub inode : (inode_at v i).kind ≢ 0
    pub directory : (inode_at v p).kind ≡ 1
    pub not_directory : (inode_at v i).kind ≢ 1
    pub key : lacks_key v (inode_at v p) ≡ false
    pub policy : MayHold (inode_at v p) (inode_at v i)
    pub free_name : is_taken v p (stored C v (inode_at v p) n) ≡ false
    pub entry_room : free_entry v < entry_slots

  pub link_passed : (i p : InodeNumber) (n : Bytes) → link_check C v i p n ≡ fine → LinkPassed i p n
  unfolding link_check
  link_passed i p n h =
      let (name, (inode, (dir, (other, (key, (policy, (free, (entry, end)))))))) = simp (line, test) at h in
      record {
        name = name;
        inode = eqb-false _ _ inode;
        directory = is_directory_lem v p dir;
        not_directory = eqb-false _ _ other;
        key = key;
        policy = may_hold _ _ policy;
        free_name = free;
        entry_room = leb-false entry_slots (free_entry v) entry;
      }

  pub record RenamePassed (e : EntryNumber) (p : InodeNumber) (n : Bytes) : Type 0 where
    pub name : name_check n ≡ fine
    pub entry : is_vacant (entry_at v e) ≡ false
    pub directory : (inode_at v p).kind ≡ 1
    pub old_key : lacks_key v (inode_at v (entry_at v e).parent) ≡ false
    pub key : lacks_key v (inode_at v p) ≡ false
    pub policy : MayHold (inode_at v p) (inode_at v (entry_at v e).inode)
    pub clear : is_under_itself v (entry_at v e).inode p ≡ false
    pub free_name : is_taken v p (stored C v (inode_at v p) n) ≡ false

  pub rename_passed : (e : EntryNumber) (p : InodeNumber) (n : Bytes) → rename_check C v e p n ≡ fine → RenamePassed e p n
  unfolding rename_check
  rename_passed e p n h =
      let (name, (entry, (dir, (old, (key, (policy, (clear, (free, end)))))))) = simp (line, test) at h in
      record {
        name = name;
        entry = entry;
        directory = is_directory_lem v p dir;
        old_key = old;
        key = key;
        policy = may_hold _ _ policy;
        clear = clear;
        free_name = free;
      }

  pub record FindPassed (p : InodeNumber) (n : Bytes) : Type 0 where
    pub name : name_check n ≡ fine
    pub directory : (inode_at v p).kind ≡ 1
    pub key : lacks_key v (inode_at v p) ≡ false
    pub found : entry_named v p (stored C v (inode_at v p) n) < entry_slots

  pub find_passed : (p : InodeNumber) (n : Bytes) → find_check C v p n ≡ fine → FindPassed p n
  unfolding find_check
  find_passed p n h =
      let (name, (dir, (key, (found, end)))) = simp (line, test) at h in
      record { name = name; directory = is_directory_lem v p dir; key = key; found = leb-false entry_slots _ found }

  pub record ShowPassed (e : EntryNumber) (n : ℕ) : Type 0 where
    pub room : 255 ≤ n
    pub entry : is_vacant (entry_at v e) ≡ false
    pub readable : is_unreadable C v (inode_at v (entry_at v e).parent) (name_of (entry_at v e)) ≡ false

  pub show_passed : (e : EntryNumber) (n : ℕ) → show_check C v e n ≡ fine → ShowPassed e n
  unfolding show_check
  show_passed e n h =
      let (room, (entry, (readable, end))) = simp (line, test) at h in
      record { room = ltb-false n 255 room; entry = entry; readable = readable }
