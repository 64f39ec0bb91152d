-- The two runs: lookups, and comparing names, come to the same in a run and in its identity run, for encryption keeps lengths and decrypts.
-- A name is stored in the one as it is in the other, encrypted. Assumes nothing.
use Prim.Native.Nat.{ℕ, zero, suc}
use native.Mathlib.Omega.{arith}
use mathlib.Core.Path.{◌≡◌, refl, sym, ◌∙◌, ap, subst}
use mathlib.Core.Logic.{◌⊎◌, inl, inr}
use mathlib.Core.Bool.{Bool, true, false, cond, not, ◌&&◌, false≢true}
use mathlib.Core.List.{List, ◌++◌, map}
use lib.ListN.{length, get_or, take, drop, get_or-map}
use lib.Seq.{take_at}
use lib.Dec.{eqb}
use borrow.Author.Tests.{not-true}
use Rattle.lists.specs.Bytes.{Bytes, ByteList, same, first_at, is_empty}
use Rattle.lists.proofs.Tests.{not-false, and_left, and_right, and_cong, if_true, if_false, eqb-true, eqb_other, same_eq, same_inj}
use Rattle.lists.proofs.ByteStrings.{take_bytes}
use Rattle.lists.proofs.Tables.{first_at_map, first_at_ends}
use Rattle.errno.proofs.Chains.{skip}
use Rattle.policy.specs.Policies.{is_master_key_size, name_key_size}
use Rattle.policy.proofs.Meanings.{master_key_some}
use Rattle.fscrypt.specs.Names.{name_check, padded, encrypted}
use Rattle.fscrypt.proofs.Padding.{pad_fits, length_padded, padded_bytes, name_fits, plain_name}
use Rattle.volume.specs.Volume.{inode_slots, no_key, no_inode, no_entry, name_of}
use Rattle.volume.specs.Lookup.{is_free_key, on_keyring, key_slot_of, free_key_slot, key_of, master_key, descriptor_of, key_present, lacks_key, inode_at, is_directory, entry_at, is_vacant, free_entry, is_in, is_named, entry_named, first_child, is_link, first_link, parent_of, climb_from, is_moved, is_under_itself, slot_at}
use Rattle.volume.specs.DirectoryNames.{derived_key, name_key, stored, form_in}
use Rattle.volume.specs.Checks.{directory_check}
use Rattle.volume.specs.GivenNames.{Names}
use Rattle.ids.specs.declared.InodeNumber.{InodeNumber}
use Rattle.ids.specs.declared.EntryNumber.{EntryNumber}
use Rattle.volume.specs.declared.Key.{Key}
use Rattle.volume.specs.declared.Inode.{Inode}
use Rattle.volume.specs.declared.Entry.{Entry}
use Rattle.volume.specs.declared.Volume.{Volume}
use Rattle.volume.specs.Request.{Lent, Plain, Decrypted, Encoded}
use Rattle.volume.specs.declared.Met.{Met}
use Rattle.volume.specs.declared.Met.TheVariants.{Moved, Root}
use Rattle.volume.proofs.Passed.{key_present_lem}
use Rattle.volume.proofs.Twin.{identity, Setting, Alike, test, both_fine, key_for, enc_name, enc_key, dir_in, enc_entry, enc, KeyOk, Storable, EntryOk, Inv}
use Rattle.errno.specs.Refusals.{fine}

-- ---- names

module _ (S : Setting) where
  key_for_bytes : (dir : Inode) → ByteList dir.context.nonce → ByteList (key_for S dir)
  unfolding key_for
  key_for_bytes dir h =
      take_bytes (name_key_size dir.context.policy) (S.cipher.derive (S.key (descriptor_of dir)) dir.context.nonce)
      (S.lawful.bytes_derive (S.key (descriptor_of dir)) dir.context.nonce (S.key_bytes_lem (descriptor_of dir)) h)

  -- what may be stored is read back
  pub name_back : (dir : Inode) (s : Bytes) → Storable S dir s → S.cipher.decrypt_name (key_for S dir) (S.cipher.encrypt_name (key_for S dir) s) ≡ s
  name_back dir s w = S.lawful.decrypt_encrypt (key_for S dir) s (key_for_bytes dir w.nonce) w.bytes

  pub enc_length : (dir : Inode) (s : Bytes) → length (enc_name S dir s) ≡ length s
  enc_length dir s = go dir.encrypted
    where
      go : (b : Bool) → length (cond b (S.cipher.encrypt_name (key_for S dir) s) s) ≡ length s
      go true = S.lawful.length_encrypt_name (key_for S dir) s
      go false = refl

  enc_same : (dir : Inode) (s t : Bytes) → (dir.encrypted ≡ true → Storable S dir s) → (dir.encrypted ≡ true → Storable S dir t)
      → same (enc_name S dir s) (enc_name S dir t) ≡ same s t
  enc_same dir s t hs ht = go dir.encrypted hs ht
    where
      go : (b : Bool) → (b ≡ true → Storable S dir s) → (b ≡ true → Storable S dir t)
          → same (cond b (S.cipher.encrypt_name (key_for S dir) s) s) (cond b (S.cipher.encrypt_name (key_for S dir) t) t) ≡ same s t
      go true hs ht =
          same_inj (λ x. S.cipher.encrypt_name (key_for S dir) x) (λ x. S.cipher.decrypt_name (key_for S dir) x) s t (name_back dir s (hs refl)) (name_back dir t (ht refl))
      go false hs ht = refl

  -- the name of an entry in the directory dir
  pub entry_name : (is : List Inode) (dir : Inode) (e : Entry) → is_vacant e ≡ false → dir_in is e ≡ dir → length (name_of e) ≡ e.len
      → name_of (enc_entry S is e) ≡ enc_name S dir (name_of e)
  entry_name is dir e u d l =
      ap (take e.len) (if_false _ _ u ∙ ap (λ (i : Inode). enc_name S i (name_of e) ++ drop e.len e.name) d)
      ∙ take_at (enc_name S dir (name_of e)) (drop e.len e.name) e.len (enc_length dir (name_of e) ∙ l)

  -- a used key slot holds the key of its descriptor
  key_master : (k : Key) → KeyOk S k → is_free_key k ≡ false → take k.len (enc_key S k).bytes ≡ S.key k.descriptor
  key_master k h u =
      ap (take k.len) (if_false _ _ u) ∙ take_at (S.key k.descriptor) (drop (length (S.key k.descriptor)) k.bytes) k.len (h u)

  module _ {g : Names} (v : Volume) (ok : Inv S g v) where
    -- ---- lookups

    pub slot_twin : (d : Bytes) → key_slot_of (enc S v) d ≡ key_slot_of v d
    unfolding key_slot_of
    slot_twin d = first_at_map (enc_key S) (on_keyring d) (on_keyring d) v.keys no_key (λ i. refl)

    pub free_key_twin : free_key_slot (enc S v) ≡ free_key_slot v
    unfolding free_key_slot
    free_key_twin = first_at_map (enc_key S) is_free_key is_free_key v.keys no_key (λ i. refl)

    key_twin : (d : Bytes) → key_of (enc S v) d ≡ enc_key S (key_of v d)
    unfolding key_of
    key_twin d = ap (λ (i : ℕ). get_or (map (enc_key S) v.keys) i no_key) (slot_twin d) ∙ get_or-map (enc_key S) v.keys (key_slot_of v d) no_key

    pub present_twin : (i : Inode) → key_present (enc S v) i ≡ key_present v i
    unfolding key_present
    present_twin i = ap (λ (k : Key). is_master_key_size i.context.policy k.len) (key_twin (descriptor_of i))

    pub needed_twin : (i : Inode) → lacks_key (enc S v) i ≡ lacks_key v i
    unfolding lacks_key
    needed_twin i = ap (λ (b : Bool). i.encrypted && not b) (present_twin i)

    pub form_twin : (i : Inode) → form_in (enc S v) i ≡ form_in v i
    unfolding form_in
    form_twin i = ap (λ (b : Bool). cond i.encrypted (cond b Decrypted Encoded) Plain) (present_twin i)

    -- the key of an inode whose key is present
    present_key : (i : Inode) → key_present v i ≡ true → master_key (enc S v) (descriptor_of i) ≡ S.key (descriptor_of i)
    unfolding key_present key_of key_slot_of
    present_key i h = go (first_at_ends (on_keyring d) v.keys no_key)
      where
        d : Bytes
        d = descriptor_of i

        k : Key
        k = get_or v.keys (first_at (on_keyring d) v.keys) no_key

        used : is_free_key k ≡ false
        used = eqb_other k.len 0 (master_key_some i.context.policy k.len h)

        go : (on_keyring d k ≡ true) ⊎ (k ≡ no_key) → master_key (enc S v) d ≡ S.key d
        go (inl p) =
            let s : k.descriptor ≡ d = same_eq k.descriptor d (and_right (not (is_free_key k)) (same k.descriptor d) p) in
            ap (λ (y : Key). take y.len y.bytes) (key_twin d) ∙ key_master k (ok.keys_ok (first_at (on_keyring d) v.keys)) used ∙ ap S.key s
        go (inr p) = absurd (false≢true (sym used ∙ ap is_free_key p))

    pub name_key_lem : (dir : Inode) → key_present v dir ≡ true → name_key S.cipher (enc S v) dir ≡ key_for S dir
    unfolding name_key derived_key key_for
    name_key_lem dir h = ap (λ (m : Bytes). take (name_key_size dir.context.policy) (S.cipher.derive m dir.context.nonce)) (present_key dir h)

    pub entry_twin : (e : EntryNumber) → entry_at (enc S v) e ≡ enc_entry S v.inodes (entry_at v e)
    entry_twin e = get_or-map (enc_entry S v.inodes) v.entries e.0 no_entry

    pub free_entry_twin : free_entry (enc S v) ≡ free_entry v
    unfolding free_entry
    free_entry_twin = first_at_map (enc_entry S v.inodes) is_vacant is_vacant v.entries no_entry (λ i. refl)

    pub child_twin : (i : InodeNumber) → first_child (enc S v) i ≡ first_child v i
    unfolding first_child
    child_twin i = first_at_map (enc_entry S v.inodes) (is_in i) (is_in i) v.entries no_entry (λ j. refl)

    pub link_at_twin : (es : List Entry) (i : InodeNumber) → first_link (map (enc_entry S v.inodes) es) i ≡ first_link es i
    unfolding first_link
    link_at_twin es i = first_at_map (enc_entry S v.inodes) (is_link i) (is_link i) es no_entry (λ j. refl)

    parent_twin : (i : InodeNumber) → parent_of (enc S v) i ≡ parent_of v i
    unfolding parent_of
    parent_twin i =
        ap (λ (n : ℕ). (entry_at (enc S v) (record { 0 = n })).parent) (link_at_twin v.entries i)
        ∙ ap (λ (x : Entry). x.parent) (entry_twin (record { 0 = first_link v.entries i }))

    climb_twin : (n : ℕ) (moved from : InodeNumber) → climb_from (enc S v) moved n from ≡ climb_from v moved n from
    unfolding climb_from
    climb_twin zero moved from = refl
    climb_twin (suc n) moved from =
        ap (λ (m : Met). cond (eqb from.0 moved.0) Moved (cond (eqb from.0 0) Root m))
        (ap (climb_from (enc S v) moved n) (parent_twin from) ∙ climb_twin n moved (parent_of v from))

    pub under_twin : (moved from : InodeNumber) → is_under_itself (enc S v) moved from ≡ is_under_itself v moved from
    unfolding is_under_itself
    under_twin moved from = ap (λ (m : Met). is_directory (inode_at v moved) && is_moved m) (climb_twin inode_slots moved from)

    -- ---- a name stored in a directory whose key is not wanting

    pub stored_twin : (dir : Inode) (n : Bytes) → lacks_key v dir ≡ false → stored S.cipher (enc S v) dir n ≡ enc_name S dir (stored identity v dir n)
    unfolding stored encrypted
    stored_twin dir n h = go dir.encrypted (λ e. key_present_lem v dir e h)
      where
        go : (b : Bool) → (b ≡ true → key_present v dir ≡ true)
            → cond b (S.cipher.encrypt_name (name_key S.cipher (enc S v) dir) (padded dir.context.policy.flags n)) n
            ≡ cond b (S.cipher.encrypt_name (key_for S dir) (cond b (padded dir.context.policy.flags n) n)) (cond b (padded dir.context.policy.flags n) n)
        go true f = ap (λ (k : Bytes). S.cipher.encrypt_name k (padded dir.context.policy.flags n)) (name_key_lem dir (f refl))
        go false f = refl

    pub stored_is : (dir : Inode) (n : Bytes) → stored identity v dir n ≡ cond dir.encrypted (padded dir.context.policy.flags n) n
    unfolding stored encrypted
    stored_is dir n = refl

    pub stored_storable : (p : InodeNumber) (n : Bytes) → ByteList n → (inode_at v p).encrypted ≡ true → Storable S (inode_at v p) (stored identity v (inode_at v p) n)
    stored_storable p n b e =
        let dir = inode_at v p in
        let c : stored identity v dir n ≡ padded dir.context.policy.flags n = stored_is dir n ∙ if_true _ _ e in
        subst (Storable S dir) (sym c) (record { nonce = ok.inodes_ok p.0 e; bytes = padded_bytes dir.context.policy.flags n b })

    -- no stored name is empty
    pub stored_some : (dir : Inode) (n : Bytes) → name_check n ≡ fine → is_empty (stored identity v dir n) ≡ false
    unfolding stored encrypted
    stored_some dir n h = go dir.encrypted
      where
        flags : ℕ
        flags = dir.context.policy.flags

        go : (b : Bool) → is_empty (cond b (padded dir.context.policy.flags n) n) ≡ false
        go true = eqb_other (length (padded flags n)) 0 (λ z. omega (arith, (pad_fits flags (length n) (name_fits n h)).low, length_padded flags n (name_fits n h)))
        go false = (plain_name n h).some_bytes

    -- the test whether an entry has this name
    named_twin : (p : InodeNumber) (s : Bytes) → ((inode_at v p).encrypted ≡ true → Storable S (inode_at v p) s)
        → (i : ℕ) → is_named p (enc_name S (inode_at v p) s) (enc_entry S v.inodes (slot_at v i)) ≡ is_named p s (slot_at v i)
    named_twin p s h i =
        let x = slot_at v i in
        and_cong (is_in p x) λ e.
        let u : is_vacant x ≡ false = not-true (is_vacant x) (and_left (not (is_vacant x)) (eqb x.parent.0 p.0) e) in
        let q : x.parent.0 ≡ p.0 = eqb-true (and_right (not (is_vacant x)) (eqb x.parent.0 p.0) e) in
        let d : inode_at v x.parent ≡ inode_at v p = ap (λ (n : ℕ). get_or v.inodes n no_inode) q in
        let w = subst (λ (dir : Inode). EntryOk S g dir i x) d (ok.entries_ok i u) in
        ap (λ (y : Bytes). same y (enc_name S (inode_at v p) s)) (entry_name v.inodes (inode_at v p) x u d w.is_sized)
        ∙ enc_same (inode_at v p) (name_of x) s w.storable h

    pub entry_named_twin : (p : InodeNumber) (n : Bytes) → lacks_key v (inode_at v p) ≡ false → ByteList n
        → entry_named (enc S v) p (stored S.cipher (enc S v) (inode_at v p) n) ≡ entry_named v p (stored identity v (inode_at v p) n)
    unfolding entry_named
    entry_named_twin p n h b = first_at_map (enc_entry S v.inodes) _ _ v.entries no_entry λ i.
        ap (λ (s : Bytes). is_named p s (enc_entry S v.inodes (slot_at v i))) (stored_twin (inode_at v p) n h)
        ∙ named_twin p (stored identity v (inode_at v p) n) (stored_storable p n b) i

    -- ---- tables that requests share

    pub name_part : {l : Lent} (n : Bytes) → Alike l (name_check n ≡ fine) (name_check n) (name_check n)
    unfolding name_check
    name_part n =
        test _ tt refl λ h₁.
        test _ tt refl λ h₂.
        test _ tt refl λ h₃.
        both_fine (sym (skip _ _ _ _ h₁ (skip _ _ _ _ h₂ (skip _ _ _ _ h₃ refl))))

    pub directory_part : {l : Lent} (p : InodeNumber) → Alike l ((inode_at v p).kind ≡ 1) (directory_check (enc S v) p) (directory_check v p)
    unfolding directory_check
    directory_part p =
        test _ tt refl λ h₁.
        test _ tt refl λ h₂.
        both_fine (eqb-true (not-false h₂))
