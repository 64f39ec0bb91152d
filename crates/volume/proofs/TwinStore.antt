-- The two runs: what a volume comes to when inodes change and none that has entries does, and when besides a name is stored in an entry. Both keep what holds of
-- the identity run's volume, and both are done to the other run's volume as well. Assumes nothing.
use Prim.Native.Nat.{ℕ, ◌-◌}
use mathlib.Core.Path.{◌≡◌, refl, sym, ◌∙◌, ap, ap₂, subst}
use mathlib.Core.Logic.{◌≢◌}
use mathlib.Core.Bool.{Bool, true, false, cond, true≢false, false≢true}
use mathlib.Core.List.{List, ◌++◌, map}
use mathlib.Core.Option.{some, none}
use lib.ListN.{length, get_or, set, take, drop, length-set}
use lib.Seq.{take-append_seam, drop-append_seam}
use Rattle.lists.specs.Bytes.{Bytes, ByteList, zeros}
use Rattle.lists.proofs.Tests.{if_false, eqb_self, eqb_other}
use Rattle.lists.proofs.Tables.{map_set, map_agree, all_set}
use Rattle.fscrypt.specs.Names.{name_check}
use Rattle.volume.specs.Volume.{no_inode, no_entry, name_of, entry_slot}
use Rattle.volume.specs.Lookup.{lacks_key, inode_at, is_vacant, slot_at, Used, dir_of}
use Rattle.volume.specs.DirectoryNames.{stored}
use Rattle.volume.specs.Step.{with_inodes}
use Rattle.volume.specs.GivenNames.{Names, only_at, later}
use Rattle.ids.specs.declared.InodeNumber.{InodeNumber}
use Rattle.ids.specs.declared.EntryNumber.{EntryNumber}
use Rattle.volume.specs.declared.Inode.{Inode}
use Rattle.volume.specs.declared.Entry.{Entry}
use Rattle.volume.specs.declared.Volume.{Volume}
use Rattle.volume.proofs.SoundCore.{slot_name}
use Rattle.volume.proofs.Twin.{identity, Setting, enc_name, enc_key, dir_in, enc_entry, enc, InodeOk, Storable, EntryOk, Inv}
use Rattle.volume.proofs.TwinLookup.{enc_length, stored_twin, stored_is, stored_storable, stored_some}
use Rattle.errno.specs.Refusals.{fine}

-- ---- given names: one entry is given one

abbrev pub with_name : Names → EntryNumber → Bytes → Names
with_name g e n j = later (only_at e n j) (g j)

pub new_name : (g : Names) (e : EntryNumber) (n : Bytes) → with_name g e n e.0 ≡ some n
new_name g e n = ap (λ (b : Bool). later (cond b (some n) none) (g e.0)) (eqb_self e.0)

old_name : (g : Names) (e : EntryNumber) (n : Bytes) (j : ℕ) → j ≢ e.0 → with_name g e n j ≡ g j
old_name g e n j ne = ap (λ (b : Bool). later (cond b (some n) none) (g j)) (eqb_other j e.0 ne)

module _ (S : Setting) {g : Names} (v : Volume) (ok : Inv S g v) where
  -- one inode changes, for one whose nonce is bytes
  pub nonces_set : (i : ℕ) (x : Inode) → InodeOk S x → (j : ℕ) → InodeOk S (get_or (set v.inodes i x) j no_inode)
  nonces_set i x h = all_set (λ j y. InodeOk S y) v.inodes no_inode i x (λ j u. absurd (false≢true u)) (λ j ne. ok.inodes_ok j) h

  -- an entry whose directory stays as it is
  entry_kept : (is' : List Inode) (e : Entry) → (is_vacant e ≡ false → dir_in is' e ≡ inode_at v e.parent) → enc_entry S v.inodes e ≡ enc_entry S is' e
  entry_kept is' e h = λ i. record { len = e.len; parent = e.parent; inode = e.inode; name = go (is_vacant e) h i }
    where
      go : (u : Bool) → (u ≡ false → dir_in is' e ≡ inode_at v e.parent)
          → cond u e.name (enc_name S (inode_at v e.parent) (name_of e) ++ drop e.len e.name)
          ≡ cond u e.name (enc_name S (dir_in is' e) (name_of e) ++ drop e.len e.name)
      go true h = refl
      go false h = ap (λ (d : Inode). enc_name S d (name_of e) ++ drop e.len e.name) (sym (h refl))

  entry_moves : (g' : Names) {dir dir' : Inode} (at : ℕ) (e : Entry) → EntryOk S g dir at e → g' at ≡ g at → dir' ≡ dir → EntryOk S g' dir' at e
  entry_moves g' {dir} {dir'} at e w p q =
      subst (λ (d : Inode). EntryOk S g' d at e) (sym q) (record {
        name = w.name;
        is_given = p ∙ w.is_given;
        is_plain = w.is_plain;
        in_directory = w.in_directory;
        is_sized = w.is_sized;
        is_stored = w.is_stored;
        storable = w.storable;
      })

  -- inodes change, and none that has entries
  module _ (is' : List Inode) (nonces : (i : ℕ) → InodeOk S (get_or is' i no_inode))
      (kept : (i : ℕ) → Used v i → dir_in is' (slot_at v i) ≡ dir_of v i) where
    kept_entries : map (enc_entry S v.inodes) v.entries ≡ map (enc_entry S is') v.entries
    kept_entries = map_agree (enc_entry S v.inodes) (enc_entry S is') v.entries no_entry (λ i. entry_kept is' (slot_at v i) (kept i))

    pub kept_inv : Inv S g (with_inodes v is')
    kept_inv =
        record {
          keys_ok = ok.keys_ok;
          inodes_ok = nonces;
          entries_ok = λ i u. entry_moves g i (slot_at v i) (ok.entries_ok i u) refl (kept i u);
          sized = ok.sized;
        }

    pub kept_enc : with_inodes (enc S v) is' ≡ enc S (with_inodes v is')
    kept_enc = λ i. record { keys = map (enc_key S) v.keys; inodes = is'; entries = kept_entries i }

    -- and a name is stored in the entry e
    module _ (p : InodeNumber) (e : EntryNumber) (i : InodeNumber) (n : Bytes) (here : get_or is' p.0 no_inode ≡ inode_at v p)
        (kind : (inode_at v p).kind ≡ 1) (good : name_check n ≡ fine) (nb : ByteList n) (key : lacks_key v (inode_at v p) ≡ false) where
      abbrev slot : Entry
      slot = entry_slot p i (stored identity v (inode_at v p) n)

      slot_ok : EntryOk S (with_name g e n) (inode_at v p) e.0 slot
      slot_ok =
          let q = slot_name p i (stored identity v (inode_at v p) n) in
          record {
            name = n;
            is_given = new_name g e n;
            is_plain = good;
            in_directory = kind;
            is_sized = ap length q;
            is_stored = q ∙ stored_is S v ok (inode_at v p) n;
            storable = λ c. subst (Storable S (inode_at v p)) (sym q) (stored_storable S v ok p n nb c);
          }

      pub store_inv : Inv S (with_name g e n) (record { keys = v.keys; inodes = is'; entries = set v.entries e.0 slot })
      store_inv =
          record {
            keys_ok = ok.keys_ok;
            inodes_ok = nonces;
            entries_ok = all_set (λ j x. is_vacant x ≡ false → EntryOk S (with_name g e n) (dir_in is' x) j x) v.entries no_entry e.0 slot
                (λ j u. absurd (true≢false u))
                (λ j ne u. entry_moves (with_name g e n) j (slot_at v j) (ok.entries_ok j u) (old_name g e n j ne) (kept j u))
                (λ u. subst (λ (d : Inode). EntryOk S (with_name g e n) d e.0 slot) (sym here) slot_ok);
            sized = simp length-set ok.sized;
          }

      slot_enc : ◌≡◌ {A = Entry} (entry_slot p i (stored S.cipher (enc S v) (inode_at v p) n)) (enc_entry S is' slot)
      slot_enc =
          let s = stored identity v (inode_at v p) n in
          let c = stored S.cipher (enc S v) (inode_at v p) n in
          let q : c ≡ enc_name S (inode_at v p) s = stored_twin S v ok (inode_at v p) n key in
          let l : length c ≡ length s = ap length q ∙ enc_length S (inode_at v p) s in
          let b : c ++ zeros (255 - length c)
          ≡ enc_name S (get_or is' p.0 no_inode) (take (length s) (s ++ zeros (255 - length s))) ++ drop (length s) (s ++ zeros (255 - length s)) =
          ap₂ (λ (x : Bytes) (m : ℕ). x ++ zeros (255 - m)) (q ∙ ap (λ (d : Inode). enc_name S d s) (sym here)) l
          ∙ sym (ap₂ (λ (x y : Bytes). enc_name S (get_or is' p.0 no_inode) x ++ y)
          (take-append_seam s (zeros (255 - length s))) (drop-append_seam s (zeros (255 - length s)))) in
          λ k. record { len = l k; parent = p; inode = i; name = (b ∙ sym (if_false (s ++ zeros (255 - length s)) _ (stored_some S v ok (inode_at v p) n good))) k }

      pub store_enc : ◌≡◌ {A = Volume}
          (record {
            keys = map (enc_key S) v.keys;
            inodes = is';
            entries = set (map (enc_entry S v.inodes) v.entries) e.0 (entry_slot p i (stored S.cipher (enc S v) (inode_at v p) n));
          })
          (enc S (record { keys = v.keys; inodes = is'; entries = set v.entries e.0 slot }))
      store_enc =
          let q : set (map (enc_entry S v.inodes) v.entries) e.0 (entry_slot p i (stored S.cipher (enc S v) (inode_at v p) n))
          ≡ map (enc_entry S is') (set v.entries e.0 slot) =
          ap₂ (λ (l : List Entry) (x : Entry). set l e.0 x) kept_entries slot_enc ∙ sym (map_set (enc_entry S is') v.entries e.0 slot) in
          λ k. record { keys = map (enc_key S) v.keys; inodes = is'; entries = q k }
