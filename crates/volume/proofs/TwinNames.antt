-- The two runs: set policy, and the requests that store a name: create, link and rename. Whether a name is taken is the same in both runs, for names under one key
-- are equal exactly where their ciphertexts are. Assumes nothing.
use Prim.Native.Nat.{ℕ}
use mathlib.Core.Path.{◌≡◌, refl, ◌∙◌, ap}
use mathlib.Core.Bool.{Bool, true, false, cond, false≢true}
use mathlib.Core.List.{List, [], map}
use lib.ListN.{get_or, set}
use lib.Seq.{get_or-set_other}
use lib.Dec.{leb, ltb}
use Rattle.lists.specs.Bytes.{Bytes, ByteList, first_at}
use Rattle.policy.specs.Policies.{policy_check, read_policy, policy_in}
use Rattle.volume.specs.Volume.{entry_slots, no_inode, plain_inode, encrypted_inode, entry_slot}
use Rattle.volume.specs.Request.{set_policy, create, link, rename, Lent, no_buffer, done, created, at, outcome}
use Rattle.volume.specs.Lookup.{lacks_key, inode_at, is_free, free_inode, nonce_holder, entry_at, is_vacant, free_entry, has_entries, is_under_itself, slot_at, Used, dir_of}
use Rattle.volume.specs.DirectoryNames.{stored}
use Rattle.volume.specs.Checks.{is_policy_refused, is_nonce_needed, nonce_check, same_policy_check, first_policy_check, set_policy_check, create_check, link_check, rename_check}
use Rattle.volume.specs.Step.{with_inodes, with_entries, child_of, check, effect}
use Rattle.volume.specs.GivenNames.{Names, named_by, naming, named}
use Rattle.volume.specs.TwoRuns.{blank_buffer}
use Rattle.ids.specs.declared.InodeNumber.{InodeNumber}
use Rattle.ids.specs.declared.EntryNumber.{EntryNumber}
use Rattle.volume.specs.declared.Inode.{Inode}
use Rattle.volume.specs.declared.Entry.{Entry}
use Rattle.volume.specs.declared.Volume.{Volume}
use Rattle.volume.proofs.SoundInvariant.{one≢zero}
use Rattle.volume.proofs.SoundCreate.{free_kept}
use Rattle.volume.proofs.SoundCore.{none_in}
use Rattle.volume.proofs.Twin.{Setting, Alike, test, part, last, both_fine, enc_key, dir_in, enc_entry, enc, InodeOk, Inv, StepTwin, Same}
use Rattle.volume.proofs.TwinLookup.{needed_twin, entry_twin, free_entry_twin, child_twin, under_twin, entry_named_twin, name_part, directory_part}
use Rattle.volume.proofs.TwinStore.{nonces_set, kept_inv, kept_enc, store_inv, store_enc}
use Rattle.errno.specs.Refusals.{fine}

module _ (S : Setting) {g : Names} (v : Volume) (ok : Inv S g v) where
  policy_part : {l : Lent} (p : Bytes) → Alike l (Unit {0}) (policy_check p) (policy_check p)
  unfolding policy_check
  policy_part p =
      test _ tt refl λ h₁.
      test _ tt refl λ h₂.
      both_fine tt

  nonce_part : {l : Lent} (x : Bytes) → Alike l (Unit {0}) (nonce_check (enc S v) x) (nonce_check v x)
  unfolding nonce_check nonce_holder
  nonce_part x = test _ tt refl λ h. both_fine tt

  pub set_policy_twin : (i : InodeNumber) (p x : Bytes) → ByteList x → Same S g v (set_policy i p x) (set_policy i p x)
  unfolding Same check effect set_policy_check named_by naming named blank_buffer
  set_policy_twin i p x xb =
      test _ tt refl λ h₁.
      part (policy_part p) λ h₂.
      go (inode_at v i).encrypted
    where
      is' : List Inode
      is' = set v.inodes i.0 (encrypted_inode 1 (policy_in (read_policy p)) x)

      nonces : (j : ℕ) → InodeOk S (get_or is' j no_inode)
      nonces = nonces_set S v ok i.0 (encrypted_inode 1 (policy_in (read_policy p)) x) (λ u. xb)

      kept : has_entries v i ≡ false → (j : ℕ) → Used v j
          → dir_in is' (slot_at v j) ≡ dir_of v j
      kept h j u = get_or-set_other v.inodes i.0 (slot_at v j).parent.0 _ no_inode (none_in v ok.sized i h j u)

      -- by whether the inode is encrypted: its policy is compared, or it gets its first one
      go : (c : Bool)
          → Alike no_buffer (StepTwin S (set_policy i p x) g (outcome done [] (cond c (enc S v) (with_inodes (enc S v) is'))) (outcome done [] (cond c v (with_inodes v is'))))
          (cond c (same_policy_check (inode_at v i) (policy_in (read_policy p))) (first_policy_check (enc S v) i x))
          (cond c (same_policy_check (inode_at v i) (policy_in (read_policy p))) (first_policy_check v i x))
      go true = test _ tt refl λ h. both_fine (record { answers = refl; buffers = refl; volumes = refl; inv = ok; right = tt })
      go false =
          test _ tt refl λ h₁.
          test _ tt refl λ h₂.
          test _ tt (ap (λ (n : ℕ). ltb n entry_slots) (child_twin S v ok i)) λ h₃.
          last (nonce_part x) (λ u. record { answers = refl; buffers = refl; volumes = kept_enc S v ok is' nonces (kept h₃); inv = kept_inv S v ok is' nonces (kept h₃); right = tt })

  child_ok : (dir : Inode) (kind : ℕ) (x : Bytes) → ByteList x → InodeOk S (child_of dir kind x)
  unfolding child_of
  child_ok dir kind x xb = go (is_nonce_needed dir kind)
    where
      go : (c : Bool) → InodeOk S (cond c (encrypted_inode kind dir.context.policy x) (plain_inode kind))
      go true = λ u. xb
      go false = λ u. absurd (false≢true u)

  pub create_twin : (p : InodeNumber) (kind : ℕ) (n x : Bytes) → ByteList n → ByteList x → Same S g v (create p kind n x) (create p kind n x)
  unfolding Same check effect create_check free_inode named_by naming named blank_buffer
  create_twin p kind n x nb xb =
      part (name_part S v ok n) λ plain.
      test _ tt refl λ h₁.
      part (directory_part S v ok p) λ dir.
      test _ tt (needed_twin S v ok (inode_at v p)) λ key.
      test _ tt (ap (λ (m : ℕ). ltb m entry_slots) (entry_named_twin S v ok p n key nb)) λ h₂.
      part (needed_nonce (is_nonce_needed (inode_at v p) kind)) λ h₃.
      test _ tt refl λ h₄.
      test _ tt (ap (leb entry_slots) (free_entry_twin S v ok)) λ h₅.
      let e : EntryNumber = record { 0 = free_entry v } in
      both_fine (record {
        answers = ap (λ (m : ℕ). created i (record { 0 = m })) (free_entry_twin S v ok);
        buffers = refl;
        volumes = ap (λ (m : ℕ). record {
          keys = map (enc_key S) v.keys;
          inodes = is';
          entries = set (map (enc_entry S v.inodes) v.entries) m (entry_slot p i (stored S.cipher (enc S v) (inode_at v p) n));
        }) (free_entry_twin S v ok)
            ∙ store_enc S v ok is' nonces stays p e i n (kept p dir) dir plain nb key;
        inv = store_inv S v ok is' nonces stays p e i n (kept p dir) dir plain nb key;
        right = tt;
      })
    where
      needed_nonce : (c : Bool) → Alike no_buffer (Unit {0}) (cond c (nonce_check (enc S v) x) fine) (cond c (nonce_check v x) fine)
      needed_nonce true = nonce_part x
      needed_nonce false = both_fine tt

      i : InodeNumber
      i = record { 0 = first_at is_free v.inodes }

      is' : List Inode
      is' = set v.inodes i.0 (child_of (inode_at v p) kind x)

      nonces : (j : ℕ) → InodeOk S (get_or is' j no_inode)
      nonces = nonces_set S v ok i.0 (child_of (inode_at v p) kind x) (child_ok (inode_at v p) kind x xb)

      -- a directory is not the free inode that is taken
      kept : (q : InodeNumber) → (inode_at v q).kind ≡ 1 → get_or is' q.0 no_inode ≡ inode_at v q
      kept q k = free_kept v (child_of (inode_at v p) kind x) q.0 (one≢zero k)

      stays : (j : ℕ) → Used v j → dir_in is' (slot_at v j) ≡ dir_of v j
      stays j u = kept (slot_at v j).parent (ok.entries_ok j u).in_directory

  pub link_twin : (i p : InodeNumber) (n : Bytes) → ByteList n → Same S g v (link i p n) (link i p n)
  unfolding Same check effect link_check named_by naming named blank_buffer
  link_twin i p n nb =
      part (name_part S v ok n) λ plain.
      test _ tt refl λ h₁.
      part (directory_part S v ok p) λ dir.
      test _ tt refl λ h₂.
      test _ tt (needed_twin S v ok (inode_at v p)) λ key.
      test _ tt refl λ h₃.
      test _ tt (ap (λ (m : ℕ). ltb m entry_slots) (entry_named_twin S v ok p n key nb)) λ h₄.
      test _ tt (ap (leb entry_slots) (free_entry_twin S v ok)) λ h₅.
      let e : EntryNumber = record { 0 = free_entry v } in
      both_fine (record {
        answers = ap (λ (m : ℕ). at (record { 0 = m })) (free_entry_twin S v ok);
        buffers = refl;
        volumes = ap (λ (m : ℕ). with_entries (enc S v) (set (map (enc_entry S v.inodes) v.entries) m (entry_slot p i (stored S.cipher (enc S v) (inode_at v p) n))))
            (free_entry_twin S v ok)
            ∙ store_enc S v ok v.inodes ok.inodes_ok (λ j u. refl) p e i n refl dir plain nb key;
        inv = store_inv S v ok v.inodes ok.inodes_ok (λ j u. refl) p e i n refl dir plain nb key;
        right = tt;
      })

  pub rename_twin : (e : EntryNumber) (p : InodeNumber) (n : Bytes) → ByteList n → Same S g v (rename e p n) (rename e p n)
  unfolding Same check effect rename_check named_by naming named blank_buffer
  rename_twin e p n nb =
      let o = entry_twin S v ok e in
      let i : InodeNumber = (entry_at v e).inode in
      part (name_part S v ok n) λ plain.
      test _ tt (ap is_vacant o) λ h₁.
      part (directory_part S v ok p) λ dir.
      test _ tt (ap (λ (x : Entry). lacks_key (enc S v) (inode_at v x.parent)) o ∙ needed_twin S v ok (inode_at v (entry_at v e).parent)) λ h₂.
      test _ tt (needed_twin S v ok (inode_at v p)) λ key.
      test _ tt (ap (λ (x : Entry). is_policy_refused (inode_at v p) (inode_at v x.inode)) o) λ h₃.
      test _ tt (ap (λ (x : Entry). is_under_itself (enc S v) x.inode p) o ∙ under_twin S v ok i p) λ h₄.
      test _ tt (ap (λ (m : ℕ). ltb m entry_slots) (entry_named_twin S v ok p n key nb)) λ h₅.
      both_fine (record {
        answers = refl;
        buffers = refl;
        volumes = ap (λ (x : Entry). with_entries (enc S v)
            (set (map (enc_entry S v.inodes) v.entries) e.0 (entry_slot p x.inode (stored S.cipher (enc S v) (inode_at v p) n)))) o
            ∙ store_enc S v ok v.inodes ok.inodes_ok (λ j u. refl) p e i n refl dir plain nb key;
        inv = store_inv S v ok v.inodes ok.inodes_ok (λ j u. refl) p e i n refl dir plain nb key;
        right = tt;
      })
