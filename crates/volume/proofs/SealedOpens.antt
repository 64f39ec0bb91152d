-- With the same key, what was encrypted decrypts to what it was: blocks by the cipher's law, and names since the volume that a create, link or rename leaves
-- has the same keys and the same directory, so that what is read is what was stored. Assumes nothing.
use Prim.Native.Nat.{ℕ}
use native.Mathlib.Omega.{arith}
use mathlib.Core.Path.{◌≡◌, refl, sym, ◌∙◌, ap, ap₂, subst}
use mathlib.Core.Bool.{Bool, true, false, cond, not, ◌&&◌}
use mathlib.Core.List.{List, ◌++◌}
use lib.ListN.{length, get_or, take, drop}
use lib.Dec.{eqb, ltb}
use lib.Seq.{get_or-set_same, take-append_seam}
use Rattle.lists.specs.Bytes.{Bytes, ByteList}
use Rattle.lists.proofs.Tests.{eqb_other}
use Rattle.errno.specs.Refusals.{fine, ◌⇒◌, ◌>>◌, is_fine, check_of}
use Rattle.errno.specs.declared.Errno.TheVariants.{ENOENT, ERANGE, EUCLEAN}
use Rattle.policy.specs.Policies.{is_master_key_size, name_key_size}
use Rattle.fscrypt.specs.Cipher.{Cipher, Lawful}
use Rattle.fscrypt.specs.Names.{name_check, read_padded, name_bytes, name_in}
use Rattle.fscrypt.specs.Encoded.{encoded}
use Rattle.volume.specs.Volume.{no_inode, no_entry, key_bytes, name_of, entry_slot}
use Rattle.volume.specs.Request.{Request, create, link, rename, show, seal, unseal, Answer, done, created, at, shown, Outcome, outcome, Typed, Plain, Decrypted, Encoded}
use Rattle.volume.specs.Lookup.{key_present, lacks_key, inode_at, free_inode, entry_at, is_vacant, free_entry, dir_of}
use Rattle.volume.specs.DirectoryNames.{derived_key, name_key, stored, read_name, shown_name, is_unreadable, form_in}
use Rattle.volume.specs.Checks.{block_check, show_check}
use Rattle.volume.specs.Step.{check, effect, step, child_of}
use Rattle.volume.specs.Sound.{Sound}
use Rattle.volume.specs.Bytewise.{Bytewise}
use Rattle.volume.specs.SealedOpens.{ShowsAs, SameKey, SameName, SealedOpens}
use Rattle.ids.specs.declared.InodeNumber.{InodeNumber}
use Rattle.ids.specs.declared.EntryNumber.{EntryNumber}
use Rattle.volume.specs.declared.Key.{Key}
use Rattle.volume.specs.declared.Inode.{Inode}
use Rattle.volume.specs.declared.Entry.{Entry}
use Rattle.volume.specs.declared.Volume.{Volume}
use Rattle.volume.proofs.Kept.{step_has, done_by, was_fine, was_done}
use Rattle.volume.proofs.SoundCore.{slot_name}
use Rattle.volume.proofs.SoundClimb.{num}
use Rattle.volume.proofs.SoundInvariant.{one≢zero, used_range, name_ok}
use Rattle.volume.proofs.Passed.{create_passed, link_passed, rename_passed, block_passed}
use Rattle.volume.proofs.SoundCreate.{free_kept}
use Rattle.volume.proofs.ContextsStay.{context_stays}
use Rattle.volume.proofs.Bytewise.{derived_bytes_lem, bytewise_kept}
use Rattle.volume.proofs.StoredNames.{shows, same_keyring, stored_same, held_same}
use Rattle.errno.specs.declared.Errno.{Errno}
use Rattle.fscrypt.specs.declared.Name.{Name}
use Rattle.std.specs.declared.result.Result.{Result}

-- ---- what is read of a volume by the key of an inode

needed_same : (v w : Volume) (node : Inode) → SameKey v w node → lacks_key w node ≡ lacks_key v node
unfolding lacks_key key_present
needed_same v w node k = ap (λ (x : Key). node.encrypted && not (is_master_key_size node.context.policy x.len)) k

present_same : (v w : Volume) (node : Inode) → SameKey v w node → key_present w node ≡ key_present v node
unfolding key_present
present_same v w node k = ap (λ (x : Key). is_master_key_size node.context.policy x.len) k

derived_same : (C : Cipher) (v w : Volume) (node : Inode) → SameKey v w node → derived_key C w node ≡ derived_key C v node
unfolding derived_key
derived_same C v w node k = ap (λ (x : Key). C.derive (key_bytes x) node.context.nonce) k

module _ (C : Cipher) (v w : Volume) (dir : Inode) (k : SameKey v w dir) where
  read_same : (s : Bytes) → read_name C w dir s ≡ read_name C v dir s
  unfolding read_name name_key
  read_same s =
      ap (λ (x : Bytes). read_padded dir.context.policy.flags (C.decrypt_name (take (name_key_size dir.context.policy) x) s)) (derived_same C v w dir k)

  unreadable_same : (s : Bytes) → is_unreadable C w dir s ≡ is_unreadable C v dir s
  unfolding is_unreadable
  unreadable_same s =
      ap₂ (λ (b : Bool) (r : Result Name Errno). dir.encrypted && (b && not (is_fine (check_of r)))) (present_same v w dir k) (read_same s)

  shown_same : (e : EntryNumber) (s : Bytes) → shown_name C w dir e s ≡ shown_name C v dir e s
  unfolding shown_name
  shown_same e s =
      ap₂ (λ (b : Bool) (r : Result Name Errno). cond dir.encrypted (cond b (name_bytes (name_in r)) (encoded s e.0)) s) (present_same v w dir k) (read_same s)

  form_same : form_in w dir ≡ form_in v dir
  unfolding form_in
  form_same = ap (λ (b : Bool). cond dir.encrypted (cond b Decrypted Encoded) Plain) (present_same v w dir k)

-- ---- blocks

module _ (C : Cipher) (law : Lawful C) where
  -- the check of a block reads the inode and its key alone
  block_same : (v w : Volume) (i : InodeNumber) (n : ℕ) → inode_at w i ≡ inode_at v i → SameKey v w (inode_at v i) → block_check w i n ≡ block_check v i n
  unfolding block_check
  block_same v w i n q k = rw (q, needed_same v w (inode_at v i) k)

  later_opens : (v w : Volume) → Bytewise v → (i : InodeNumber) (n : ℕ) (b : Bytes) → ByteList b → inode_at w i ≡ inode_at v i → SameKey v w (inode_at v i)
      → (step C v (seal i n b)).answer ≡ done → step C w (unseal i n (step C v (seal i n b)).buffer) ≡ outcome done b w
  unfolding check effect
  later_opens v w bytes i n b hb q k h =
      let passed : block_check v i (length b) ≡ fine = was_fine C v (seal i n b) done refl h in
      let key = derived_key C v (inode_at v i) in
      let mode = (inode_at v i).context.policy.contents in
      let sealed = C.seal mode key n b in
      let again : block_check w i (length sealed) ≡ fine = block_same v w i (length sealed) q k ∙ ap (block_check v i) (law.length_seal mode key n b) ∙ passed in
      let same_key : derived_key C w (inode_at w i) ≡ key = ap (derived_key C w) q ∙ derived_same C v w (inode_at v i) k in
      ap (λ (o : Outcome). step C w (unseal i n o.buffer)) (was_done C v (seal i n b) done refl h)
      ∙ done_by C w (unseal i n sealed) again
      ∙ ap₂ (λ (m : ℕ) (x : Bytes). outcome done (C.unseal m x n sealed) w) (ap (λ (y : Inode). y.context.policy.contents) q) same_key
      ∙ ap (λ (x : Bytes). outcome done x w) (law.unseal_seal mode key n b (derived_bytes_lem C law v bytes (inode_at v i) (bytes.nonces i.0)) hb)

  -- seal leaves the volume as it was
  block_opens : (v : Volume) → Bytewise v → (i : InodeNumber) (n : ℕ) (b : Bytes) → ByteList b → (step C v (seal i n b)).answer ≡ done
      → step C (step C v (seal i n b)).volume (unseal i n (step C v (seal i n b)).buffer) ≡ outcome done b v
  unfolding effect
  block_opens v bytes i n b hb h =
      let d = was_done C v (seal i n b) done refl h in
      ap (λ (o : Outcome). step C o.volume (unseal i n (step C v (seal i n b)).buffer)) d ∙ later_opens v v bytes i n b hb refl refl h

  -- ---- names: an entry that a request stored

  module _ (v : Volume) (is : List Inode) (es : List Entry) where
    abbrev after : Volume
    after = same_keyring v is es

    shows_new : Bytewise after → (e : EntryNumber) (p i : InodeNumber) (n : Bytes) → ByteList n → name_check n ≡ fine → lacks_key v (inode_at v p) ≡ false
        → get_or is p.0 no_inode ≡ inode_at v p → get_or es e.0 no_entry ≡ entry_slot p i (stored C v (inode_at v p) n) → ShowsAs C after e n
    shows_new w e p i n hn good held dir slot =
        let s = stored C v (inode_at v p) n in
        let ok = name_ok C law v (inode_at v p) n good in
        let nz : is_vacant (entry_slot p i s) ≡ false = eqb_other (length s) 0 (λ z. absurd (omega (arith, ok.some, z))) in
        shows C law after w (inode_at v p) (subst (λ (d : Inode). ByteList d.context.nonce) dir (w.nonces p.0)) n hn good (held_same C v is es (inode_at v p) ∙ held) e
        (ap is_vacant slot ∙ nz)
        (ap (λ (x : Entry). get_or is x.parent.0 no_inode) slot ∙ dir)
        (ap name_of slot ∙ slot_name p i s ∙ sym (stored_same C v is es (inode_at v p) n))

  -- what is claimed of a request that answered a, where it stored the name n in the entry e
  abbrev Showing : EntryNumber → Bytes → Answer → Outcome → Type 0
  Showing e n a o = Bytewise o.volume → o.answer ≡ a → ShowsAs C o.volume e n

  created_shows : (v : Volume) → Bytewise v → Sound v → (p : InodeNumber) (kind : ℕ) (n x : Bytes) → Typed (create p kind n x) → (i : InodeNumber) (e : EntryNumber)
      → (step C v (create p kind n x)).answer ≡ created i e → ShowsAs C (step C v (create p kind n x)).volume e n
  unfolding check effect
  created_shows v w s p kind n x t i e =
      let r : Request = create p kind n x in
      step_has C v r (Showing e n (created i e)) (λ f u a. let z : ◌≡◌ {A = ℕ} 0 1 = cc in absurd (omega arith))
      (λ h u a.
      let c = create_passed C v p kind n x h in
      let new = entry_slot p (num (free_inode v)) (stored C v (inode_at v p) n) in
      let q : ◌≡◌ {A = EntryNumber} (record { 0 = free_entry v }) e = cc in
      subst (λ (f : EntryNumber). ShowsAs C (effect C v r).volume f n) q
      (shows_new v _ _ u (record { 0 = free_entry v }) p (num (free_inode v)) n t.0 c.name c.key
      (free_kept v (child_of (inode_at v p) kind x) p.0 (one≢zero c.directory))
      (get_or-set_same v.entries (free_entry v) new no_entry (omega (arith, c.entry_room, s.entry_slots_lem)))))
      (bytewise_kept C law v w r t)

  linked_shows : (v : Volume) → Bytewise v → Sound v → (i p : InodeNumber) (n : Bytes) → Typed (link i p n) → (e : EntryNumber)
      → (step C v (link i p n)).answer ≡ at e → ShowsAs C (step C v (link i p n)).volume e n
  unfolding check effect
  linked_shows v w s i p n t e =
      let r : Request = link i p n in
      step_has C v r (Showing e n (at e)) (λ f u a. let z : ◌≡◌ {A = ℕ} 0 1 = cc in absurd (omega arith))
      (λ h u a.
      let c = link_passed C v i p n h in
      let new = entry_slot p i (stored C v (inode_at v p) n) in
      let q : ◌≡◌ {A = EntryNumber} (record { 0 = free_entry v }) e = cc in
      subst (λ (f : EntryNumber). ShowsAs C (effect C v r).volume f n) q
      (shows_new v _ _ u (record { 0 = free_entry v }) p i n t c.name c.key refl
      (get_or-set_same v.entries (free_entry v) new no_entry (omega (arith, c.entry_room, s.entry_slots_lem)))))
      (bytewise_kept C law v w r t)

  renamed_shows : (v : Volume) → Bytewise v → (e : EntryNumber) (p : InodeNumber) (n : Bytes) → Typed (rename e p n) → (step C v (rename e p n)).answer ≡ done
      → ShowsAs C (step C v (rename e p n)).volume e n
  unfolding check effect
  renamed_shows v w e p n t =
      let r : Request = rename e p n in
      step_has C v r (Showing e n done) (λ f u a. let z : ◌≡◌ {A = ℕ} 0 1 = cc in absurd (omega arith))
      (λ h u a.
      let c = rename_passed C v e p n h in
      let new = entry_slot p (entry_at v e).inode (stored C v (inode_at v p) n) in
      shows_new v _ _ u e p (entry_at v e).inode n t c.name c.key refl
      (get_or-set_same v.entries e.0 new no_entry (used_range v.entries e.0 c.entry)))
      (bytewise_kept C law v w r t)

-- ---- names: on a later volume

module _ (C : Cipher) (v w : Volume) (e : EntryNumber) (qx : SameName v w e) (qd : dir_of w e.0 ≡ dir_of v e.0) (k : SameKey v w (dir_of v e.0)) where
  abbrev dir : Inode
  dir = dir_of v e.0

  same_name : name_of (entry_at w e) ≡ name_of (entry_at v e)
  same_name = ap₂ take qx.0 qx.1

  unreadable_later : is_unreadable C w (dir_of w e.0) (name_of (entry_at w e)) ≡ is_unreadable C v dir (name_of (entry_at v e))
  unreadable_later =
      ap₂ (is_unreadable C w) qd same_name ∙ unreadable_same C v w dir k (name_of (entry_at v e))

  shown_later : shown_name C w (dir_of w e.0) e (name_of (entry_at w e)) ≡ shown_name C v dir e (name_of (entry_at v e))
  shown_later = ap₂ (λ (d : Inode) (s : Bytes). shown_name C w d e s) qd same_name ∙ shown_same C v w dir k e (name_of (entry_at v e))

  check_later : (n : ℕ) → show_check C w e n ≡ show_check C v e n
  unfolding show_check
  check_later n =
      ap₂ (λ (a b : Bool). ◌>>◌ (ltb n 255 ⇒ ERANGE) (◌>>◌ (a ⇒ ENOENT) (◌>>◌ (b ⇒ EUCLEAN) fine))) (ap (λ (n : ℕ). eqb n 0) qx.0) unreadable_later

  later_shows : (n : Bytes) → ShowsAs C v e n → ShowsAs C w e n
  unfolding check effect
  later_shows n h b room =
      let r = h b room in
      let fine = was_fine C v (show e b) (shown r.0) refl r.1 in
      let dv : step C v (show e b) ≡ effect C v (show e b) = was_done C v (show e b) (shown r.0) refl r.1 in
      let dw : step C w (show e b) ≡ effect C w (show e b) = done_by C w (show e b) (check_later (length b) ∙ fine) in
      let nv = shown_name C v dir e (name_of (entry_at v e)) in
      let nw = shown_name C w (dir_of w e.0) e (name_of (entry_at w e)) in
      let told = ap (λ (o : Outcome). o.answer) (sym dv) ∙ r.1 in
      let s : form_in v dir ≡ r.0.form = cc told in
      let l : length nv ≡ r.0.len = cc told in
      let name : nv ≡ n =
      sym (take-append_seam nv (drop (length nv) b)) ∙ ap (λ (m : ℕ). take m (nv ++ drop (length nv) b)) l
      ∙ ap (λ (o : Outcome). take r.0.len o.buffer) (sym dv) ∙ r.3 in (
        _,
        ap (λ (o : Outcome). o.answer) dw,
        (λ q. r.2 (sym s ∙ sym (form_same C v w dir k) ∙ ap (form_in w) (sym qd) ∙ q)),
        ap (λ (o : Outcome). take (length nw) o.buffer) dw ∙ take-append_seam nw (drop (length nw) b) ∙ shown_later ∙ name,
      )

-- ---- blocks: through runs

sealed_encrypted : (C : Cipher) (v : Volume) (i : InodeNumber) (n : ℕ) (b : Bytes) → (step C v (seal i n b)).answer ≡ done → (inode_at v i).encrypted ≡ true
unfolding check
sealed_encrypted C v i n b h =
    (block_passed v i (length b) (was_fine C v (seal i n b) done refl h)).has_context

pub sealed_opens : (C : Cipher) → Lawful C → SealedOpens C
sealed_opens C law = record {
  blocks = block_opens C law;
  later_blocks = later_opens C law;
  context_stays = λ v s i e rs t h m p. context_stays C law i rs v s t e h m p;
  blocks_through_runs = λ v w s i n b hb d rs t h m p k.
      later_opens C law v m.volume w i n b hb (context_stays C law i rs v s t (sealed_encrypted C v i n b d) h m p) k d;
  created_names = created_shows C law;
  linked_names = linked_shows C law;
  renamed_names = renamed_shows C law;
  later_names = λ v w e n qx qd k. later_shows C v w e qx qd k n;
}
