-- What stands under a directory's key is what specs/UnderKeys.antt says: the search of the keyring ends at the slot that holds the descriptor, a sound volume having
-- it once, and each definition is read with that slot's key. Assumes nothing.
use Prim.Native.Nat.{ℕ, ◌-◌}
use mathlib.Core.Path.{◌≡◌, refl, sym, ◌∙◌, ap, subst}
use mathlib.Core.Bool.{true, false}
use mathlib.Core.List.{◌++◌}
use lib.ListN.{length, take, drop}
use lib.Seq.{drop-append_seam}
use borrow.Author.Tests.{ltb-true}
use Rattle.lists.specs.Bytes.{Bytes, zeros, laid_over}
use Rattle.lists.proofs.Tests.{if_true, if_false, eqb_other}
use Rattle.lists.proofs.Searches.{fails}
use Rattle.lists.proofs.Copies.{laid_read}
use Rattle.policy.specs.Policies.{name_key_size}
use Rattle.policy.specs.Meanings.{MasterKeySize}
use Rattle.fscrypt.specs.Cipher.{Cipher}
use Rattle.fscrypt.specs.Names.{encrypted, padded, name_bytes, name_in}
use Rattle.fscrypt.specs.Encoded.{encoded}
use Rattle.fscrypt.specs.Meanings.{Multiple, PaddedTo, ReadAs}
use Rattle.fscrypt.proofs.Padding.{name_bytes_packed}
use Rattle.fscrypt.proofs.PaddingMeanings.{padded_means, read_padded_read}
use Rattle.volume.specs.Volume.{key_slots, key_bytes, name_of}
use Rattle.volume.specs.Request.{show, seal, unseal, done, shown, Outcome, ShownEntry, Form, Plain, Decrypted, Encoded}
use Rattle.volume.specs.Lookup.{key_slot_of, key_of, descriptor_of, inode_at, entry_at, key_at, dir_of}
use Rattle.volume.specs.DirectoryNames.{derived_key, name_key, stored, read_name, shown_name, form_in}
use Rattle.volume.specs.Step.{check, effect, step}
use Rattle.volume.specs.Sound.{Sound}
use Rattle.volume.specs.Meanings.{KeyIn, KeyPresent, LacksKey}
use Rattle.volume.specs.UnderKeys.{derived_by, names_by, ShownIn, UnderKeys}
use Rattle.ids.specs.declared.InodeNumber.{InodeNumber}
use Rattle.ids.specs.declared.EntryNumber.{EntryNumber}
use Rattle.volume.specs.declared.Key.{Key}
use Rattle.volume.specs.declared.Inode.{Inode}
use Rattle.volume.specs.declared.Volume.{Volume}
use Rattle.volume.proofs.Kept.{was_fine, was_done}
use Rattle.volume.proofs.Meanings.{meanings}
use Rattle.volume.proofs.DoneWhenTables.{show_when}
use Rattle.volume.proofs.DoneWhen.{done_when}
use Rattle.errno.specs.declared.Errno.{Errno}
use Rattle.fscrypt.specs.declared.Name.{Name}
use Rattle.std.specs.declared.result.Result.{Result}

-- ---- the key of a descriptor

key_of_lem : (v : Volume) → Sound v → (d : Bytes) (k : ℕ) → KeyIn v d k → key_of v d ≡ key_at v k
unfolding key_of
key_of_lem v s d k w =
    let means = meanings v s in
    let first = ((means.key_slot_lem d (key_slot_of v d) (ltb-true (key_slot_of v d) key_slots ((means.key_held d).1 (k, w)))).0 refl).holds in
    let apart = s.descriptors_apart (key_slot_of v d) k (eqb_other _ 0 first.in_use) (eqb_other _ 0 w.in_use) (first.descriptor ∙ sym w.descriptor) in
    ap (key_at v) apart

-- ---- names and blocks under it

module _ (C : Cipher) where
  stored_plain : (v : Volume) (dir : Inode) (n : Bytes) → dir.encrypted ≡ false → stored C v dir n ≡ n
  unfolding stored
  stored_plain v dir n e = if_false _ _ e

  module _ (v : Volume) (s : Sound v) (i : Inode) (k : ℕ) (w : KeyIn v (descriptor_of i) k) where
    derived : derived_key C v i ≡ derived_by C v k i
    unfolding derived_key
    derived = ap (λ (x : Key). C.derive (key_bytes x) i.context.nonce) (key_of_lem v s (descriptor_of i) k w)

    names_key : name_key C v i ≡ names_by C v k i
    unfolding name_key
    names_key = ap (take (name_key_size i.context.policy)) derived

    stored_encrypted : (n : Bytes) (q m : ℕ) → i.encrypted ≡ true → Multiple i.context.policy.flags q → PaddedTo q (length n) m
        → stored C v i n ≡ C.encrypt_name (names_by C v k i) (n ++ zeros (m - length n))
    unfolding stored encrypted
    stored_encrypted n q m e M p =
        if_true _ _ e
        ∙ ap (λ (x : Bytes). C.encrypt_name x (padded i.context.policy.flags n)) names_key
        ∙ ap (C.encrypt_name (names_by C v k i)) (padded_means i.context.policy.flags q n m M p)

  module _ (v : Volume) (s : Sound v) (i : InodeNumber) (number : ℕ) (b : Bytes) (k : ℕ) (w : KeyIn v (descriptor_of (inode_at v i)) k) where
    abbrev mode : ℕ
    mode = (inode_at v i).context.policy.contents

    sealed : (step C v (seal i number b)).answer ≡ done → (step C v (seal i number b)).buffer ≡ C.seal mode (derived_by C v k (inode_at v i)) number b
    unfolding effect
    sealed h =
        ap (λ (o : Outcome). o.buffer) (was_done C v (seal i number b) done refl h)
        ∙ ap (λ (x : Bytes). C.seal mode x number b) (derived v s (inode_at v i) k w)

    opened : (step C v (unseal i number b)).answer ≡ done → (step C v (unseal i number b)).buffer ≡ C.unseal mode (derived_by C v k (inode_at v i)) number b
    unfolding effect
    opened h =
        ap (λ (o : Outcome). o.buffer) (was_done C v (unseal i number b) done refl h)
        ∙ ap (λ (x : Bytes). C.unseal mode x number b) (derived v s (inode_at v i) k w)

-- ---- the name that show answers

module _ (C : Cipher) (v : Volume) (s : Sound v) (e : EntryNumber) (b : Bytes) (a : ShownEntry) (h : (step C v (show e b)).answer ≡ shown a) where
  abbrev dir : Inode
  dir = dir_of v e.0

  abbrev name : Bytes
  name = name_of (entry_at v e)

  -- the bytes that show writes, whatever they are
  shown_in_lem : (f : Form) (n : Bytes) → form_in v dir ≡ f → shown_name C v dir e name ≡ n → ShownIn b (step C v (show e b)).buffer a f n
  unfolding effect
  shown_in_lem f n q r =
      let d = was_done C v (show e b) (shown a) refl h in
      let t = ap (λ (o : Outcome). o.answer) (sym d) ∙ h in
      let m = shown_name C v dir e name in
      let len : a.len ≡ length m = cc t in
      let buffer : (step C v (show e b)).buffer ≡ laid_over b m = ap (λ (o : Outcome). o.buffer) d in
      record {
        form = ((done_when C).shown_as v e b a h).3 ∙ q;
        len = len ∙ ap length r;
        name = ap (take a.len) buffer ∙ laid_read b m a.len len ∙ r;
        others =
            ap (drop a.len) buffer
            ∙ ap (λ (i : ℕ). drop i (laid_over b m)) len
            ∙ drop-append_seam m (drop (length m) b)
            ∙ ap (λ (i : ℕ). drop i b) (sym len);
      }

  shown_plain : dir.encrypted ≡ false → ShownIn b (step C v (show e b)).buffer a Plain name
  unfolding shown_name
  shown_plain f = shown_in_lem Plain name (((meanings v s).form_plain dir).1 f) (if_false _ _ f)

  shown_encoded : LacksKey v dir → ShownIn b (step C v (show e b)).buffer a Encoded (encoded name e.0)
  unfolding shown_name
  shown_encoded l =
      shown_in_lem Encoded (encoded name e.0) (((meanings v s).form_encoded dir).1 l)
      (if_true _ _ l.0 ∙ if_false _ _ ((fails _ ((meanings v s).key_present_lem dir)).1 l.1))

  shown_decrypted : dir.encrypted ≡ true → (k : ℕ) → KeyIn v (descriptor_of dir) k → MasterKeySize dir.context.policy (key_at v k).len
      → (q : ℕ) → Multiple dir.context.policy.flags q
      → (n : Bytes) × ReadAs q (C.decrypt_name (names_by C v k dir) name) n × ShownIn b (step C v (show e b)).buffer a Decrypted n
  unfolding shown_name read_name check
  shown_decrypted f k w size q M =
      let present : KeyPresent v dir = (k, w, size) in
      let read = ((show_when C v s e b).0 (was_fine C v (show e b) (shown a) refl h)).readable f present q M in
      let key = names_key C v s dir k w in (
        read.0,
        subst (λ (x : Bytes). ReadAs q (C.decrypt_name x name) read.0) key read.1,
        shown_in_lem Decrypted read.0 (((meanings v s).form_decrypted dir).1 (f, present))
            (if_true _ _ f
            ∙ if_true _ _ (((meanings v s).key_present_lem dir).1 present)
            ∙ ap (λ (r : Result Name Errno). name_bytes (name_in r)) (read_padded_read _ q _ M read.0 read.1)
            ∙ name_bytes_packed read.0),
      )

-- ---- the statement

pub under_keys : (C : Cipher) → UnderKeys C
under_keys C = record {
  key_of_lem = key_of_lem;
  stored_plain = stored_plain C;
  stored_encrypted = λ v s dir n k q m e w. stored_encrypted C v s dir k w n q m e;
  sealed = sealed C;
  opened = opened C;
  shown_plain = shown_plain C;
  shown_decrypted = shown_decrypted C;
  shown_encoded = shown_encoded C;
}
