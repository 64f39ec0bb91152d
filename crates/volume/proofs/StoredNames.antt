-- A name that a directory stores under its key is shown as it was given: it reads back, since what was encrypted decrypts, and the form is never the one without the
-- key. Storing and needing a key go by the keyring alone. Assumes nothing.
use Prim.Native.Nat.{ℕ}
use mathlib.Core.Path.{◌≡◌, refl, sym, ◌∙◌, ap}
use mathlib.Core.Logic.{◌≢◌}
use mathlib.Core.Bool.{Bool, true, false, cond, not, ◌&&◌, false≢true}
use mathlib.Core.List.{List}
use lib.ListN.{length, take}
use lib.Seq.{take-append_seam}
use borrow.Author.Tests.{le-ltb}
use Rattle.lists.specs.Bytes.{Bytes, ByteList}
use Rattle.lists.proofs.Tests.{if_true, if_false}
use Rattle.lists.proofs.Slots.{by_test, by_cond}
use Rattle.errno.specs.Refusals.{Checked, fine, ◌⇒◌, ◌>>◌, is_fine, check_of}
use Rattle.fscrypt.specs.Cipher.{Cipher, Lawful}
use Rattle.fscrypt.specs.Names.{name_check, read_padded, name_bytes, packed, name_in}
use Rattle.fscrypt.proofs.Padding.{read_stored, name_bytes_packed}
use Rattle.volume.specs.Volume.{name_of}
use Rattle.volume.specs.Request.{show, Form, Plain, Decrypted, Encoded}
use Rattle.volume.specs.Lookup.{key_slot_of, key_of, key_present, lacks_key, inode_at, entry_at, is_vacant}
use Rattle.volume.specs.DirectoryNames.{derived_key, name_key, stored, read_name, shown_name, is_unreadable, form_in}
use Rattle.volume.specs.Checks.{show_check}
use Rattle.volume.specs.Step.{lent, check, effect, settle, step}
use Rattle.volume.specs.Bytewise.{Bytewise}
use Rattle.volume.specs.SealedOpens.{ShowsAs}
use Rattle.ids.specs.declared.EntryNumber.{EntryNumber}
use Rattle.volume.specs.declared.Inode.{Inode}
use Rattle.volume.specs.declared.Entry.{Entry}
use Rattle.volume.specs.declared.Volume.{Volume}
use Rattle.volume.proofs.Passed.{key_present_lem}
use Rattle.volume.proofs.Bytewise.{name_key_bytes}
use Rattle.errno.specs.declared.Errno.{Errno}
use Rattle.fscrypt.specs.declared.Name.{Name}
use Rattle.std.specs.declared.result.Result.{Result}
use Rattle.std.specs.declared.result.Result.TheVariants.{Ok}

module _ (C : Cipher) (law : Lawful C) where
  module _ (v : Volume) (w : Bytewise v) (dir : Inode) (hx : ByteList dir.context.nonce) (n : Bytes) (hn : ByteList n) (good : name_check n ≡ fine)
      (held : lacks_key v dir ≡ false) where
    abbrev flags : ℕ
    flags = dir.context.policy.flags

    reads : dir.encrypted ≡ true → read_name C v dir (stored C v dir n) ≡ Ok (packed n)
    unfolding read_name stored
    reads e =
        ap (λ (s : Bytes). read_padded flags (C.decrypt_name (name_key C v dir) s)) (if_true _ _ e) ∙ read_stored C law (name_key C v dir) flags n (name_key_bytes C law v w dir hx) hn good

    pub readable : is_unreadable C v dir (stored C v dir n) ≡ false
    unfolding is_unreadable
    readable =
        by_test dir.encrypted
        (λ e. last dir.encrypted (key_present v dir) (ap (λ (r : Result Name Errno). not (is_fine (check_of r))) (reads e)))
        (λ e. ap (λ (t : Bool). t && (key_present v dir && not (is_fine (check_of (read_name C v dir (stored C v dir n)))))) e)
      where
        last : (a b : Bool) {c : Bool} → c ≡ false → (a && (b && c)) ≡ false
        last true true e = e
        last true false e = refl
        last false b e = refl

    shown_name_lem : (e : EntryNumber) → shown_name C v dir e (stored C v dir n) ≡ n
    unfolding shown_name stored
    shown_name_lem e =
        by_test dir.encrypted
        (λ t. if_true _ _ t ∙ if_true _ _ (key_present_lem v dir t held) ∙ ap (λ (r : Result Name Errno). name_bytes (name_in r)) (reads t) ∙ name_bytes_packed n)
        (λ t. if_false _ _ t ∙ if_false _ _ t)

    abbrev is_encoded : Form → Bool
    is_encoded Plain = false
    is_encoded Decrypted = false
    is_encoded Encoded = true

    not_encoded : form_in v dir ≢ Encoded
    unfolding form_in
    not_encoded q = false≢true (sym shape ∙ ap is_encoded q)
      where
        shape : is_encoded (cond dir.encrypted (cond (key_present v dir) Decrypted Encoded) Plain) ≡ false
        shape =
            by_cond (λ (f : Form). is_encoded f ≡ false) dir.encrypted _ _
            (λ t. ap (λ (b : Bool). is_encoded (cond b Decrypted Encoded)) (key_present_lem v dir t held)) (λ t. refl)

    pub shows : (e : EntryNumber) → is_vacant (entry_at v e) ≡ false → inode_at v (entry_at v e).parent ≡ dir → name_of (entry_at v e) ≡ stored C v dir n → ShowsAs C v e n
    unfolding step lent check effect show_check ◌>>◌ ◌⇒◌ settle
    shows e used there name b room =
        let x = entry_at v e in
        let o = effect C v (show e b) in
        let unreadable : is_unreadable C v (inode_at v x.parent) (name_of x) ≡ false =
        ap (λ (d : Inode). is_unreadable C v d (name_of x)) there ∙ ap (is_unreadable C v dir) name ∙ readable in
        let is_name : shown_name C v (inode_at v x.parent) e (name_of x) ≡ n =
        ap (λ (d : Inode). shown_name C v d e (name_of x)) there ∙ ap (shown_name C v dir e) name ∙ shown_name_lem e in
        let fine : show_check C v e (length b) ≡ fine = rw (le-ltb (length b) 255 room, used, unreadable) in (
          _,
          ap (λ (k : Checked). (settle v b k o).answer) fine,
          λ q. not_encoded (ap (form_in v) (sym there) ∙ q),
          ap (λ (k : Checked). take (length (shown_name C v (inode_at v x.parent) e (name_of x))) (settle v b k o).buffer) fine
              ∙ take-append_seam (shown_name C v (inode_at v x.parent) e (name_of x)) _ ∙ is_name,
        )

-- ---- a volume with the same keys

abbrev pub same_keyring : Volume → List Inode → List Entry → Volume
same_keyring v is es = record { keys = v.keys; inodes = is; entries = es }

module _ (C : Cipher) (v : Volume) (is : List Inode) (es : List Entry) where
  pub stored_same : (dir : Inode) (n : Bytes) → stored C (same_keyring v is es) dir n ≡ stored C v dir n
  unfolding stored name_key derived_key key_of key_slot_of
  stored_same dir n = refl

  pub held_same : (dir : Inode) → lacks_key (same_keyring v is es) dir ≡ lacks_key v dir
  unfolding lacks_key key_present key_of key_slot_of
  held_same dir = refl
