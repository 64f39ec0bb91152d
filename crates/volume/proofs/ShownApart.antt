-- Names shown without the key keep source document 001's promise, on every sound volume whose bytes are bytes and on every volume of every run. Two entries of
-- one directory have different numbers and different stored names, so that what is shown of them differs. Assumes nothing.
use Prim.Native.Nat.{ℕ, ◌<◌}
use native.Mathlib.Omega.{arith}
use mathlib.Core.Path.{◌≡◌, refl, sym, ◌∙◌, ap, ap₂, subst}
use mathlib.Core.Logic.{◌≢◌}
use mathlib.Core.Bool.{Bool, true, false, cond}
use mathlib.Core.List.{List, Memᴰ}
use lib.ListN.{length, get_or, take}
use lib.Seq.{take-append_seam}
use Rattle.lists.specs.Bytes.{Bytes, ByteList}
use Rattle.lists.proofs.ByteStrings.{take_bytes}
use Rattle.lists.proofs.Slots.{by_eq}
use Rattle.fscrypt.specs.Cipher.{Cipher, Lawful}
use Rattle.fscrypt.specs.Names.{name_bytes, name_in}
use Rattle.fscrypt.specs.Encoded.{encoded}
use Rattle.fscrypt.proofs.Shown.{encoded_length_low, encoded_length_high, encoded_fair}
use Rattle.fscrypt.proofs.Distinct.{encoded_apart}
use Rattle.volume.specs.Volume.{name_of}
use Rattle.volume.specs.Request.{Request, show, shown, Outcome, AllTyped, ShownEntry, Plain, Decrypted, Encoded}
use Rattle.volume.specs.Lookup.{key_present, inode_at, entry_at, Used, slot_at}
use Rattle.volume.specs.DirectoryNames.{read_name, shown_name, form_in}
use Rattle.volume.specs.Step.{check, effect, step}
use Rattle.volume.specs.Run.{Moment, run}
use Rattle.volume.specs.Sound.{Sound}
use Rattle.volume.specs.Bytewise.{Bytewise}
use Rattle.volume.specs.ShownApart.{ShownKeyless, KeepsPromise}
use Rattle.ids.specs.declared.InodeNumber.{InodeNumber}
use Rattle.ids.specs.declared.EntryNumber.{EntryNumber}
use Rattle.volume.specs.declared.Inode.{Inode}
use Rattle.volume.specs.declared.Entry.{Entry}
use Rattle.volume.specs.declared.Volume.{Volume}
use Rattle.volume.proofs.SoundInvariant.{used_range}
use Rattle.volume.proofs.Passed.{show_passed}
use Rattle.volume.proofs.Soundness.{sound}
use Rattle.volume.proofs.Bytewise.{bytewise}
use Rattle.volume.proofs.Kept.{was_fine, was_done}

-- ---- what show answers without the key

keyless_name : (x s t : Bytes) (b k : Bool) → cond b (cond k Decrypted Encoded) Plain ≡ Encoded → cond b (cond k x t) s ≡ t
keyless_name x s t true true h = absurd (let z : ◌≡◌ {A = ℕ} 0 1 = cc in omega arith)
keyless_name x s t true false h = refl
keyless_name x s t false k h = absurd (let z : ◌≡◌ {A = ℕ} 0 1 = cc in omega arith)

module _ (C : Cipher) (v : Volume) where
  shown_encoded : (dir : Inode) (e : EntryNumber) (s : Bytes) → form_in v dir ≡ Encoded → shown_name C v dir e s ≡ encoded s e.0
  unfolding shown_name form_in
  shown_encoded dir e s h = keyless_name (name_bytes (name_in (read_name C v dir s))) s (encoded s e.0) dir.encrypted (key_present v dir) h

  module _ (e : EntryNumber) (p : InodeNumber) (n : Bytes) (h : ShownKeyless C v e p n) where
    abbrev x : Entry
    x = entry_at v e

    abbrev name : Bytes
    name = shown_name C v (inode_at v x.parent) e (name_of x)

    abbrev told : ShownEntry
    told = record { parent = x.parent; inode = x.inode; kind = (inode_at v x.inode).kind; form = form_in v (inode_at v x.parent); len = length name }

    was_used : Used v e.0
    unfolding check
    was_used = (show_passed C v e _ (was_fine C v (show e h.lent) (shown h.entry) refl h.answered)).entry

    done : step C v (show e h.lent) ≡ effect C v (show e h.lent)
    done = was_done C v (show e h.lent) (shown h.entry) refl h.answered

    was_told : h.entry ≡ told
    unfolding effect
    was_told = cc (sym h.answered ∙ ap (λ (o : Outcome). o.answer) done)

    is_parent : x.parent ≡ p
    is_parent = sym (ap (λ (s : ShownEntry). s.parent) was_told) ∙ h.parent

    is_encoded_lem : n ≡ encoded (name_of x) e.0
    unfolding effect
    is_encoded_lem =
        sym h.name ∙ ap₂ (λ (s : ShownEntry) (o : Outcome). take s.len o.buffer) was_told done ∙ take-append_seam name _
        ∙ shown_encoded (inode_at v x.parent) e (name_of x) (sym (ap (λ (s : ShownEntry). s.form) was_told) ∙ h.keyless)

-- ---- on every sound volume

number_same : (a b : EntryNumber) → a.0 ≡ b.0 → a ≡ b
number_same a b q i = record { 0 = q i }

module _ (C : Cipher) (v : Volume) (s : Sound v) (w : Bytewise v) where
  name_bytes_lem : (e : ℕ) → ByteList (name_of (slot_at v e))
  name_bytes_lem e = take_bytes (slot_at v e).len (slot_at v e).name (w.names e)

  in_table : (e : ℕ) → Used v e → e < 256
  in_table e u = omega (arith, used_range v.entries e u, s.entry_slots_lem)

  -- two entries in use of one directory are encoded differently
  pub entries_apart : (a b : ℕ) → Used v a → Used v b → (slot_at v a).parent ≡ (slot_at v b).parent → a ≢ b
      → encoded (name_of (slot_at v a)) a ≢ encoded (name_of (slot_at v b)) b
  entries_apart a b ua ub p ne =
      encoded_apart (name_of (slot_at v a)) (name_of (slot_at v b)) a b (name_bytes_lem a) (name_bytes_lem b) (in_table a ua) (in_table b ub) ne
      (λ q. ne (s.names_apart a b ua ub p q))

  pub keeps_promise : KeepsPromise C v
  keeps_promise = record {
    short = λ e p n h.
        let l = ap length (is_encoded_lem C v e p n h) in
        let x = name_of (entry_at v e) in
        let some = (s.name_lengths e.0 (was_used C v e p n h)).0 in
        (omega (arith, l, encoded_length_low x e.0 (omega (arith, some))), omega (arith, l, encoded_length_high x e.0));
    fair = λ e p n h.
        subst (λ (l : Bytes). (i : ℕ) → i < length l → (get_or l i 0 ≢ 0) × (get_or l i 0 ≢ 47)) (sym (is_encoded_lem C v e p n h))
        (encoded_fair (name_of (entry_at v e)) e.0 (name_bytes_lem e.0));
    distinct = λ a b p n h k.
        by_eq a.0 b.0 (number_same a b)
        (λ ne. absurd (entries_apart a.0 b.0 (was_used C v a p n h) (was_used C v b p n k) (is_parent C v a p n h ∙ sym (is_parent C v b p n k)) ne
        (sym (is_encoded_lem C v a p n h) ∙ is_encoded_lem C v b p n k)));
  }

-- ---- on every volume of every run

pub promise_kept : (C : Cipher) → Lawful C → (rs : List Request) → AllTyped rs → (m : Moment) → Memᴰ m (run C rs) → KeepsPromise C m.volume
promise_kept C law rs t m h = keeps_promise C m.volume (sound C law rs t m h) (bytewise C law rs t m h)
