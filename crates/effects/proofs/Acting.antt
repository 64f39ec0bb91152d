-- The records that the effects store, and a key added, over plain variables: what code of any form comes to. The functions prove themselves; these are laws for a reader.
-- Assumes nothing.
use mathlib.Core.Path.{◌≡◌, sym, ap, ◌∙◌}
use mathlib.Core.Bool.{Bool, true, false}
use mathlib.Core.List.{◌++◌}
use Prim.Native.Nat.{ℕ}
use lib.ListN.{length, set}
use Rattle.lists.specs.Bytes.{Bytes, laid_over}
use Rattle.lists.proofs.Tests.{if_false}
use Rattle.lists.proofs.ByteStrings.{drop_zeros}
use Rattle.fscrypt.specs.Cipher.{Cipher}
use Rattle.fscrypt.specs.Names.{packed}
use Rattle.fscrypt.specs.declared.Name.{Name}
use Rattle.volume.specs.Volume.{no_key, no_inode, key_slot, entry_slot}
use Rattle.volume.specs.Request.{outcome, done, add_key}
use Rattle.volume.specs.Lookup.{free_key_slot, inode_at}
use Rattle.volume.specs.DirectoryNames.{stored}
use Rattle.volume.specs.Checks.{is_nonce_needed}
use Rattle.volume.specs.Step.{with_keys, child_of, effect}
use Rattle.ids.specs.declared.InodeNumber.{InodeNumber}
use Rattle.volume.specs.declared.Key.{Key}
use Rattle.volume.specs.declared.Inode.{Inode}
use Rattle.volume.specs.declared.Entry.{Entry}
use Rattle.volume.specs.declared.Volume.{Volume}

-- a key laid over the zeros of a free slot
pub key_laid : (d b k : Bytes) (z : Key) → b ≡ laid_over z.bytes k → z ≡ no_key → ◌≡◌ {A = Key} (record { len = length k; descriptor = d; bytes = b }) (key_slot d k)
key_laid d b k z e h i =
    record { len = length k; descriptor = d; bytes = (e ∙ ap (λ (y : Key). laid_over y.bytes k) h ∙ ap (k ++◌) (drop_zeros (length k) 64)) i }

module _ (dir : Inode) (kind : ℕ) (x : Bytes) (t : Bool) (h : t ≡ is_nonce_needed dir kind) (n : Inode) where
  pub child_plain : t ≡ false → n ≡ no_inode → ◌≡◌ {A = Inode} (record { kind = kind; encrypted = n.encrypted; context = n.context }) (child_of dir kind x)
  unfolding child_of
  child_plain e b = ap (λ (y : Inode). record { kind = kind; encrypted = y.encrypted; context = y.context }) b ∙ sym (if_false _ _ (sym h ∙ e))

module _ (C : Cipher) (v : Volume) where
  pub add_key_acts : (d k : Bytes) (i : ℕ) (s : Key) → i ≡ free_key_slot v → s ≡ key_slot d k → outcome done k (with_keys v (set v.keys i s)) ≡ effect C v (add_key d k)
  unfolding effect
  add_key_acts d k i s hi hs j = outcome done k (with_keys v (set v.keys (hi j) (hs j)))

  pub entry_stored : (p i : InodeNumber) (n : Bytes) (dir : Inode) (s : Name) (e : Entry) → dir ≡ inode_at v p → s ≡ packed (stored C v dir n)
      → e ≡ record { len = s.len; parent = p; inode = i; name = s.bytes } → e ≡ entry_slot p i (stored C v (inode_at v p) n)
  entry_stored p i n dir s e hd hs he =
      he ∙ ap (λ (y : Name). record { len = y.len; parent = p; inode = i; name = y.bytes }) (hs ∙ ap (λ (d : Inode). packed (stored C v d n)) hd)
