-- Demand 2: "With the same key, what was encrypted decrypts to what it was." A block that was sealed is opened as it was, and the name that a create, link or
-- rename gave is the one that show answers, at once and on any later volume in which the entry has the same stored name, directory and key. Assumes nothing.
use Rattle.std.specs.Prelude.{ℕ, ◌≤◌, ◌≡◌, ◌≢◌, true, false, length, take}
use mathlib.Core.List.{List, Memᴰ}
use Rattle.lists.specs.Bytes.{Bytes, ByteList}
use Rattle.fscrypt.specs.Cipher.{Cipher}
use Rattle.volume.specs.Request.{Request, Typed, AllTyped, create, link, rename, show, seal, unseal, done, created, at, shown, outcome, ShownEntry, Encoded}
use Rattle.volume.specs.Lookup.{key_of, descriptor_of, inode_at, is_free, entry_at, dir_of}
use Rattle.volume.specs.Step.{step}
use Rattle.volume.specs.Run.{Moment, run_from}
use Rattle.volume.specs.Sound.{Sound}
use Rattle.volume.specs.Bytewise.{Bytewise}
use Rattle.ids.specs.declared.InodeNumber.{InodeNumber}
use Rattle.ids.specs.declared.EntryNumber.{EntryNumber}
use Rattle.volume.specs.declared.Inode.{Inode}
use Rattle.volume.specs.declared.Volume.{Volume}

-- show answers this name for this entry, plain or decrypted, with any buffer that has room
abbrev pub ShowsAs : Cipher → Volume → EntryNumber → Bytes → Type 0
ShowsAs C v e n =
    (b : Bytes) → 255 ≤ length b
    → (s : ShownEntry) × ((step C v (show e b)).answer ≡ shown s) × (s.form ≢ Encoded) × (take s.len (step C v (show e b)).buffer ≡ n)

-- two volumes hold the same key for an inode's policy
abbrev pub SameKey : Volume → Volume → Inode → Type 0
SameKey v w node = key_of w (descriptor_of node) ≡ key_of v (descriptor_of node)

-- the entry has the same stored name in both, of whatever inode ("Exchange doesn't change it")
abbrev pub SameName : Volume → Volume → EntryNumber → Type 0
SameName v w e = ((entry_at w e).len ≡ (entry_at v e).len) × ((entry_at w e).name ≡ (entry_at v e).name)

-- the inode is there after each of these requests
abbrev pub Stays : Cipher → Volume → List Request → InodeNumber → Type 0
Stays C v rs i = (m : Moment) → Memᴰ m (run_from C v rs) → is_free (inode_at m.volume i) ≡ false

pub record SealedOpens (C : Cipher) : Type 0 where
  pub blocks : (v : Volume) → Bytewise v → (i : InodeNumber) (number : ℕ) (b : Bytes) → ByteList b → (step C v (seal i number b)).answer ≡ done
      → step C (step C v (seal i number b)).volume (unseal i number (step C v (seal i number b)).buffer) ≡ outcome done b v
  pub later_blocks : (v w : Volume) → Bytewise v → (i : InodeNumber) (number : ℕ) (b : Bytes) → ByteList b → inode_at w i ≡ inode_at v i → SameKey v w (inode_at v i)
      → (step C v (seal i number b)).answer ≡ done → step C w (unseal i number (step C v (seal i number b)).buffer) ≡ outcome done b w
  -- an inode that has a context keeps it through any requests, as long as it is there; so a block that was sealed opens after them, if the key is the same
  pub context_stays : (v : Volume) → Sound v → (i : InodeNumber) → (inode_at v i).encrypted ≡ true → (rs : List Request) → AllTyped rs → Stays C v rs i
      → (m : Moment) → Memᴰ m (run_from C v rs) → inode_at m.volume i ≡ inode_at v i
  pub blocks_through_runs : (v : Volume) → Bytewise v → Sound v → (i : InodeNumber) (number : ℕ) (b : Bytes) → ByteList b → (step C v (seal i number b)).answer ≡ done
      → (rs : List Request) → AllTyped rs → Stays C v rs i → (m : Moment) → Memᴰ m (run_from C v rs) → SameKey v m.volume (inode_at v i)
      → step C m.volume (unseal i number (step C v (seal i number b)).buffer) ≡ outcome done b m.volume
  pub created_names : (v : Volume) → Bytewise v → Sound v → (p : InodeNumber) (kind : ℕ) (n x : Bytes) → Typed (create p kind n x)
      → (i : InodeNumber) (e : EntryNumber) → (step C v (create p kind n x)).answer ≡ created i e → ShowsAs C (step C v (create p kind n x)).volume e n
  pub linked_names : (v : Volume) → Bytewise v → Sound v → (i p : InodeNumber) (n : Bytes) → Typed (link i p n)
      → (e : EntryNumber) → (step C v (link i p n)).answer ≡ at e → ShowsAs C (step C v (link i p n)).volume e n
  pub renamed_names : (v : Volume) → Bytewise v → (e : EntryNumber) (p : InodeNumber) (n : Bytes) → Typed (rename e p n)
      → (step C v (rename e p n)).answer ≡ done → ShowsAs C (step C v (rename e p n)).volume e n
  pub later_names : (v w : Volume) (e : EntryNumber) (n : Bytes) → SameName v w e → dir_of w e.0 ≡ dir_of v e.0 → SameKey v w (dir_of v e.0)
      → ShowsAs C v e n → ShowsAs C w e n
