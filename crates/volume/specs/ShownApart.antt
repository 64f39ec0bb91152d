-- Names shown without the key, document 01, "Names and blocks": "it keeps source document 001's promise (at most 255 bytes, no `/`, no NUL, distinct in a
-- folder)". A name is what show answers with the form that is shown without the key. Assumes nothing.
use Rattle.std.specs.Prelude.{ℕ, ◌≤◌, ◌<◌, ◌≡◌, ◌≢◌, length, take, get_or}
use Rattle.lists.specs.Bytes.{Bytes}
use Rattle.fscrypt.specs.Cipher.{Cipher}
use Rattle.volume.specs.Request.{show, shown, ShownEntry, Encoded}
use Rattle.volume.specs.Step.{step}
use Rattle.ids.specs.declared.InodeNumber.{InodeNumber}
use Rattle.ids.specs.declared.EntryNumber.{EntryNumber}
use Rattle.volume.specs.declared.Volume.{Volume}

-- with some buffer show answers, without the key, that this entry stands in this directory under this name
pub record ShownKeyless (C : Cipher) (v : Volume) (e : EntryNumber) (dir : InodeNumber) (n : Bytes) : Type 0 where
  pub lent : Bytes
  pub entry : ShownEntry
  pub answered : (step C v (show e lent)).answer ≡ shown entry
  pub keyless : entry.form ≡ Encoded
  pub parent : entry.parent ≡ dir
  pub name : take entry.len (step C v (show e lent)).buffer ≡ n

pub record KeepsPromise (C : Cipher) (v : Volume) : Type 0 where
  -- "at most 255 bytes"
  pub short : (e : EntryNumber) (dir : InodeNumber) (n : Bytes) → ShownKeyless C v e dir n → (1 ≤ length n) × (length n ≤ 255)
  -- "no `/`, no NUL"
  pub fair : (e : EntryNumber) (dir : InodeNumber) (n : Bytes) → ShownKeyless C v e dir n → (i : ℕ) → i < length n → (get_or n i 0 ≢ 0) × (get_or n i 0 ≢ 47)
  -- "distinct in a folder"
  pub distinct : (a b : EntryNumber) (dir : InodeNumber) (n : Bytes) → ShownKeyless C v a dir n → ShownKeyless C v b dir n → a ≡ b
