-- What a request leaves as it was: a refused one everything; show the buffer past the name; get policy, find, show, seal and open the volume. Assumes nothing.
-- Sentences in quotation marks are those of documents 00 and 01, in their words.
use Rattle.std.specs.Prelude.{ℕ, ◌≡◌, drop}
use Rattle.lists.specs.Bytes.{Bytes}
use Rattle.errno.specs.Refusals.{number}
use Rattle.errno.specs.declared.Errno.{Errno}
use Rattle.fscrypt.specs.Cipher.{Cipher}
use Rattle.volume.specs.Request.{Request, get_policy, find, show, seal, unseal, refused, shown, outcome, ShownEntry}
use Rattle.volume.specs.Step.{lent, step}
use Rattle.ids.specs.declared.InodeNumber.{InodeNumber}
use Rattle.ids.specs.declared.EntryNumber.{EntryNumber}
use Rattle.volume.specs.declared.Volume.{Volume}

-- the request is refused with this number
abbrev pub Refuses : Cipher → Volume → Request → ℕ → Type 0
Refuses C v r n = (step C v r).answer ≡ refused n

pub record Leaves (C : Cipher) : Type 0 where
  -- "each request ends with its answer or with one refusal from the table"
  pub numbered : (v : Volume) (r : Request) (n : ℕ) → Refuses C v r n → (e : Errno) × (n ≡ number e)
  -- "A refused request changes no byte of the shelf, nor of any buffer we lent."
  pub refused_all : (v : Volume) (r : Request) (n : ℕ) → Refuses C v r n → step C v r ≡ outcome (refused n) (lent r) v
  -- "Show writes the name's bytes at the buffer's start and no others."
  pub past_the_name : (v : Volume) (e : EntryNumber) (b : Bytes) (s : ShownEntry) → (step C v (show e b)).answer ≡ shown s
      → drop s.len (step C v (show e b)).buffer ≡ drop s.len b
  -- "seal and open also change the lent block, and nothing else"; get policy, find and show only answer
  pub getting : (v : Volume) (i : InodeNumber) → (step C v (get_policy i)).volume ≡ v
  pub finding : (v : Volume) (p : InodeNumber) (n : Bytes) → (step C v (find p n)).volume ≡ v
  pub showing : (v : Volume) (e : EntryNumber) (b : Bytes) → (step C v (show e b)).volume ≡ v
  pub sealing : (v : Volume) (i : InodeNumber) (k : ℕ) (b : Bytes) → (step C v (seal i k b)).volume ≡ v
  pub opening : (v : Volume) (i : InodeNumber) (k : ℕ) (b : Bytes) → (step C v (unseal i k b)).volume ≡ v
