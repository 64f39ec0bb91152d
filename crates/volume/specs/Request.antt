-- The requests and their answers, document 01, "What may be asked", and the views by which definitions and proofs go: what a request lends, what an answer refuses with
-- or shows. A further request or answer is a row in each.
-- Sentences in quotation marks are document 01's, in its words. Assumes nothing.
use Rattle.std.specs.Prelude.{ℕ, ◌≡◌, length, Result, Ok, Err}
use mathlib.Core.List.{List, [], ◌∷◌, Memᴰ}
use Rattle.std.proofs.Math.Option.{Option, some, none}
use Rattle.lists.specs.Bytes.{Bytes, ByteList}
use Rattle.errno.specs.Refusals.{Checked, number}
use Rattle.errno.specs.declared.Errno.{Errno}
use Rattle.ids.specs.declared.InodeNumber.{InodeNumber}
use Rattle.ids.specs.declared.EntryNumber.{EntryNumber}
use Rattle.volume.specs.declared.Volume.{Volume}
use Rattle.volume.specs.declared.Form.{Form as AnsweredForm}
use Rattle.volume.specs.declared.Form.TheVariants.{Plain as IsPlain, Decrypted as IsDecrypted, Encoded as IsEncoded}
use Rattle.volume.specs.declared.ShownEntry.{ShownEntry as AnsweredEntry}
use Rattle.volume.specs.declared.Created.{Created}

-- all that a request is given, the bytes of a lent buffer included
pub data Request : Type 0 where
  add_key : (descriptor key : Bytes) → Request
  remove_key : (descriptor : Bytes) → Request
  set_policy : (inode : InodeNumber) (policy nonce : Bytes) → Request
  get_policy : (inode : InodeNumber) → Request
  create : (parent : InodeNumber) (kind : ℕ) (name nonce : Bytes) → Request
  link : (inode parent : InodeNumber) (name : Bytes) → Request
  rename : (entry : EntryNumber) (parent : InodeNumber) (name : Bytes) → Request
  exchange : (one other : EntryNumber) → Request
  remove : (entry : EntryNumber) → Request
  find : (parent : InodeNumber) (name : Bytes) → Request
  show : (entry : EntryNumber) (buffer : Bytes) → Request
  seal : (inode : InodeNumber) (number : ℕ) (block : Bytes) → Request
  -- document 01's open
  unseal : (inode : InodeNumber) (number : ℕ) (block : Bytes) → Request

-- ---- the types of a request's parts

-- what the types of a request's parts say: bytes are bytes, and "Descriptors and nonces are always 8 and 16 bytes by their type"
abbrev pub Typed : Request → Type 0
Typed (add_key d k) = (length d ≡ 8) × ByteList d × ByteList k
Typed (remove_key d) = (length d ≡ 8) × ByteList d
Typed (set_policy i p x) = ByteList p × (length x ≡ 16) × ByteList x
Typed (get_policy i) = Unit {0}
Typed (create p kind n x) = ByteList n × (length x ≡ 16) × ByteList x
Typed (link i p n) = ByteList n
Typed (rename e p n) = ByteList n
Typed (exchange a b) = Unit {0}
Typed (remove e) = Unit {0}
Typed (find p n) = ByteList n
Typed (show e b) = ByteList b
Typed (seal i n b) = ByteList b
Typed (unseal i n b) = ByteList b

abbrev pub AllTyped : List Request → Type 0
AllTyped rs = (r : Request) → Memᴰ r rs → Typed r

-- each request, with any parts
abbrev pub each_request : InodeNumber → InodeNumber → EntryNumber → EntryNumber → ℕ → ℕ → Bytes → Bytes → Bytes → List Request
each_request i p a b kind number d x s =
    add_key d s
    ∷ remove_key d
    ∷ set_policy i s x
    ∷ get_policy i
    ∷ create p kind s x
    ∷ link i p s
    ∷ rename a p s
    ∷ exchange a b
    ∷ remove a
    ∷ find p s
    ∷ show a s
    ∷ seal i number s
    ∷ unseal i number s
    ∷ []

-- ---- what a request lends

-- the buffer that a request lends, as far as it is followed here, by what it is for: one to write to, or the key of an add key, of which the two runs speak. Policies and
-- names, lent for reading, stand in the request, and no call can write them
pub data Lent : Type 0 where
  no_buffer : Lent
  key_buffer : (bytes : Bytes) → Lent
  name_buffer : (bytes : Bytes) → Lent
  block_buffer : (bytes : Bytes) → Lent

abbrev pub lends : Request → Lent
lends (add_key d k) = key_buffer k
lends (remove_key d) = no_buffer
lends (set_policy i p x) = no_buffer
lends (get_policy i) = no_buffer
lends (create p kind n x) = no_buffer
lends (link i p n) = no_buffer
lends (rename e p n) = no_buffer
lends (exchange a b) = no_buffer
lends (remove e) = no_buffer
lends (find p n) = no_buffer
lends (show e b) = name_buffer b
lends (seal i n b) = block_buffer b
lends (unseal i n b) = block_buffer b

abbrev pub lent_bytes : Lent → Bytes
lent_bytes no_buffer = []
lent_bytes (key_buffer b) = b
lent_bytes (name_buffer b) = b
lent_bytes (block_buffer b) = b

-- ---- answers

-- "the form being plain, read with the key, or shown without it"
pub data Form : Type 0 where
  Plain Decrypted Encoded : Form

-- "show answers parent, thing, kind, form, length and name" (the name in the lent buffer)
pub record ShownEntry : Type 0 where
  pub parent : InodeNumber
  pub inode : InodeNumber
  pub kind : ℕ
  pub form : Form
  pub len : ℕ

-- "Create answers the new thing and place, link the new place, find the place, get policy the 12 bytes"; "All others answer done". A refusal is its number alone.
pub data Answer : Type 0 where
  refused : (number : ℕ) → Answer
  done : Answer
  created : (inode : InodeNumber) (entry : EntryNumber) → Answer
  at : (entry : EntryNumber) → Answer
  policy_is : (bytes : Bytes) → Answer
  shown : (entry : ShownEntry) → Answer

-- the number that a request was refused with, if it was refused
abbrev pub refusal_in : Answer → Option ℕ
refusal_in (refused n) = some n
refusal_in done = none
refusal_in (created i e) = none
refusal_in (at e) = none
refusal_in (policy_is p) = none
refusal_in (shown s) = none

-- the entry that was shown, if one was
abbrev pub shown_in : Answer → Option ShownEntry
shown_in (refused n) = none
shown_in done = none
shown_in (created i e) = none
shown_in (at e) = none
shown_in (policy_is p) = none
shown_in (shown s) = some s

-- an answer, and the lent buffer and the volume as they are left
pub record Outcome : Type 0 where
  pub answer : Answer
  pub buffer : Bytes
  pub volume : Volume

abbrev pub outcome : Answer → Bytes → Volume → Outcome
outcome a b v = record { answer = a; buffer = b; volume = v }

-- ---- the answers that code gives, each a result, as these

abbrev pub replied : Checked → Answer
replied (Ok u) = done
replied (Err e) = refused (number e)

abbrev pub create_answered : Result Created Errno → Answer
create_answered (Ok c) = created c.inode c.entry
create_answered (Err e) = refused (number e)

abbrev pub entry_answered : Result EntryNumber Errno → Answer
entry_answered (Ok n) = at n
entry_answered (Err e) = refused (number e)

abbrev pub policy_answered : Checked → Bytes → Answer
policy_answered (Ok u) p = policy_is p
policy_answered (Err e) p = refused (number e)

-- plain; read with the key; shown without it
abbrev pub form_answered : AnsweredForm → Form
form_answered IsPlain = Plain
form_answered IsDecrypted = Decrypted
form_answered IsEncoded = Encoded

abbrev pub entry_shown : AnsweredEntry → ShownEntry
entry_shown s = record { parent = s.parent; inode = s.inode; kind = s.kind; form = form_answered s.form; len = s.len }

abbrev pub show_answered : Result AnsweredEntry Errno → Answer
show_answered (Ok s) = shown (entry_shown s)
show_answered (Err e) = refused (number e)
