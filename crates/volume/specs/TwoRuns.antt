-- The two runs of demand 3, document 01, "The two runs of demand 3": two lists of requests that differ only in key bytes give runs that differ only in key
-- bytes and ciphertext, and each name shown plain or decrypted is the one that the requests gave that entry. Assumes nothing.
use Rattle.std.specs.Prelude.{ℕ, ◌≡◌, ◌≢◌, cond, length, take, drop, leb}
use mathlib.Core.List.{List, [], ◌∷◌, ◌++◌, map, Memᴰ}
use Rattle.std.proofs.Math.Option.{Option, some, none}
use Rattle.lists.specs.Bytes.{Bytes, zeros}
use Rattle.errno.specs.Refusals.{number}
use Rattle.errno.specs.declared.Errno.TheVariants.{EUCLEAN}
use Rattle.fscrypt.specs.Cipher.{Cipher}
use Rattle.volume.specs.Request.{Request, AllTyped, add_key, show, Lent, no_buffer, key_buffer, name_buffer, block_buffer, lends, Form, Plain, Decrypted, Encoded, ShownEntry, Answer, refused, shown, refusal_in, shown_in, Outcome, outcome}
use Rattle.volume.specs.Lookup.{inode_at}
use Rattle.volume.specs.Run.{Moment, run}
use Rattle.volume.specs.GivenNames.{given}
use Rattle.ids.specs.declared.EntryNumber.{EntryNumber}
use Rattle.volume.specs.declared.Key.{Key}
use Rattle.volume.specs.declared.Entry.{Entry}
use Rattle.volume.specs.declared.Volume.{Volume}

-- ---- the two lists

-- "the two lists agree in all of it but the bytes, not the length, of the key in each add key request"
pub data SameButKeys : List Request → List Request → Type 0 where
  no_more : SameButKeys [] []
  same_request : (r : Request) {rs₁ rs₂ : List Request} → SameButKeys rs₁ rs₂ → SameButKeys (r ∷ rs₁) (r ∷ rs₂)
  other_key : (d k₁ k₂ : Bytes) → length k₁ ≡ length k₂ → {rs₁ rs₂ : List Request} → SameButKeys rs₁ rs₂ → SameButKeys (add_key d k₁ ∷ rs₁) (add_key d k₂ ∷ rs₂)

-- "Within one list, all add key requests with the same descriptor carry the same key, refused ones too."
abbrev pub OneKeyEach : List Request → Type 0
OneKeyEach rs = (d k k' : Bytes) → Memᴰ (add_key d k) rs → Memᴰ (add_key d k') rs → k ≡ k'

-- ---- what may differ: here, and nowhere else, it is replaced by as many zeros

-- the first n bytes
abbrev pub blank_start : ℕ → Bytes → Bytes
blank_start n b = zeros n ++ drop n b

-- "the key bytes on the ring"
abbrev pub blank_key : Key → Key
blank_key k = record { len = k.len; descriptor = k.descriptor; bytes = blank_start k.len k.bytes }

-- "the bytes of stored names in encrypted folders; the lengths of those names agree"
abbrev pub blank_entry : Volume → Entry → Entry
blank_entry v e =
    record {
      len = e.len;
      parent = e.parent;
      inode = e.inode;
      name = cond (inode_at v e.parent).encrypted (blank_start e.len e.name) e.name;
    }

-- "Shelves: they agree in everything but .."
unfoldable pub blank_volume : Volume → Volume
blank_volume v = record { keys = map blank_key v.keys; inodes = v.inodes; entries = map (blank_entry v) v.entries }

-- "of a name shown without the key the letters may differ, but not its length, its `_` or its two digits": up to 214 letters, or 214 between `_` and the digits
unfoldable pub blank_letters : ℕ → Bytes → Bytes
blank_letters n b = cond (leb n 214) (blank_start n b) (take 1 b ++ blank_start 214 (drop 1 b))

unfoldable pub blank_shown : Form → ℕ → Bytes → Bytes
blank_shown Plain n b = b
blank_shown Decrypted n b = b
blank_shown Encoded n b = blank_letters n b

unfoldable pub blank_name : Option ShownEntry → Bytes → Bytes
blank_name (some s) b = blank_shown s.form s.len b
blank_name none b = b

-- a block that was refused stays
unfoldable pub blank_block : Option ℕ → Bytes → Bytes
blank_block (some refusal) b = b
blank_block none b = zeros (length b)

-- "Buffers: all bytes agree but those letters, the block of a seal or open that was done, and the key bytes lent to an add key."
unfoldable pub blank_buffer : Lent → Answer → Bytes → Bytes
blank_buffer no_buffer a b = b
blank_buffer (key_buffer k) a b = zeros (length b)
blank_buffer (name_buffer n) a b = blank_name (shown_in a) b
blank_buffer (block_buffer x) a b = blank_block (refusal_in a) b

-- "Answers: both runs give the same refusal number, or both succeed with the same answer": an answer stays whole, for show's name is in the lent buffer
unfoldable pub blank : Moment → Outcome
blank m = outcome m.answer (blank_buffer (lends m.request) m.answer m.buffer) (blank_volume m.volume)

-- ---- given names

-- "Whenever show answers with the form plain or read with the key, the name is the given one. In these runs show never says EUCLEAN."
pub record NamesAsGiven (ms : List Moment) : Type 0 where
  pub clean : (past next : List Moment) (m : Moment) → ms ≡ past ++ (m ∷ next) → (e : EntryNumber) (b : Bytes) → m.request ≡ show e b → m.answer ≢ refused (number EUCLEAN)
  pub named : (past next : List Moment) (m : Moment) → ms ≡ past ++ (m ∷ next) → (e : EntryNumber) (b : Bytes) → m.request ≡ show e b
      → (s : ShownEntry) → m.answer ≡ shown s → s.form ≢ Encoded → given past e.0 ≡ some (take s.len m.buffer)

-- ---- the claim

-- "after every request in them": the outcomes of two whole lists, one for each request, are equal, once what may differ is blanked; the requests are compared by
-- SameButKeys
pub record Agree (ms₁ ms₂ : List Moment) : Type 0 where
  pub same : map blank ms₁ ≡ map blank ms₂
  pub names₁ : NamesAsGiven ms₁
  pub names₂ : NamesAsGiven ms₂

-- "For every two such lists"
abbrev pub TwoRuns : Cipher → Type 0
TwoRuns C = (rs₁ rs₂ : List Request) → AllTyped rs₁ → AllTyped rs₂ → SameButKeys rs₁ rs₂ → OneKeyEach rs₁ → OneKeyEach rs₂ → Agree (run C rs₁) (run C rs₂)
