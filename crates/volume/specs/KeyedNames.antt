-- Names and keys in every run, with keys added, removed and replaced at will. Document 01 of EUCLEAN: "This can come only of a wrong key." Demand 2: "With the same
-- key, what was encrypted decrypts to what it was." The key in question is the one under which the entry's present name was stored. Assumes nothing.
use Rattle.std.specs.Prelude.{ℕ, ◌≤◌, ◌≡◌, ◌≢◌, true, List, [], ◌∷◌, ◌++◌, length, take}
use Rattle.std.proofs.Math.Option.{Option, some, none}
use Rattle.lists.specs.Bytes.{Bytes}
use Rattle.errno.specs.Refusals.{number}
use Rattle.errno.specs.declared.Errno.TheVariants.{EUCLEAN}
use Rattle.fscrypt.specs.Cipher.{Cipher}
use Rattle.volume.specs.Request.{Request, show, refused, shown, AllTyped, ShownEntry, Encoded}
use Rattle.volume.specs.Lookup.{master_key, descriptor_of, key_present, Used, dir_of}
use Rattle.volume.specs.Run.{Moment, run}
use Rattle.volume.specs.GivenNames.{Names, named_by, given}
use Rattle.ids.specs.declared.EntryNumber.{EntryNumber}
use Rattle.volume.specs.declared.Volume.{Volume}

-- for each entry a master key
abbrev pub Keys : Type 0
Keys = ℕ → Bytes

-- the master key now on the keyring for the directory that an entry stands in
abbrev pub key_for : Volume → Keys
key_for v e = master_key v (descriptor_of (dir_of v e))

-- where an entry was named, the key is the present one
abbrev pub renewed : Option Bytes → Bytes → Bytes → Bytes
renewed (some n) present earlier = present
renewed none present earlier = earlier

-- the keys of the names after one more request
abbrev pub keys_after : Keys → Moment → Keys
keys_after k m e = renewed (named_by m.request m.answer e) (key_for m.volume e) (k e)

unfoldable pub keys_from : Keys → List Moment → Keys
keys_from k [] = k
keys_from k (m ∷ ms) = keys_from (keys_after k m) ms

-- the master key that the directory had when the requests so far, oldest first, gave the entry its present name
abbrev pub named_under : List Moment → Keys
named_under past = keys_from (λ e. []) past

-- the entry's directory, if it is encrypted, has this master key
abbrev pub HasKey : Volume → ℕ → Bytes → Type 0
HasKey v e key = (dir_of v e).encrypted ≡ true → key_for v e ≡ key

-- the entry's directory is encrypted and its key is present, and it is not this one
pub record WrongKey (v : Volume) (e : ℕ) (key : Bytes) : Type 0 where
  pub in_encrypted : (dir_of v e).encrypted ≡ true
  pub present : key_present v (dir_of v e) ≡ true
  pub another : key_for v e ≢ key

-- what a show answers, where the entries were given these names under these keys: EUCLEAN comes only of a wrong key; with the key that it was named under, an entry
-- in use is shown plain or decrypted, if the buffer has room, and by the name that it was given
pub record ShownByKey (g : Names) (k : Keys) (m : Moment) : Type 0 where
  pub unclean : (e : EntryNumber) (b : Bytes) → m.request ≡ show e b → m.answer ≡ refused (number EUCLEAN) → WrongKey m.volume e.0 (k e.0)
  pub answered : (e : EntryNumber) (b : Bytes) → m.request ≡ show e b → HasKey m.volume e.0 (k e.0)
      → Used m.volume e.0 → 255 ≤ length b → (s : ShownEntry) × (m.answer ≡ shown s) × (s.form ≢ Encoded)
  pub named : (e : EntryNumber) (b : Bytes) → m.request ≡ show e b → HasKey m.volume e.0 (k e.0)
      → (s : ShownEntry) → m.answer ≡ shown s → g e.0 ≡ some (take s.len m.buffer)

-- at every moment, by the requests before it
abbrev pub KeyedNames : List Moment → Type 0
KeyedNames ms = (past next : List Moment) (m : Moment) → ms ≡ past ++ (m ∷ next) → ShownByKey (given past) (named_under past) m

-- every list of requests, whatever keys it adds and removes
abbrev pub EveryRunKeyed : Cipher → Type 0
EveryRunKeyed C = (rs : List Request) → AllTyped rs → KeyedNames (run C rs)
