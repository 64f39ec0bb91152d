-- The two runs, what is proved of each request: a run's volume is that of the same run under the identity cipher and zeroed keys (the identity run), once that
-- one's names are encrypted and its keys put back; and two tables of checks come to the same, line by line. Assumes nothing.
use Prim.Native.Nat.{ℕ}
use mathlib.Core.Path.{◌≡◌, refl}
use mathlib.Core.Bool.{Bool, true, false, cond, not, true≢false, false≢true}
use mathlib.Core.List.{List, ◌++◌, map}
use mathlib.Core.Option.{Option, some, none}
use lib.ListN.{length, get_or, take, drop}
use lib.Dec.{T, eqb}
use Rattle.lists.specs.Bytes.{Bytes, ByteList, laid_over}
use Rattle.errno.specs.Refusals.{Checked, fine, refuse, number, ◌⇒◌, ◌>>◌}
use Rattle.errno.specs.declared.Errno.{Errno}
use Rattle.errno.specs.declared.Errno.TheVariants.{EUCLEAN}
use Rattle.policy.specs.Policies.{name_key_size}
use Rattle.fscrypt.specs.Cipher.{Cipher, Lawful}
use Rattle.fscrypt.specs.Names.{name_check, padded}
use Rattle.volume.specs.Volume.{entry_slots, no_key, no_inode, name_of}
use Rattle.volume.specs.Request.{Request, add_key, show, Lent, no_buffer, key_buffer, name_buffer, block_buffer, lends, Form, Plain, Decrypted, Encoded, ShownEntry, Answer, refusal_in, shown_in, Outcome}
use Rattle.volume.specs.Lookup.{is_free_key, descriptor_of, is_vacant, slot_at, Used, dir_of}
use Rattle.volume.specs.Step.{check, effect}
use Rattle.volume.specs.GivenNames.{Names, after}
use Rattle.volume.specs.TwoRuns.{blank_buffer}
use Rattle.ids.specs.declared.EntryNumber.{EntryNumber}
use Rattle.volume.specs.declared.Key.{Key}
use Rattle.volume.specs.declared.Inode.{Inode}
use Rattle.volume.specs.declared.Entry.{Entry}
use Rattle.volume.specs.declared.Volume.{Volume}

abbrev pub identity : Cipher
identity = record { derive = λ k x. k; encrypt_name = λ k x. x; decrypt_name = λ k x. x; seal = λ m k n x. x; unseal = λ m k n x. x }

-- a cipher with its laws, and the key of each descriptor in a list of requests
pub record Setting : Type 0 where
  pub cipher : Cipher
  pub lawful : Lawful cipher
  pub key : Bytes → Bytes
  pub key_bytes_lem : (d : Bytes) → ByteList (key d)

-- ---- two tables of checks

-- the number is not EUCLEAN's
abbrev pub NotUnclean : ℕ → Type 0
NotUnclean n = T (not (eqb n (number EUCLEAN)))

-- a request that lends this refuses with this number: where it lends room for a name, as show does, the number is not EUCLEAN's
abbrev pub Clean : Lent → ℕ → Type 0
Clean no_buffer n = Unit {0}
Clean (key_buffer k) n = Unit {0}
Clean (name_buffer b) n = NotUnclean n
Clean (block_buffer b) n = Unit {0}

-- a number that is not EUCLEAN's is clean of every request
clean : (l : Lent) (n : ℕ) → NotUnclean n → Clean l n
clean no_buffer n t = tt
clean (key_buffer k) n t = tt
clean (name_buffer b) n t = t
clean (block_buffer b) n t = tt

-- both refuse with one number, which is clean, or both come to Fine and Q holds
pub data Alike (l : Lent) (Q : Type 0) : Checked → Checked → Type 0 where
  both_refuse : (e : Errno) → Clean l (number e) → Alike l Q (refuse e) (refuse e)
  both_fine : Q → Alike l Q fine fine

-- a line that is a test: the same test in both, and what follows is only asked once it has passed
pub test_with : {l : Lent} {Q : Type 0} (e : Errno) {c c' : Bool} {x y : Checked} → Clean l (number e) → c ≡ c' → (c' ≡ false → Alike l Q x y)
    → Alike l Q (◌>>◌ (c ⇒ e) x) (◌>>◌ (c' ⇒ e) y)
unfolding ◌>>◌ ◌⇒◌
test_with {l} {Q} e {c} {c'} {x} {y} t p f = go c c' p f
  where
    go : (c c' : Bool) → c ≡ c' → (c' ≡ false → Alike l Q x y) → Alike l Q (◌>>◌ (c ⇒ e) x) (◌>>◌ (c' ⇒ e) y)
    go true true p f = both_refuse e t
    go true false p f = absurd (true≢false p)
    go false true p f = absurd (false≢true p)
    go false false p f = f refl

-- the same with a refusal that any request may give
pub test : {l : Lent} {Q : Type 0} (e : Errno) {c c' : Bool} {x y : Checked} → NotUnclean (number e) → c ≡ c' → (c' ≡ false → Alike l Q x y)
    → Alike l Q (◌>>◌ (c ⇒ e) x) (◌>>◌ (c' ⇒ e) y)
test {l} e t p f = test_with e (clean l (number e) t) p f

-- a line that refuses in neither
pub never : {l : Lent} {Q : Type 0} (e : Errno) {c c' : Bool} {x y : Checked} → c ≡ false → c' ≡ false → Alike l Q x y
    → Alike l Q (◌>>◌ (c ⇒ e) x) (◌>>◌ (c' ⇒ e) y)
unfolding ◌>>◌ ◌⇒◌
never {l} {Q} e {c} {c'} {x} {y} p q f = rw (p, q) f

-- a line that is a table
pub part : {l : Lent} {P Q : Type 0} {a b x y : Checked} → Alike l P a b → (P → Alike l Q x y) → Alike l Q (◌>>◌ a x) (◌>>◌ b y)
unfolding ◌>>◌
part (both_refuse e t) f = both_refuse e t
part (both_fine p) f = f p

-- a table at the end
pub last : {l : Lent} {P Q : Type 0} {a b : Checked} → Alike l P a b → (P → Q) → Alike l Q a b
last (both_refuse e t) f = both_refuse e t
last (both_fine p) f = both_fine (f p)

-- ---- the volume that a run has where the identity run has v

-- the directory that an entry stands in
abbrev pub dir_in : List Inode → Entry → Inode
dir_in is e = get_or is e.parent.0 no_inode

module _ (S : Setting) where
  -- the names key of a directory
  unfoldable pub key_for : Inode → Bytes
  key_for dir = take (name_key_size dir.context.policy) (S.cipher.derive (S.key (descriptor_of dir)) dir.context.nonce)

  abbrev pub enc_name : Inode → Bytes → Bytes
  enc_name dir s = cond dir.encrypted (S.cipher.encrypt_name (key_for dir) s) s

  abbrev pub enc_key : Key → Key
  enc_key k = record { len = k.len; descriptor = k.descriptor; bytes = cond (is_free_key k) k.bytes (laid_over k.bytes (S.key k.descriptor)) }

  abbrev pub enc_entry : List Inode → Entry → Entry
  enc_entry is e =
      record {
        len = e.len;
        parent = e.parent;
        inode = e.inode;
        name = cond (is_vacant e) e.name (enc_name (dir_in is e) (name_of e) ++ drop e.len e.name);
      }

  abbrev pub enc : Volume → Volume
  enc v = record { keys = map enc_key v.keys; inodes = v.inodes; entries = map (enc_entry v.inodes) v.entries }

  -- ---- what holds of the volumes of the identity run

  -- a key slot has the length of the key in the list
  abbrev pub KeyOk : Key → Type 0
  KeyOk k = is_free_key k ≡ false → length (S.key k.descriptor) ≡ k.len

  abbrev pub InodeOk : Inode → Type 0
  InodeOk i = i.encrypted ≡ true → ByteList i.context.nonce

  -- a name that decrypts once it was encrypted
  pub record Storable (dir : Inode) (s : Bytes) : Type 0 where
    pub nonce : ByteList dir.context.nonce
    pub bytes : ByteList s

  -- an entry in the directory dir, whose given name is by g
  pub record EntryOk (g : Names) (dir : Inode) (at : ℕ) (e : Entry) : Type 0 where
    pub name : Bytes
    pub is_given : g at ≡ some name
    pub is_plain : name_check name ≡ fine
    pub in_directory : dir.kind ≡ 1
    pub is_sized : length (name_of e) ≡ e.len
    pub is_stored : name_of e ≡ cond dir.encrypted (padded dir.context.policy.flags name) name
    pub storable : dir.encrypted ≡ true → Storable dir (name_of e)

  pub record Inv (g : Names) (v : Volume) : Type 0 where
    pub keys_ok : (i : ℕ) → KeyOk (get_or v.keys i no_key)
    pub inodes_ok : (i : ℕ) → InodeOk (get_or v.inodes i no_inode)
    pub entries_ok : (i : ℕ) → Used v i → EntryOk g (dir_of v i) i (slot_at v i)
    pub sized : length v.entries ≡ entry_slots

  -- a request of a list whose keys are these
  abbrev pub Fits : Request → Type 0
  Fits r = (d k : Bytes) → add_key d k ≡ r → S.key d ≡ k

-- ---- what a show has to answer: not EUCLEAN, and the given name where it is plain or decrypted

abbrev pub ShownForm : Option Bytes → Form → ℕ → Bytes → Type 0
ShownForm o Plain n b = o ≡ some (take n b)
ShownForm o Decrypted n b = o ≡ some (take n b)
ShownForm o Encoded n b = Unit {0}

-- by the refusal in the answer and the entry that it shows
abbrev pub RightBy : Names → Request → Option ℕ → Option ShownEntry → Bytes → Type 0
RightBy g r (some n) s b = Clean (lends r) n
RightBy g r none (some s) b = (e : EntryNumber) (lent : Bytes) → r ≡ show e lent → ShownForm (g e.0) s.form s.len b
RightBy g r none none b = Unit {0}

abbrev pub ShownRight : Names → Request → Answer → Bytes → Type 0
ShownRight g r a b = RightBy g r (refusal_in a) (shown_in a) b

-- ---- two outcomes of a request, of which the second is the identity run's

pub record StepTwin (S : Setting) (r : Request) (g : Names) (o o' : Outcome) : Type 0 where
  pub answers : o.answer ≡ o'.answer
  pub buffers : blank_buffer (lends r) o.answer o.buffer ≡ blank_buffer (lends r) o'.answer o'.buffer
  pub volumes : o.volume ≡ enc S o'.volume
  pub inv : Inv S (after g r o'.answer) o'.volume
  pub right : ShownRight g r o.answer o.buffer

-- what is claimed of each request; r' is r with its key blanked
unfoldable pub Same : Setting → Names → Volume → Request → Request → Type 0
Same S g v r r' =
    Alike (lends r) (StepTwin S r g (effect S.cipher (enc S v) r) (effect identity v r')) (check S.cipher (enc S v) r) (check identity v r')
