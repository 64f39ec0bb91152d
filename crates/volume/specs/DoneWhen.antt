-- Exactly when each request is done, in plain predicates, and what it then answers. Whatever else arrives is refused: with which number is said by
-- the tables of checks, in document 01's order. A request that is refused too often, or too seldom, breaks this.
-- Sentences in quotation marks are document 01's, in its words. Assumes nothing.
use Rattle.std.specs.Prelude.{ℕ, ◌≤◌, ◌<◌, ◌≡◌, ◌≢◌, ◌⊎◌, ◌↔◌, true, false, length}
use Rattle.lists.specs.Bytes.{Bytes}
use Rattle.policy.specs.Policies.{policy_bytes}
use Rattle.policy.specs.Meanings.{ValidPolicy, PolicyIn}
use Rattle.policy.specs.declared.Policy.{Policy}
use Rattle.fscrypt.specs.Cipher.{Cipher}
use Rattle.fscrypt.specs.Meanings.{PlainName, Multiple, ReadAs}
use Rattle.volume.specs.Volume.{key_slots, inode_slots, entry_slots, name_of}
use Rattle.volume.specs.Request.{Request, add_key, remove_key, set_policy, get_policy, create, link, rename, exchange, remove, find, show, seal, unseal, ShownEntry, Answer, refused, done, created, at, policy_is, shown}
use Rattle.volume.specs.Lookup.{inode_at, entry_at, dir_of, node_of}
use Rattle.volume.specs.DirectoryNames.{name_key, stored, form_in}
use Rattle.volume.specs.Step.{step}
use Rattle.volume.specs.Sound.{MayHold, Sound, KeyLength, EntryIn, Below}
use Rattle.volume.specs.Meanings.{Least, KeySlotFree, KeyHeld, KeyPresent, LacksKey, InodeFree, NonceBorne, EntryFree, EntryNamed, NameTaken}
use Rattle.ids.specs.declared.InodeNumber.{InodeNumber}
use Rattle.ids.specs.declared.EntryNumber.{EntryNumber}
use Rattle.volume.specs.declared.Volume.{Volume}

-- ---- keys and policies

pub record AddKeyDone (v : Volume) (d key : Bytes) : Type 0 where
  pub size : KeyLength (length key)
  pub new : KeyHeld v d → ⊥
  pub room : (k : ℕ) × (k < key_slots) × KeySlotFree v k

-- a first policy
pub record FirstPolicyDone (v : Volume) (i : InodeNumber) (nonce : Bytes) : Type 0 where
  pub not_root : i.0 ≢ 0
  pub directory : (inode_at v i).kind ≡ 1
  pub empty : (e : ℕ) → EntryIn v i e → ⊥
  pub new_nonce : NonceBorne v nonce → ⊥

pub record SetPolicyDone (v : Volume) (i : InodeNumber) (bytes nonce : Bytes) : Type 0 where
  pub inode : (inode_at v i).kind ≢ 0
  pub policy : Policy
  pub read : PolicyIn bytes policy
  pub valid : ValidPolicy policy
  -- "if encrypted: equal is a success that changes nothing, else EEXIST"
  pub equal : (inode_at v i).encrypted ≡ true → (inode_at v i).context.policy ≡ policy
  pub first : (inode_at v i).encrypted ≡ false → FirstPolicyDone v i nonce

-- ---- names in a directory

-- a directory is not put under itself
abbrev pub NotUnder : Volume → InodeNumber → InodeNumber → Type 0
NotUnder v moved p = (inode_at v moved).kind ≡ 1 → (p ≡ moved) ⊎ Below v moved p → ⊥

module _ (C : Cipher) where
  -- a new name may stand in this directory: it is a plain name, the parent is a directory whose key is there if it is encrypted, and the name is not taken
  pub record NameFits (v : Volume) (p : InodeNumber) (n : Bytes) : Type 0 where
    pub plain : PlainName n
    pub directory : (inode_at v p).kind ≡ 1
    pub key : LacksKey v (inode_at v p) → ⊥
    pub new : NameTaken v p (stored C v (inode_at v p) n) → ⊥

  pub record CreateDone (v : Volume) (p : InodeNumber) (kind : ℕ) (n nonce : Bytes) : Type 0 where
    pub name : NameFits v p n
    pub known_kind : (1 ≤ kind) × (kind ≤ 4)
    -- "nonce needed, and borne by a thing now there"
    pub new_nonce : (inode_at v p).encrypted ≡ true → kind ≤ 3 → NonceBorne v nonce → ⊥
    pub inode_room : (i : ℕ) × (i < inode_slots) × InodeFree v i
    pub entry_room : (e : ℕ) × (e < entry_slots) × EntryFree v e

  pub record LinkDone (v : Volume) (i p : InodeNumber) (n : Bytes) : Type 0 where
    pub name : NameFits v p n
    pub inode : (inode_at v i).kind ≢ 0
    pub no_directory : (inode_at v i).kind ≢ 1
    pub policy : MayHold (inode_at v p) (inode_at v i)
    pub room : (e : ℕ) × (e < entry_slots) × EntryFree v e

  pub record RenameDone (v : Volume) (e : EntryNumber) (p : InodeNumber) (n : Bytes) : Type 0 where
    pub name : NameFits v p n
    pub entry : (entry_at v e).len ≢ 0
    -- "Rename and exchange need the key of both parents, if encrypted."
    pub old_key : LacksKey v (dir_of v e.0) → ⊥
    pub policy : MayHold (inode_at v p) (node_of v e.0)
    pub not_under : NotUnder v (entry_at v e).inode p

  pub record FindDone (v : Volume) (p : InodeNumber) (n : Bytes) : Type 0 where
    pub plain : PlainName n
    pub directory : (inode_at v p).kind ≡ 1
    pub key : LacksKey v (inode_at v p) → ⊥
    pub there : NameTaken v p (stored C v (inode_at v p) n)

  pub record ShowDone (v : Volume) (e : EntryNumber) (buffer : Bytes) : Type 0 where
    pub room : 255 ≤ length buffer
    pub entry : (entry_at v e).len ≢ 0
    -- with the key the stored name decrypts to a plain name and its padding, to the multiple of the directory's flags
    pub readable : (dir_of v e.0).encrypted ≡ true → KeyPresent v (dir_of v e.0) → (q : ℕ) → Multiple (dir_of v e.0).context.policy.flags q
        → (n : Bytes) × ReadAs q (C.decrypt_name (name_key C v (dir_of v e.0)) (name_of (entry_at v e))) n

pub record ExchangeDone (v : Volume) (a b : EntryNumber) : Type 0 where
  pub one : (entry_at v a).len ≢ 0
  pub other : (entry_at v b).len ≢ 0
  pub one_key : LacksKey v (dir_of v a.0) → ⊥
  pub other_key : LacksKey v (dir_of v b.0) → ⊥
  pub one_policy : MayHold (dir_of v a.0) (node_of v b.0)
  pub other_policy : MayHold (dir_of v b.0) (node_of v a.0)
  -- "An exchange checks each folder it moves."
  pub one_not_under : NotUnder v (entry_at v a).inode (entry_at v b).parent
  pub other_not_under : NotUnder v (entry_at v b).inode (entry_at v a).parent

pub record RemoveDone (v : Volume) (e : EntryNumber) : Type 0 where
  pub entry : (entry_at v e).len ≢ 0
  pub empty : (c : ℕ) → EntryIn v (entry_at v e).inode c → ⊥

-- seal and open
pub record BlockDone (v : Volume) (i : InodeNumber) (block : Bytes) : Type 0 where
  pub size : length block ≡ 4096
  pub regular : (inode_at v i).kind ≡ 2
  pub encrypted : (inode_at v i).encrypted ≡ true
  pub key : KeyPresent v (inode_at v i)

-- ---- the answers: "Create answers the new thing and place, link the new place, find the place, get policy the 12 bytes; show answers parent, thing, kind, form,
-- length and name .. All others answer done"

abbrev pub Answers : Request → Answer → Type 0
Answers (add_key d k) a = a ≡ done
Answers (remove_key d) a = a ≡ done
Answers (set_policy i p x) a = a ≡ done
Answers (get_policy i) a = (b : Bytes) × (a ≡ policy_is b)
Answers (create p kind n x) a = (i : InodeNumber) × (e : EntryNumber) × (a ≡ created i e)
Answers (link i p n) a = (e : EntryNumber) × (a ≡ at e)
Answers (rename e p n) a = a ≡ done
Answers (exchange a b) o = o ≡ done
Answers (remove e) a = a ≡ done
Answers (find p n) a = (e : EntryNumber) × (a ≡ at e)
Answers (show e b) a = (s : ShownEntry) × (a ≡ shown s)
Answers (seal i n b) a = a ≡ done
Answers (unseal i n b) a = a ≡ done

-- ---- the statement

module _ (C : Cipher) where
  abbrev pub Occasion : Volume → Request → Type 0
  Occasion v (add_key d k) = AddKeyDone v d k
  Occasion v (remove_key d) = KeyHeld v d
  Occasion v (set_policy i p x) = SetPolicyDone v i p x
  Occasion v (get_policy i) = (inode_at v i).encrypted ≡ true
  Occasion v (create p kind n x) = CreateDone C v p kind n x
  Occasion v (link i p n) = LinkDone C v i p n
  Occasion v (rename e p n) = RenameDone C v e p n
  Occasion v (exchange a b) = ExchangeDone v a b
  Occasion v (remove e) = RemoveDone v e
  Occasion v (find p n) = FindDone C v p n
  Occasion v (show e b) = ShowDone C v e b
  Occasion v (seal i n b) = BlockDone v i b
  Occasion v (unseal i n b) = BlockDone v i b

  -- the request is not refused
  abbrev pub Done : Volume → Request → Type 0
  Done v r = (n : ℕ) → (step C v r).answer ≢ refused n

  pub record DoneWhen : Type 0 where
    pub exactly : (v : Volume) → Sound v → (r : Request) → Done v r ↔ Occasion v r
    -- each request that is not refused gives an answer of its own form, so that what is said of its answer speaks of all that were done
    pub answers : (v : Volume) (r : Request) → Done v r → Answers r (step C v r).answer
    -- get policy answers what set policy was given, and of a child of an encrypted directory what it answers of the directory
    pub policy_set : (v : Volume) (i : InodeNumber) (p x : Bytes) → (step C v (set_policy i p x)).answer ≡ done
        → (step C (step C v (set_policy i p x)).volume (get_policy i)).answer ≡ policy_is p
    pub policy_inherited : (v : Volume) → Sound v → (p : InodeNumber) (kind : ℕ) (n x : Bytes) (i : InodeNumber) (e : EntryNumber)
        → (step C v (create p kind n x)).answer ≡ created i e → (inode_at v p).encrypted ≡ true → kind ≤ 3
        → (step C (step C v (create p kind n x)).volume (get_policy i)).answer ≡ (step C v (get_policy p)).answer
    pub policy_told : (v : Volume) (i : InodeNumber) (b : Bytes) → (step C v (get_policy i)).answer ≡ policy_is b → b ≡ policy_bytes (inode_at v i).context.policy
    -- "Create answers the new thing and place, link the new place, find the place"; "A new key, thing or place takes the lowest free slot or number"
    pub created_as : (v : Volume) → Sound v → (p : InodeNumber) (kind : ℕ) (n x : Bytes) (i : InodeNumber) (e : EntryNumber)
        → (step C v (create p kind n x)).answer ≡ created i e → Least (InodeFree v) i.0 × Least (EntryFree v) e.0
    pub linked_as : (v : Volume) → Sound v → (i p : InodeNumber) (n : Bytes) (e : EntryNumber) → (step C v (link i p n)).answer ≡ at e → Least (EntryFree v) e.0
    pub found_as : (v : Volume) → Sound v → (p : InodeNumber) (n : Bytes) (e : EntryNumber) → (step C v (find p n)).answer ≡ at e
        → EntryNamed v p (stored C v (inode_at v p) n) e.0
    -- "show answers parent, thing, kind, form"
    pub shown_as : (v : Volume) (e : EntryNumber) (b : Bytes) (s : ShownEntry) → (step C v (show e b)).answer ≡ shown s
        → (s.parent ≡ (entry_at v e).parent) × (s.inode ≡ (entry_at v e).inode) × (s.kind ≡ (node_of v e.0).kind) × (s.form ≡ form_in v (dir_of v e.0))
