-- The policy clause, demand 2: "Once the earlier checks pass, link, rename and exchange give the policy refusal exactly when an encrypted folder would gain a
-- regular file, folder or symlink that lacks that folder's policy. So at no time does one stand there." The refusal has a number of its own, "EXDEV (18)" (document 02,
-- Item 2), so that an answer of 18 is evidence by itself: no other check and no other request gives it. Assumes nothing.
use Rattle.std.specs.Prelude.{ℕ, ◌≤◌, ◌<◌, ◌≡◌, ◌⊎◌, ◌↔◌, true, false}
use mathlib.Core.List.{List, Memᴰ}
use Rattle.lists.specs.Bytes.{Bytes}
use Rattle.fscrypt.specs.Cipher.{Cipher}
use Rattle.fscrypt.specs.Names.{name_check}
use Rattle.volume.specs.Request.{Request, rename, link, exchange, refused, AllTyped}
use Rattle.volume.specs.Lookup.{lacks_key, inode_at, is_free, is_directory, entry_at, is_vacant, Used, dir_of, node_of}
use Rattle.volume.specs.Checks.{directory_check}
use Rattle.volume.specs.Step.{step}
use Rattle.volume.specs.Run.{Moment, run}
use Rattle.volume.specs.Sound.{BearsPolicy, Sound}
use Rattle.ids.specs.declared.InodeNumber.{InodeNumber}
use Rattle.ids.specs.declared.EntryNumber.{EntryNumber}
use Rattle.volume.specs.declared.Inode.{Inode}
use Rattle.volume.specs.declared.Volume.{Volume}
use Rattle.errno.specs.Refusals.{fine}

-- an encrypted directory, and a regular file, directory or symlink that lacks its policy; kind 0 is a free record, which no entry of a sound volume holds
pub record WouldLack (dir node : Inode) : Type 0 where
  pub is_encrypted : dir.encrypted ≡ true
  pub not_special : node.kind ≤ 3
  pub lacks : BearsPolicy dir node → ⊥

-- ---- the earlier checks of each request, in their order

pub record LinkReady (v : Volume) (i p : InodeNumber) (n : Bytes) : Type 0 where
  pub name : name_check n ≡ fine
  pub inode : is_free (inode_at v i) ≡ false
  pub parent : directory_check v p ≡ fine
  pub not_directory : is_directory (inode_at v i) ≡ false
  pub key : lacks_key v (inode_at v p) ≡ false

pub record RenameReady (v : Volume) (e : EntryNumber) (p : InodeNumber) (n : Bytes) : Type 0 where
  pub name : name_check n ≡ fine
  pub entry : is_vacant (entry_at v e) ≡ false
  pub parent : directory_check v p ≡ fine
  pub old_key : lacks_key v (inode_at v (entry_at v e).parent) ≡ false
  pub key : lacks_key v (inode_at v p) ≡ false

pub record ExchangeReady (v : Volume) (a b : EntryNumber) : Type 0 where
  pub one : is_vacant (entry_at v a) ≡ false
  pub other : is_vacant (entry_at v b) ≡ false
  pub one_key : lacks_key v (inode_at v (entry_at v a).parent) ≡ false
  pub other_key : lacks_key v (inode_at v (entry_at v b).parent) ≡ false

-- the same of any request: those of link, rename and exchange
pub data Ready (v : Volume) : Request → Type 0 where
  for_link : {i p : InodeNumber} {n : Bytes} → LinkReady v i p n → Ready v (link i p n)
  for_rename : {e : EntryNumber} {p : InodeNumber} {n : Bytes} → RenameReady v e p n → Ready v (rename e p n)
  for_exchange : {a b : EntryNumber} → ExchangeReady v a b → Ready v (exchange a b)

-- ---- what a request would put where

-- by this request the directory `dir` would gain the inode `node`, whatever its later checks say (a directory under itself, the name taken, no room): link and rename put one
-- inode into one directory, exchange one into each of two
pub data WouldGain (v : Volume) : Request → Inode → Inode → Type 0 where
  linked : (i p : InodeNumber) (n : Bytes) → WouldGain v (link i p n) (inode_at v p) (inode_at v i)
  renamed : (e : EntryNumber) (p : InodeNumber) (n : Bytes) → WouldGain v (rename e p n) (inode_at v p) (node_of v e.0)
  exchanged_one : (a b : EntryNumber) → WouldGain v (exchange a b) (dir_of v a.0) (node_of v b.0)
  exchanged_other : (a b : EntryNumber) → WouldGain v (exchange a b) (dir_of v b.0) (node_of v a.0)

-- by this request an encrypted directory would gain a regular file, directory or symlink that lacks its policy
pub record WouldMisplace (v : Volume) (r : Request) : Type 0 where
  pub dir : Inode
  pub node : Inode
  pub gained : WouldGain v r dir node
  pub lacking : WouldLack dir node

-- ---- the clause

-- the request gives the policy refusal
abbrev pub GivesRefusal : Cipher → Volume → Request → Type 0
GivesRefusal C v r = (step C v r).answer ≡ refused 18

pub record PolicyClause (C : Cipher) : Type 0 where
  -- exactly when the earlier checks have passed and the directory would gain what lacks its policy, on any volume; the answer alone tells both
  pub by_link : (v : Volume) (i p : InodeNumber) (n : Bytes) → GivesRefusal C v (link i p n) ↔ (LinkReady v i p n × WouldLack (inode_at v p) (inode_at v i))
  pub by_rename : (v : Volume) (e : EntryNumber) (p : InodeNumber) (n : Bytes)
      → GivesRefusal C v (rename e p n) ↔ (RenameReady v e p n × WouldLack (inode_at v p) (node_of v e.0))
  -- each of the two directories would gain the other's inode
  pub by_exchange : (v : Volume) (a b : EntryNumber)
      → GivesRefusal C v (exchange a b) ↔ (ExchangeReady v a b × (WouldLack (dir_of v a.0) (node_of v b.0) ⊎ WouldLack (dir_of v b.0) (node_of v a.0)))
  -- the same of any request: no other gives it, so the number is evidence by itself
  pub by_number : (v : Volume) (r : Request) → GivesRefusal C v r ↔ (Ready v r × WouldMisplace v r)
  -- on a sound volume the directory is one, and the inode is there
  pub on_sound : (v : Volume) → Sound v → (r : Request) → GivesRefusal C v r → (w : WouldMisplace v r) × (w.dir.kind ≡ 1) × (0 < w.node.kind)
  -- so too after every request of every list; the volume that a refused request leaves is the one that it found (Leaves.antt)
  pub by_log : (rs : List Request) → AllTyped rs → (m : Moment) → Memᴰ m (run C rs) → m.answer ≡ refused 18
      → (w : WouldMisplace m.volume m.request) × (w.dir.kind ≡ 1) × (0 < w.node.kind)
  -- a move within a directory gains it nothing, and is not refused so
  pub rename_within : (v : Volume) → Sound v → (e : EntryNumber) (p : InodeNumber) (n : Bytes) → (entry_at v e).parent ≡ p → GivesRefusal C v (rename e p n) → ⊥
  pub exchange_within : (v : Volume) → Sound v → (a b : EntryNumber) → (entry_at v a).parent ≡ (entry_at v b).parent → GivesRefusal C v (exchange a b) → ⊥
  -- "at no time does one stand there": after every request of every list
  pub at_no_time : (rs : List Request) → AllTyped rs → (m : Moment) → Memᴰ m (run C rs) → (e : ℕ) → Used m.volume e
      → (dir_of m.volume e).encrypted ≡ true → (node_of m.volume e).kind ≤ 3 → BearsPolicy (dir_of m.volume e) (node_of m.volume e)
