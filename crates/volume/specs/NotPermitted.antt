-- When EPERM is given: "EPERM stays for linking a folder and for the root." (document 02, Item 2); document 01 has these as "linking a folder; first policy on the root".
-- Assumes nothing.
use Rattle.std.specs.Prelude.{◌≡◌, ◌↔◌, false}
use Rattle.lists.specs.Bytes.{Bytes}
use Rattle.policy.specs.Policies.{policy_check}
use Rattle.fscrypt.specs.Cipher.{Cipher}
use Rattle.fscrypt.specs.Names.{name_check}
use Rattle.volume.specs.Request.{Request, set_policy, link, refused}
use Rattle.volume.specs.Lookup.{inode_at, is_free}
use Rattle.volume.specs.Checks.{directory_check}
use Rattle.volume.specs.Step.{step}
use Rattle.ids.specs.declared.InodeNumber.{InodeNumber}
use Rattle.volume.specs.declared.Volume.{Volume}
use Rattle.errno.specs.Refusals.{fine}

-- the request is refused with EPERM
abbrev pub NotPermitted : Cipher → Volume → Request → Type 0
NotPermitted C v r = (step C v r).answer ≡ refused 1

-- the earlier checks have passed, and what is to be linked is a directory
pub record LinksDirectory (v : Volume) (i p : InodeNumber) (n : Bytes) : Type 0 where
  pub name : name_check n ≡ fine
  pub inode : is_free (inode_at v i) ≡ false
  pub parent : directory_check v p ≡ fine
  pub directory : (inode_at v i).kind ≡ 1

-- the earlier checks have passed, and what has no policy yet is the root
pub record SetsOnRoot (v : Volume) (i : InodeNumber) (policy : Bytes) : Type 0 where
  pub inode : is_free (inode_at v i) ≡ false
  pub bytes : policy_check policy ≡ fine
  pub first : (inode_at v i).encrypted ≡ false
  pub root : i.0 ≡ 0

-- the two requests that may be refused so
pub data LinksOrSets : Request → Type 0 where
  links : (i p : InodeNumber) (n : Bytes) → LinksOrSets (link i p n)
  sets : (i : InodeNumber) (policy nonce : Bytes) → LinksOrSets (set_policy i policy nonce)

pub record PermissionClause (C : Cipher) : Type 0 where
  pub by_link : (v : Volume) (i p : InodeNumber) (n : Bytes) → NotPermitted C v (link i p n) ↔ LinksDirectory v i p n
  pub by_set_policy : (v : Volume) (i : InodeNumber) (policy nonce : Bytes) → NotPermitted C v (set_policy i policy nonce) ↔ SetsOnRoot v i policy
  pub by_no_other : (v : Volume) (r : Request) → NotPermitted C v r → LinksOrSets r
