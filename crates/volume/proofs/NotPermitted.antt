-- EPERM exactly when: the tables of link and set policy come to it at one line each, and no other table does. Assumes nothing.
use mathlib.Core.Path.{◌≡◌, refl}
use mathlib.Core.Logic.{◌↔◌}
use mathlib.Core.Bool.{true, false}
use lib.Dec.{eqb}
use borrow.Author.Tests.{eq-eqb}
use Rattle.lists.specs.Bytes.{Bytes}
use Rattle.lists.proofs.Tests.{eqb-true}
use Rattle.errno.specs.declared.Errno.TheVariants.{EPERM}
use Rattle.policy.specs.Policies.{policy_check}
use Rattle.fscrypt.specs.Cipher.{Cipher}
use Rattle.fscrypt.specs.Names.{name_check}
use Rattle.volume.specs.Request.{Request, set_policy, link, rename, exchange}
use Rattle.volume.specs.Lookup.{inode_at, is_free, is_directory}
use Rattle.volume.specs.Checks.{directory_check, set_policy_check, link_check}
use Rattle.volume.specs.Step.{check}
use Rattle.volume.specs.NotPermitted.{NotPermitted, LinksDirectory, SetsOnRoot, LinksOrSets, links, sets, PermissionClause}
use Rattle.ids.specs.declared.InodeNumber.{InodeNumber}
use Rattle.volume.specs.declared.Volume.{Volume}
use Rattle.volume.proofs.Refusing.{refused_by, past, past_line, at_last_line, at_else, tables, Gives, neither, set_policy_gives, link_gives, rename_gives, exchange_gives, gives}
use Rattle.errno.specs.Refusals.{fine, refuse}

module _ (C : Cipher) (v : Volume) where
  by_link : (i p : InodeNumber) (n : Bytes) → NotPermitted C v (link i p n) ↔ LinksDirectory v i p n
  unfolding check link_check
  by_link i p n = (
    λ h. let (name, (inode, (parent, directory))) = table.0 (answer.0 h) in record { name = name; inode = inode; parent = parent; directory = eqb-true directory },
    λ r. answer.1 (table.1 (r.name, (r.inode, (r.parent, eq-eqb _ _ r.directory)))),
  )
    where
      answer : NotPermitted C v (link i p n) ↔ (link_check C v i p n ≡ refuse EPERM)
      answer = refused_by C v (link i p n) EPERM

      Table : Type 0
      Table = (name_check n ≡ fine) × ((is_free (inode_at v i) ≡ false) × ((directory_check v p ≡ fine) × (is_directory (inode_at v i) ≡ true)))

      table : (link_check C v i p n ≡ refuse EPERM) ↔ Table
      table = past (search tables) (past_line _ refl (past (search tables) (at_last_line (search tables depth 25))))

  by_set_policy : (i : InodeNumber) (p x : Bytes) → NotPermitted C v (set_policy i p x) ↔ SetsOnRoot v i p
  unfolding check set_policy_check
  by_set_policy i p x = (
    λ h. let (inode, (bytes, (first, root))) = table.0 (answer.0 h) in record { inode = inode; bytes = bytes; first = first; root = eqb-true root },
    λ r. answer.1 (table.1 (r.inode, (r.bytes, (r.first, eq-eqb _ _ r.root)))),
  )
    where
      answer : NotPermitted C v (set_policy i p x) ↔ (set_policy_check v i p x ≡ refuse EPERM)
      answer = refused_by C v (set_policy i p x) EPERM

      Table : Type 0
      Table = (is_free (inode_at v i) ≡ false) × ((policy_check p ≡ fine) × (((inode_at v i).encrypted ≡ false) × (eqb i.0 0 ≡ true)))

      table : (set_policy_check v i p x ≡ refuse EPERM) ↔ Table
      table = past_line _ refl (past (search tables) (at_else _ (search tables) (at_last_line (search tables depth 25))))

  by_no_other : {r : Request} → Gives C v r → NotPermitted C v r → LinksOrSets r
  by_no_other (neither r f g) h = absurd (g.no ((refused_by C v r EPERM).0 h))
  by_no_other (set_policy_gives i p x f) h = sets i p x
  by_no_other (link_gives i p n) h = links i p n
  by_no_other (rename_gives e p n f) h = absurd (f.no ((refused_by C v (rename e p n) EPERM).0 h))
  by_no_other (exchange_gives a b f) h = absurd (f.no ((refused_by C v (exchange a b) EPERM).0 h))

pub permission_clause : (C : Cipher) → PermissionClause C
permission_clause C = record {
  by_link = λ v. by_link C v;
  by_set_policy = λ v. by_set_policy C v;
  by_no_other = λ v r. by_no_other C v (gives C v r);
}
