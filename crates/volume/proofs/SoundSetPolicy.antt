-- Set policy keeps the invariant: the inode is an empty directory other than the root, so no entry stands in it, and one that holds it stands in a plain
-- directory, for the inode had no context. Assumes nothing.
use Prim.Native.Nat.{ℕ}
use native.Mathlib.Omega.{arith}
use mathlib.Core.Path.{◌≡◌, refl, sym, ◌∙◌, ap, subst}
use mathlib.Core.Bool.{true, false, true≢false}
use mathlib.Core.List.{List}
use lib.ListN.{length, set}
use lib.Seq.{get_or-set_same, get_or-set_other}
use Rattle.lists.specs.Bytes.{Bytes}
use Rattle.lists.proofs.Slots.{by_eq, by_cond}
use Rattle.policy.specs.Policies.{read_policy, is_valid, policy_in}
use Rattle.policy.specs.declared.Policy.{Policy}
use Rattle.policy.proofs.Codec.{read_policy_checked, read_policy_fine, read_policy_length}
use Rattle.fscrypt.specs.Cipher.{Cipher}
use Rattle.volume.specs.Volume.{no_inode, encrypted_inode}
use Rattle.volume.specs.Request.{set_policy}
use Rattle.volume.specs.Lookup.{inode_at, node_at, slot_at}
use Rattle.volume.specs.Checks.{set_policy_check}
use Rattle.volume.specs.Step.{with_inodes, effect}
use Rattle.ids.specs.declared.InodeNumber.{InodeNumber}
use Rattle.volume.specs.declared.Inode.{Inode}
use Rattle.volume.specs.declared.Volume.{Volume}
use Rattle.volume.proofs.SoundCore.{InodeOk, EntryOk, InUse, node_in, none_in, put_core}
use Rattle.volume.proofs.SoundInvariant.{Inv, one≢zero, kind_range, entry_again, entry_same, in_plain, nonce_free}
use Rattle.volume.proofs.Passed.{FirstPolicyPassed, set_policy_passed}
use Rattle.errno.specs.Refusals.{fine, check_of}

module _ (v : Volume) (ok : Inv v) (i : InodeNumber) (pol : Policy) (x : Bytes) (dl : length pol.descriptor ≡ 8) (xl : length x ≡ 16) where
  abbrev bearer : Inode
  bearer = encrypted_inode 1 pol x

  bears : is_valid pol ≡ true → (inode_at v i).encrypted ≡ false → FirstPolicyPassed v i x
      → Inv (with_inodes v (set v.inodes i.0 bearer))
  bears valid plain c = record {
    core = put_core v ok.core i.0 bearer c.not_root bearer_ok entries (λ e u. kind_back (slot_at v e).inode.0) (nonce_free v ok.core x c.nonce bearer refl);
    held = λ j jz k. ok.held j jz (λ z. k (kind_same j ∙ z));
    tree = λ j k. ok.tree j (kind_back j k);
  }
    where
      bearer_ok : InodeOk bearer
      bearer_ok = record {
        kinds = omega arith;
        context = λ u. record { kind = omega arith; valid = valid };
        descriptor = dl;
        nonce = xl;
        free = λ z. absurd (omega arith);
        bare = λ u. absurd (true≢false u);
      }

      is' : List Inode
      is' = set v.inodes i.0 bearer

      there : node_in is' i.0 ≡ bearer
      there = get_or-set_same v.inodes i.0 bearer no_inode (kind_range v.inodes i.0 (one≢zero c.directory))

      kind_same : (j : ℕ) → (node_in is' j).kind ≡ (node_at v j).kind
      kind_same j =
          by_eq j i.0
          (λ q. subst (λ (n : ℕ). (node_in is' n).kind ≡ (node_at v n).kind) (sym q) (ap (λ (n : Inode). n.kind) there ∙ sym c.directory))
          (λ ne. ap (λ (n : Inode). n.kind) (get_or-set_other v.inodes i.0 j bearer no_inode ne))

      kind_back : (j : ℕ) → (node_in is' j).kind ≡ 1 → (node_at v j).kind ≡ 1
      kind_back j k = sym (kind_same j) ∙ k

      entries : (e : ℕ) → InUse (slot_at v e) → EntryOk is' (slot_at v e)
      entries e u =
          let w = ok.core.joined.entries_ok e u in
          let n = slot_at v e in
          let dir = get_or-set_other v.inodes i.0 n.parent.0 bearer no_inode (none_in v ok.core.joined.entry_slots_lem i c.empty e u) in
          by_eq n.inode.0 i.0
          (λ q.
          let p = in_plain (inode_at v n.parent) (inode_at v n.inode) w.policy (ap (λ (m : ℕ). (node_at v m).encrypted) q ∙ plain)
          (omega (arith, ap (λ (m : ℕ). (node_at v m).kind) q ∙ c.directory)) in
          entry_again v.inodes is' n w dir (λ z. w.holds (sym (kind_same n.inode.0) ∙ z)) (λ enc k. absurd (true≢false (sym enc ∙ p))))
          (λ ne. entry_same v.inodes is' n w dir (get_or-set_other v.inodes i.0 n.inode.0 bearer no_inode ne))

module _ (C : Cipher) (v : Volume) (ok : Inv v) where
  pub set_policy_keeps : (i : InodeNumber) (p x : Bytes) → length x ≡ 16 → set_policy_check v i p x ≡ fine → Inv (effect C v (set_policy i p x)).volume
  unfolding effect
  set_policy_keeps i p x xl h =
      let c = set_policy_passed v i p x h in
      let fine : check_of (read_policy p) ≡ fine = read_policy_checked p ∙ c.policy in
      by_cond Inv (inode_at v i).encrypted _ _ (λ e. ok)
      (λ e. bears v ok i (policy_in (read_policy p)) x (read_policy_length p fine) xl (read_policy_fine p fine) e (c.first e))
