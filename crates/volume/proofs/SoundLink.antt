-- Link keeps the invariant: a free slot is taken, so what was held and rooted is so still, and the inode is no directory.
-- Assumes nothing.
use Prim.Native.Nat.{ℕ}
use mathlib.Core.Path.{◌≡◌, refl, sym, ◌∙◌, ap}
use mathlib.Core.Logic.{inl}
use mathlib.Core.Bool.{true}
use lib.ListN.{set}
use Rattle.lists.specs.Bytes.{Bytes}
use Rattle.lists.proofs.Tables.{first_at_passes}
use Rattle.fscrypt.specs.Cipher.{Cipher, Lawful}
use Rattle.volume.specs.Volume.{no_entry, entry_slot}
use Rattle.volume.specs.Request.{link}
use Rattle.volume.specs.Lookup.{inode_at, is_vacant, free_entry, node_at, slot_at}
use Rattle.volume.specs.DirectoryNames.{stored}
use Rattle.volume.specs.Checks.{link_check}
use Rattle.volume.specs.Step.{effect}
use Rattle.ids.specs.declared.InodeNumber.{InodeNumber}
use Rattle.volume.specs.declared.Inode.{Inode}
use Rattle.volume.specs.declared.Volume.{Volume}
use Rattle.volume.proofs.SoundCore.{store_core}
use Rattle.volume.proofs.SoundClimb.{up_again}
use Rattle.volume.proofs.SoundInvariant.{Inv, free_same, still_held, name_ok, slot_ok}
use Rattle.volume.proofs.Passed.{link_passed}
use Rattle.errno.specs.Refusals.{fine}

-- the slot that a new entry takes is free
pub vacant : (v : Volume) → is_vacant (slot_at v (free_entry v)) ≡ true
unfolding free_entry
vacant v = first_at_passes is_vacant v.entries no_entry refl

module _ (C : Cipher) (law : Lawful C) (v : Volume) (ok : Inv v) where
  pub link_keeps : (i p : InodeNumber) (n : Bytes) → link_check C v i p n ≡ fine → Inv (effect C v (link i p n)).volume
  unfolding effect
  link_keeps i p n h =
      let c = link_passed C v i p n h in
      let e = free_entry v in
      let s = stored C v (inode_at v p) n in
      let es' = set v.entries e (entry_slot p i s) in
      let same_at = free_same v.entries e (entry_slot p i s) (vacant v) in
      record {
        core = store_core v ok.core e p i s
            (slot_ok v.inodes p i s c.directory c.inode
            (λ z. c.not_directory (ap (λ (m : ℕ). (node_at v m).kind) z ∙ ap (λ (m : Inode). m.kind) ok.core.nodes_ok.root_is))
            c.policy (name_ok C law v (inode_at v p) n c.name))
            c.free_name
            (λ j ne r. c.not_directory (ap (λ (m : ℕ). (node_at v m).kind) (sym r.2) ∙ r.3));
        held = λ j jz k. let r = ok.held j jz k in still_held v.entries es' j r (same_at r.0 r.1);
        tree = λ j k. let r = ok.tree j k in up_again v.entries es' (λ m u. inl (same_at m u)) r.0 j r.1;
      }
