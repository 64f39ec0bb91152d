-- Rename keeps the invariant: the climb from the new parent goes by no entry of the moved inode, so it stands as it was, and the moved inode is rooted by it.
-- Assumes nothing.
use Prim.Native.Nat.{ℕ, suc}
use mathlib.Core.Path.{◌≡◌, sym, ◌∙◌, ap, subst}
use mathlib.Core.Logic.{◌≢◌, inl, inr}
use mathlib.Core.List.{List}
use lib.ListN.{get_or, set}
use lib.Seq.{get_or-set_same, get_or-set_other}
use Rattle.lists.specs.Bytes.{Bytes}
use Rattle.lists.proofs.Slots.{by_eq}
use Rattle.fscrypt.specs.Cipher.{Cipher, Lawful}
use Rattle.volume.specs.Volume.{no_entry, entry_slot}
use Rattle.volume.specs.Request.{rename}
use Rattle.volume.specs.Lookup.{inode_at, is_vacant, slot_at}
use Rattle.volume.specs.DirectoryNames.{stored}
use Rattle.volume.specs.Checks.{rename_check}
use Rattle.volume.specs.Step.{with_entries, effect}
use Rattle.ids.specs.declared.InodeNumber.{InodeNumber}
use Rattle.ids.specs.declared.EntryNumber.{EntryNumber}
use Rattle.volume.specs.declared.Entry.{Entry}
use Rattle.volume.specs.declared.Volume.{Volume}
use Rattle.volume.proofs.SoundCore.{EntryOk, InUse, slot_used, store_core}
use Rattle.volume.proofs.SoundClimb.{Any, Up, Rooted, up_moves, up_again}
use Rattle.volume.proofs.SoundInvariant.{Inv, still_held, used_range, name_ok, slot_ok, NotOf, clear_of}
use Rattle.volume.proofs.Passed.{RenamePassed, rename_passed}
use Rattle.errno.specs.Refusals.{fine}

module _ (C : Cipher) (law : Lawful C) (v : Volume) (ok : Inv v) where
  module _ (e : ℕ) (p : InodeNumber) (n : Bytes) (c : RenamePassed C v (record { 0 = e }) p n) where
    abbrev i : InodeNumber
    i = (slot_at v e).inode

    abbrev s : Bytes
    s = stored C v (inode_at v p) n

    abbrev es' : List Entry
    es' = set v.entries e (entry_slot p i s)

    moves : Inv (with_entries v es')
    moves = record {
      core = store_core v ok.core e p i s new_ok c.free_name (λ j ne r. ne (ok.core.joined.nodes j e (r.0, c.entry, r.2, r.3)));
      held = λ j jz k.
          let r = ok.held j jz k in
          by_eq r.0 e
          (λ q. (e, there_used, ap (λ (x : Entry). x.inode.0) there ∙ ap (λ (m : ℕ). (slot_at v m).inode.0) (sym q) ∙ r.2))
          (λ ne. still_held v.entries es' j r (other r.0 ne));
      tree = λ j k.
          let r = ok.tree j k in
          up_again v.entries es'
          (λ m um. by_eq m e (λ q. inr (subst (λ (a : ℕ). Rooted es' (slot_at v a).inode.0) (sym q) rooted)) (λ ne. inl (other m ne))) r.0 j r.1;
    }
      where
        new_ok : EntryOk v.inodes (entry_slot p i s)
        new_ok =
            let w = ok.core.joined.entries_ok e c.entry in
            slot_ok v.inodes p i s c.directory w.holds w.not_root c.policy (name_ok C law v (inode_at v p) n c.name)

        there : get_or es' e no_entry ≡ entry_slot p i s
        there = get_or-set_same v.entries e (entry_slot p i s) no_entry (used_range v.entries e c.entry)

        there_used : InUse (get_or es' e no_entry)
        there_used = ap is_vacant there ∙ slot_used v.inodes (entry_slot p i s) new_ok

        other : (m : ℕ) → m ≢ e → get_or es' m no_entry ≡ slot_at v m
        other m ne = get_or-set_other v.entries e m (entry_slot p i s) no_entry ne

        rooted : Rooted es' i.0
        rooted =
            let clear = clear_of v ok i p c.directory c.clear in
            let above : Up es' Any clear.0 p.0 =
            up_moves v.entries es' (NotOf v ok i.0) (λ m ne. other m (λ q. ne (ap (λ (k : ℕ). (slot_at v k).inode.0) q))) clear.0 p.0 clear.1 in (
              suc clear.0,
              record {
                entry = e;
                kept = tt;
                used = there_used;
                holds = ap (λ (x : Entry). x.inode.0) there;
                above = subst (Up es' Any clear.0) (ap (λ (x : Entry). x.parent.0) (sym there)) above;
              },
            )

  pub rename_keeps : (e : EntryNumber) (p : InodeNumber) (n : Bytes) → rename_check C v e p n ≡ fine → Inv (effect C v (rename e p n)).volume
  unfolding effect
  rename_keeps e p n h = moves e.0 p n (rename_passed C v e p n h)
