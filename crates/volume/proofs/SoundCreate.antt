-- Create keeps the invariant: the inode is stored in a free slot, that no entry speaks of, and then the entry in a free one, so that all that was rooted is
-- so still and the new inode is rooted by its parent. Assumes nothing.
use Prim.Native.Nat.{ℕ, suc}
use native.Mathlib.Omega.{arith}
use mathlib.Core.Path.{◌≡◌, refl, sym, ◌∙◌, ap, subst, subst₂}
use mathlib.Core.Logic.{◌≢◌, inl}
use mathlib.Core.List.{List}
use lib.ListN.{length, get_or, set}
use lib.Seq.{get_or-set_same, get_or-set_other}
use Rattle.lists.specs.Bytes.{Bytes}
use Rattle.lists.proofs.Tests.{eqb-true}
use Rattle.lists.proofs.Tables.{first_at_passes}
use Rattle.lists.proofs.Slots.{by_eq}
use Rattle.fscrypt.specs.Cipher.{Cipher, Lawful}
use Rattle.volume.specs.Volume.{no_inode, no_entry, entry_slot}
use Rattle.volume.specs.Request.{create}
use Rattle.volume.specs.Lookup.{inode_at, is_free, free_inode, is_vacant, free_entry, entry_named, node_at, slot_at}
use Rattle.volume.specs.DirectoryNames.{stored}
use Rattle.volume.specs.Checks.{create_check}
use Rattle.volume.specs.Step.{with_inodes, with_entries, child_of, effect}
use Rattle.volume.specs.Sound.{MayHold}
use Rattle.ids.specs.declared.InodeNumber.{InodeNumber}
use Rattle.volume.specs.declared.Inode.{Inode}
use Rattle.volume.specs.declared.Entry.{Entry}
use Rattle.volume.specs.declared.Volume.{Volume}
use Rattle.volume.proofs.SoundCore.{Core, NameOk, EntryOk, InUse, node_in, slot_used, store_core, put_core}
use Rattle.volume.proofs.SoundClimb.{num, Any, Up, Rooted, Tree, up_again}
use Rattle.volume.proofs.SoundInvariant.{Held, Inv, one≢zero, free_same, still_held}
use Rattle.volume.proofs.SoundInvariant.{entry_same, name_ok, slot_ok, nonce_free, child_kind, child_ok, child_policy, child_nonce}
use Rattle.volume.proofs.Passed.{CreatePassed, create_passed}
use Rattle.volume.proofs.SoundLink.{vacant}
use Rattle.errno.specs.Refusals.{fine}

-- the slot that a new inode takes is free
pub free_kind : (v : Volume) → (node_at v (free_inode v)).kind ≡ 0
unfolding free_inode
free_kind v = eqb-true (first_at_passes is_free v.inodes no_inode refl)

-- an inode that is there stays as it is
pub free_kept : (v : Volume) (x : Inode) (j : ℕ) → (node_at v j).kind ≢ 0 → node_in (set v.inodes (free_inode v) x) j ≡ node_at v j
free_kept v x j k = get_or-set_other v.inodes (free_inode v) j x no_inode (λ q. k (ap (λ (m : ℕ). (node_at v m).kind) q ∙ free_kind v))

module _ (C : Cipher) (law : Lawful C) (v : Volume) (ok : Inv v) where
  module _ (p : InodeNumber) (kind : ℕ) (n x : Bytes) (xl : length x ≡ 16) where
    abbrev i : ℕ
    i = free_inode v

    abbrev e : ℕ
    e = free_entry v

    abbrev s : Bytes
    s = stored C v (inode_at v p) n

    abbrev newcomer : Inode
    newcomer = child_of (inode_at v p) kind x

    abbrev is' : List Inode
    is' = set v.inodes i newcomer

    abbrev es' : List Entry
    es' = set v.entries e (entry_slot p (num i) s)

    makes : CreatePassed C v p kind n x → Inv (record { keys = v.keys; inodes = is'; entries = es' })
    unfolding entry_named
    makes c = record { core = core₂; held = held₂; tree = tree₂ }
      where
        iz : i ≢ 0
        iz z = one≢zero (ap (λ (m : Inode). m.kind) ok.core.nodes_ok.root_is) (ap (λ (m : ℕ). (node_at v m).kind) (sym z) ∙ free_kind v)

        there : node_in is' i ≡ newcomer
        there = get_or-set_same v.inodes i newcomer no_inode (omega (arith, c.inode_room, ok.core.nodes_ok.inode_slots_lem))

        other : (j : ℕ) → (node_at v j).kind ≢ 0 → node_in is' j ≡ node_at v j
        other = free_kept v newcomer

        dir_same : node_in is' p.0 ≡ inode_at v p
        dir_same = other p.0 (one≢zero c.directory)

        core₁ : Core (with_inodes v is')
        core₁ =
            put_core v ok.core i newcomer iz (child_ok (inode_at v p) kind x (ok.core.nodes_ok.inodes_ok p.0) c.kind.0 c.kind.1 xl)
            (λ j u.
            let w = ok.core.joined.entries_ok j u in
            entry_same v.inodes is' (slot_at v j) w (other (slot_at v j).parent.0 (one≢zero w.directory)) (other (slot_at v j).inode.0 w.holds))
            (λ j u k. ap (λ (m : Inode). m.kind) (sym (other (slot_at v j).inode.0 (ok.core.joined.entries_ok j u).holds)) ∙ k)
            (λ j r. let q = child_nonce (inode_at v p) kind x r.1 in nonce_free v ok.core x (c.nonce q.0) newcomer q.1 j r)

        new_ok : EntryOk is' (entry_slot p (num i) s)
        new_ok =
            slot_ok is' p (num i) s (ap (λ (m : Inode). m.kind) dir_same ∙ c.directory)
            (λ z. c.kind.0 (sym (ap (λ (m : Inode). m.kind) there ∙ child_kind (inode_at v p) kind x) ∙ z)) iz
            (subst₂ MayHold (sym dir_same) (sym there) (child_policy (inode_at v p) kind x))
            (subst (λ (m : Inode). NameOk m s) (sym dir_same) (name_ok C law v (inode_at v p) n c.name))

        core₂ : Core (with_entries (with_inodes v is') es')
        core₂ =
            store_core (with_inodes v is') core₁ e p (num i) s new_ok c.free_name
            (λ j ne r. (ok.core.joined.entries_ok j r.0).holds (ap (λ (m : ℕ). (node_at v m).kind) r.2 ∙ free_kind v))

        here : get_or es' e no_entry ≡ entry_slot p (num i) s
        here = get_or-set_same v.entries e (entry_slot p (num i) s) no_entry (omega (arith, c.entry_room, ok.core.joined.entry_slots_lem))

        here_used : InUse (get_or es' e no_entry)
        here_used = ap is_vacant here ∙ slot_used is' (entry_slot p (num i) s) new_ok

        same_at : (j : ℕ) → InUse (slot_at v j) → get_or es' j no_entry ≡ slot_at v j
        same_at = free_same v.entries e (entry_slot p (num i) s) (vacant v)

        climbs : (j : ℕ) → (node_at v j).kind ≡ 1 → Rooted es' j
        climbs j k = let r = ok.tree j k in up_again v.entries es' (λ m u. inl (same_at m u)) r.0 j r.1

        held₂ : Held is' es'
        held₂ j jz k =
            by_eq j i
            (λ q. (e, here_used, ap (λ (y : Entry). y.inode.0) here ∙ sym q))
            (λ ne.
            let r = ok.held j jz (λ z. k (ap (λ (m : Inode). m.kind) (get_or-set_other v.inodes i j newcomer no_inode ne) ∙ z)) in
            still_held v.entries es' j r (same_at r.0 r.1))

        tree₂ : Tree is' es'
        tree₂ j k =
            by_eq j i
            (λ q.
            let r = climbs p.0 c.directory in (
              suc r.0,
              record {
                entry = e;
                kept = tt;
                used = here_used;
                holds = ap (λ (y : Entry). y.inode.0) here ∙ sym q;
                above = subst (Up es' Any r.0) (ap (λ (y : Entry). y.parent.0) (sym here)) r.1;
              },
            ))
            (λ ne. climbs j (ap (λ (m : Inode). m.kind) (sym (get_or-set_other v.inodes i j newcomer no_inode ne)) ∙ k))

    pub create_keeps : create_check C v p kind n x ≡ fine → Inv (effect C v (create p kind n x)).volume
    unfolding effect
    create_keeps h = makes (create_passed C v p kind n x h)
