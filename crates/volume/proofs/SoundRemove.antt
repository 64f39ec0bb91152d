-- Remove keeps the invariant: none stands in the inode, so no climb but its own goes by its entries; and the inode goes exactly when no entry holds it.
-- Assumes nothing.
use Prim.Native.Nat.{ℕ}
use mathlib.Core.Path.{◌≡◌, refl, sym, ◌∙◌, ap, ap₂}
use mathlib.Core.Logic.{◌≢◌}
use mathlib.Core.Bool.{true, false, not, ◌&&◌, true≢false, false≢true}
use mathlib.Core.List.{List}
use lib.ListN.{length, get_or, set, length-set}
use lib.Seq.{get_or-set_same, get_or-set_other}
use borrow.Author.Tests.{not-true, eq-eqb}
use Rattle.lists.specs.Bytes.{first_at}
use Rattle.lists.proofs.Tests.{and_left, and_right, eqb-true}
use Rattle.lists.proofs.Slots.{by_cond, by_eq, search_hit, search_none}
use Rattle.fscrypt.specs.Cipher.{Cipher}
use Rattle.volume.specs.Volume.{entry_slots, no_inode, no_entry}
use Rattle.volume.specs.Request.{remove}
use Rattle.volume.specs.Lookup.{inode_at, entry_at, is_vacant, has_entries, is_link, first_link, is_held, node_at, slot_at}
use Rattle.volume.specs.Checks.{remove_check}
use Rattle.volume.specs.Step.{with_entries, without_unheld, effect}
use Rattle.ids.specs.declared.InodeNumber.{InodeNumber}
use Rattle.ids.specs.declared.EntryNumber.{EntryNumber}
use Rattle.volume.specs.declared.Inode.{Inode}
use Rattle.volume.specs.declared.Entry.{Entry}
use Rattle.volume.specs.declared.Volume.{Volume}
use Rattle.volume.proofs.SoundCore.{no_inode_ok, InUse, node_in, none_in, clear_core, put_core}
use Rattle.volume.proofs.SoundClimb.{Rooted, up_moves, avoid_leaf}
use Rattle.volume.proofs.SoundInvariant.{Holder, Inv, one≢zero, used_range, kind_range, still_held, entry_same, NotOf}
use Rattle.volume.proofs.Passed.{remove_passed}
use Rattle.errno.specs.Refusals.{fine}

module _ (v : Volume) (ok : Inv v) (e : ℕ) (u : InUse (slot_at v e)) (empty : has_entries v (slot_at v e).inode ≡ false) where
  abbrev gone : InodeNumber
  gone = (slot_at v e).inode

  abbrev left : List Entry
  left = set v.entries e no_entry

  left_slots : length left ≡ entry_slots
  left_slots = length-set v.entries e no_entry ∙ ok.core.joined.entry_slots_lem

  not_in : (j : ℕ) → InUse (slot_at v j) → (slot_at v j).parent.0 ≢ gone.0
  not_in = none_in v ok.core.joined.entry_slots_lem gone empty

  at_e : get_or left e no_entry ≡ no_entry
  at_e = get_or-set_same v.entries e no_entry no_entry (used_range v.entries e u)

  pub left_other : (j : ℕ) → InUse (get_or left j no_entry) → j ≢ e
  left_other j uj q = true≢false (sym (ap is_vacant at_e) ∙ ap (λ (n : ℕ). is_vacant (get_or left n no_entry)) (sym q) ∙ uj)

  pub left_same : (j : ℕ) → j ≢ e → get_or left j no_entry ≡ slot_at v j
  left_same j ne = get_or-set_other v.entries e j no_entry no_entry ne

  climbs_on : (j : ℕ) → (node_at v j).kind ≡ 1 → j ≢ gone.0 → Rooted left j
  climbs_on j k ne =
      let r = ok.tree j k in (
        r.0,
        up_moves v.entries left (NotOf v ok gone.0) (λ n no. left_same n (λ q. no (ap (λ (m : ℕ). (slot_at v m).inode.0) q))) r.0 j
            (avoid_leaf v ok.core gone.0 not_in r.0 j ne r.1),
      )

  held_on : (j : ℕ) → j ≢ 0 → (node_at v j).kind ≢ 0 → j ≢ gone.0 → Holder left j
  held_on j jz k ne =
      let r = ok.held j jz k in
      still_held v.entries left j r (left_same r.0 (λ q. ne (sym r.2 ∙ ap (λ (m : ℕ). (slot_at v m).inode.0) q)))

  stays : is_held left gone ≡ true → Inv (with_entries v left)
  unfolding first_link
  stays h =
      let f = first_at (is_link gone) left in
      let x = get_or left f no_entry in
      let t : is_link gone x ≡ true = search_hit (is_link gone) left no_entry entry_slots left_slots h in
      let ux : InUse x = not-true _ (and_left (not (is_vacant x)) _ t) in
      let ix : x.inode.0 ≡ gone.0 = eqb-true (and_right (not (is_vacant x)) _ t) in
      let ne = left_other f ux in
      let q = left_same f ne in
      let not_dir : (node_at v gone.0).kind ≢ 1 =
      λ k.
      ne (ok.core.joined.nodes f e (
        ap is_vacant (sym q) ∙ ux,
        u,
        ap (λ (n : Entry). n.inode.0) (sym q) ∙ ix,
        ap (λ (n : Entry). (inode_at v n.inode).kind) (sym q)
            ∙ ap (λ (m : ℕ). (node_at v m).kind) ix ∙ k,
      )) in
      record {
        core = clear_core v ok.core e;
        held = λ j jz k. by_eq j gone.0 (λ r. (f, ux, ix ∙ sym r)) (held_on j jz k);
        tree = λ j k. climbs_on j k (λ r. not_dir (ap (λ (m : ℕ). (node_at v m).kind) (sym r) ∙ k));
      }

  goes : is_held left gone ≡ false → Inv (record { keys = v.keys; inodes = set v.inodes gone.0 no_inode; entries = left })
  unfolding first_link
  goes h = record {
    core = put_core (with_entries v left) (clear_core v ok.core e) gone.0 no_inode (ok.core.joined.entries_ok e u).not_root no_inode_ok
        (λ j uj.
        let w = (clear_core v ok.core e).joined.entries_ok j uj in
        let x = get_or left j no_entry in
        let q = left_same j (left_other j uj) in
        entry_same v.inodes is' x w
        (other x.parent.0 (λ p. not_in j (ap is_vacant (sym q) ∙ uj) (ap (λ (n : Entry). n.parent.0) (sym q) ∙ p)))
        (other x.inode.0 (not_held j uj)))
        (λ j uj k. ap (λ (n : Inode). n.kind) (sym (other (get_or left j no_entry).inode.0 (not_held j uj))) ∙ k)
        (λ j r. false≢true r.1);
    held = λ j jz k. let ne = in_use j k in held_on j jz (λ z. k (ap (λ (n : Inode). n.kind) (other j ne) ∙ z)) ne;
    tree = λ j k. let ne = in_use j (one≢zero k) in climbs_on j (ap (λ (n : Inode). n.kind) (sym (other j ne)) ∙ k) ne;
  }
    where
      is' : List Inode
      is' = set v.inodes gone.0 no_inode

      other : (j : ℕ) → j ≢ gone.0 → node_in is' j ≡ node_at v j
      other j ne = get_or-set_other v.inodes gone.0 j no_inode no_inode ne

      not_held : (j : ℕ) → InUse (get_or left j no_entry) → (get_or left j no_entry).inode.0 ≢ gone.0
      not_held j uj q =
          let t : is_link gone (get_or left j no_entry) ≡ true = ap₂ ◌&&◌ (ap not uj) (eq-eqb (get_or left j no_entry).inode.0 gone.0 q) in
          true≢false (sym t ∙ search_none (is_link gone) left no_entry entry_slots left_slots refl h j)

      cleared : (node_in is' gone.0).kind ≡ 0
      cleared =
          ap (λ (n : Inode). n.kind) (get_or-set_same v.inodes gone.0 no_inode no_inode (kind_range v.inodes gone.0 (ok.core.joined.entries_ok e u).holds))

      in_use : (j : ℕ) → (node_in is' j).kind ≢ 0 → j ≢ gone.0
      in_use j k q = k (ap (λ (m : ℕ). (node_in is' m).kind) q ∙ cleared)

module _ (C : Cipher) (v : Volume) (ok : Inv v) where
  pub remove_keeps : (e : EntryNumber) → remove_check v e ≡ fine → Inv (effect C v (remove e)).volume
  unfolding effect without_unheld
  remove_keeps e h =
      let c = remove_passed v e h in
      by_cond (λ (is : List Inode). Inv (record { keys = v.keys; inodes = is; entries = set v.entries e.0 no_entry }))
      (is_held (set v.entries e.0 no_entry) (entry_at v e).inode) _ _ (stays v ok e.0 c.entry c.empty)
      (goes v ok e.0 c.entry c.empty)
