-- Exchange keeps the invariant: afterwards each entry holds the inode of the entry σ of it, σ being the swap, so each rule follows from the rule before. The climb
-- from either parent goes by neither of the two inodes: by the other's by the check, and by its own since that is one step below. Assumes nothing.
use Prim.Native.Nat.{ℕ, suc, ◌<◌}
use mathlib.Core.Path.{◌≡◌, sym, ◌∙◌, ap, ap₂, subst, subst₂}
use mathlib.Core.Logic.{◌≢◌, inl, inr}
use mathlib.Core.Bool.{Bool, true, false, cond, true≢false}
use mathlib.Core.List.{List}
use lib.ListN.{length, get_or, set, length-set}
use lib.Seq.{get_or-set_same, get_or-set_other}
use lib.Dec.{eqb}
use Rattle.lists.proofs.Tests.{eqb-true, eqb_self, eqb_other}
use Rattle.lists.proofs.Slots.{by_eq, by_test}
use Rattle.fscrypt.specs.Cipher.{Cipher}
use Rattle.volume.specs.Volume.{no_entry}
use Rattle.volume.specs.Request.{exchange}
use Rattle.volume.specs.Lookup.{is_vacant, is_under_itself, slot_at, dir_of, node_of}
use Rattle.volume.specs.Checks.{exchange_check}
use Rattle.volume.specs.Step.{with_entries, with_inode, effect}
use Rattle.volume.specs.Sound.{MayHold}
use Rattle.ids.specs.declared.EntryNumber.{EntryNumber}
use Rattle.volume.specs.declared.Entry.{Entry}
use Rattle.volume.specs.declared.Volume.{Volume}
use Rattle.volume.proofs.SoundCore.{EntryOk, InUse, SameName, SameNode}
use Rattle.volume.proofs.SoundClimb.{Any, Up, Rooted, up_moves, up_again}
use Rattle.volume.proofs.SoundInvariant.{Inv, used_range, entry_other, NotOf, clear_both}
use Rattle.volume.proofs.Passed.{exchange_passed}
use Rattle.errno.specs.Refusals.{fine}

module _ (v : Volume) (ok : Inv v) where
  -- once the entry a holds the inode of b, and all but a and b are as they were, that inode is rooted
  stands : (es' : List Entry) (a b : ℕ) → InUse (slot_at v a) → get_or es' a no_entry ≡ with_inode (slot_at v a) (slot_at v b).inode
      → ((e : ℕ) → e ≢ a → e ≢ b → get_or es' e no_entry ≡ slot_at v e) → is_under_itself v (slot_at v b).inode (slot_at v a).parent ≡ false
      → Rooted es' (slot_at v b).inode.0
  stands es' a b ua at_a other h =
      let c = clear_both v ok a b ua h in
      let up : Up es' Any c.0 (slot_at v a).parent.0 =
      up_moves v.entries es' (λ e. NotOf v ok (slot_at v b).inode.0 e × NotOf v ok (slot_at v a).inode.0 e)
      (λ e ne. other e (λ r. ne.1 (ap (λ (n : ℕ). (slot_at v n).inode.0) r)) (λ r. ne.0 (ap (λ (n : ℕ). (slot_at v n).inode.0) r)))
      c.0 (slot_at v a).parent.0 c.1 in (
        suc c.0,
        record {
          entry = a;
          kept = tt;
          used = ap is_vacant at_a ∙ ua;
          holds = ap (λ (e : Entry). e.inode.0) at_a;
          above = subst (Up es' Any c.0) (ap (λ (e : Entry). e.parent.0) (sym at_a)) up;
        },
      )

  module _ (a b : ℕ) (ua : InUse (slot_at v a)) (ub : InUse (slot_at v b)) where
    -- the entry whose inode stands at e afterwards
    abbrev σ : ℕ → ℕ
    σ e = cond (eqb e a) b (cond (eqb e b) a e)

    σ-a : σ a ≡ b
    σ-a = ap (λ (t : Bool). cond t b (cond (eqb a b) a a)) (eqb_self a)

    σ-b : σ b ≡ a
    σ-b =
        by_test (eqb b a)
        (λ t. ap (λ (c : Bool). cond c b (cond (eqb b b) a b)) t ∙ eqb-true t)
        (λ t. ap (λ (c : Bool). cond c b (cond (eqb b b) a b)) t ∙ ap (λ (c : Bool). cond c a b) (eqb_self b))

    σ-other : (e : ℕ) → e ≢ a → e ≢ b → σ e ≡ e
    σ-other e na nb = ap₂ (λ (s t : Bool). cond s b (cond t a e)) (eqb_other e a na) (eqb_other e b nb)

    σ-σ : (e : ℕ) → σ (σ e) ≡ e
    σ-σ e =
        by_eq e a
        (λ q. ap (λ (n : ℕ). σ (σ n)) q ∙ ap σ σ-a ∙ σ-b ∙ sym q)
        (λ na. by_eq e b (λ q. ap (λ (n : ℕ). σ (σ n)) q ∙ ap σ σ-b ∙ σ-a ∙ sym q) (λ nb. ap σ (σ-other e na nb) ∙ σ-other e na nb))

    abbrev first : List Entry
    first = set v.entries a (with_inode (slot_at v a) (slot_at v b).inode)

    abbrev swapped : List Entry
    swapped = set first b (with_inode (slot_at v b) (slot_at v a).inode)

    -- an entry with the inode of another
    abbrev taking : ℕ → ℕ → Entry
    taking e n = with_inode (slot_at v e) (slot_at v n).inode

    pub look : (e : ℕ) → get_or swapped e no_entry ≡ taking e (σ e)
    look e =
        by_eq e b
        (λ q.
        subst (λ (n : ℕ). get_or swapped n no_entry ≡ taking n (σ n)) (sym q)
        (get_or-set_same first b (taking b a) no_entry (subst (λ (n : ℕ). b < n) (sym (length-set v.entries a (taking a b))) (used_range v.entries b ub))
        ∙ ap (taking b) (sym σ-b)))
        (λ nb.
        get_or-set_other first b e (taking b a) no_entry nb
        ∙ by_eq e a
        (λ q.
        subst (λ (n : ℕ). get_or first n no_entry ≡ taking n (σ n)) (sym q)
        (get_or-set_same v.entries a (taking a b) no_entry (used_range v.entries a ua) ∙ ap (taking a) (sym σ-a)))
        (λ na. get_or-set_other v.entries a e (taking a b) no_entry na ∙ ap (taking e) (sym (σ-other e na nb))))

    look_other : (e : ℕ) → e ≢ a → e ≢ b → get_or swapped e no_entry ≡ slot_at v e
    look_other e na nb = look e ∙ ap (taking e) (σ-other e na nb)

    σ-used : (e : ℕ) → InUse (slot_at v e) → InUse (slot_at v (σ e))
    σ-used e u =
        by_eq e a
        (λ q. ap (λ (n : ℕ). is_vacant (slot_at v n)) (ap σ q ∙ σ-a) ∙ ub)
        (λ na.
        by_eq e b (λ q. ap (λ (n : ℕ). is_vacant (slot_at v n)) (ap σ q ∙ σ-b) ∙ ua) (λ nb. ap (λ (n : ℕ). is_vacant (slot_at v n)) (σ-other e na nb) ∙ u))

    exchanges : MayHold (dir_of v a) (node_of v b) → MayHold (dir_of v b) (node_of v a) → is_under_itself v (slot_at v b).inode (slot_at v a).parent ≡ false
        → is_under_itself v (slot_at v a).inode (slot_at v b).parent ≡ false → Inv (with_entries v swapped)
    exchanges pa pb ca cb = record {
      core = record {
        keyring_ok = ok.core.keyring_ok;
        nodes_ok = ok.core.nodes_ok;
        joined = record {
          entry_slots_lem = lengths ∙ ok.core.joined.entry_slots_lem;
          entries_ok = λ e u.
              let u₀ : InUse (slot_at v e) = sym (ap is_vacant (look e)) ∙ u in
              subst (EntryOk v.inodes) (sym (look e))
              (entry_other v.inodes (slot_at v e) (slot_at v (σ e)) (ok.core.joined.entries_ok e u₀) (ok.core.joined.entries_ok (σ e) (σ-used e u₀)) (takes e u₀));
          free_entries = λ e u.
              let u₀ : is_vacant (slot_at v e) ≡ true = sym (ap is_vacant (look e)) ∙ u in
              look_other e (not_used e a u₀ ua) (not_used e b u₀ ub) ∙ ok.core.joined.free_entries e u₀;
          names = λ i j. subst₂ (λ (m n : Entry). SameName m n → i ≡ j) (sym (look i)) (sym (look j)) (ok.core.joined.names i j);
          nodes = λ i j.
              subst₂ (λ (m n : Entry). SameNode v.inodes m n → i ≡ j) (sym (look i)) (sym (look j))
              (λ r. sym (σ-σ i) ∙ ap σ (ok.core.joined.nodes (σ i) (σ j) (σ-used i r.0, σ-used j r.1, r.2, r.3)) ∙ σ-σ j);
        };
      };
      held = λ i iz k.
          let r = ok.held i iz k in (
            σ r.0,
            ap is_vacant (look (σ r.0)) ∙ σ-used r.0 r.1,
            ap (λ (n : Entry). n.inode.0) (look (σ r.0))
                ∙ ap (λ (n : ℕ). (slot_at v n).inode.0) (σ-σ r.0) ∙ r.2,
          );
      tree = λ i k.
          let r = ok.tree i k in
          up_again v.entries swapped
          (λ e u.
          by_eq e a
          (λ q. inr (subst (λ (n : ℕ). Rooted swapped (slot_at v n).inode.0) (sym q) (stands swapped b a ub at_b (λ n nb na. look_other n na nb) cb)))
          (λ na.
          by_eq e b
          (λ q. inr (subst (λ (n : ℕ). Rooted swapped (slot_at v n).inode.0) (sym q) (stands swapped a b ua at_a look_other ca)))
          (λ nb. inl (look_other e na nb))))
          r.0 i r.1;
    }
      where
        lengths : length swapped ≡ length v.entries
        lengths = length-set first b (taking b a) ∙ length-set v.entries a (taking a b)

        at_a : get_or swapped a no_entry ≡ taking a b
        at_a = look a ∙ ap (taking a) σ-a

        at_b : get_or swapped b no_entry ≡ taking b a
        at_b = look b ∙ ap (taking b) σ-b

        not_used : (e c : ℕ) → is_vacant (slot_at v e) ≡ true → InUse (slot_at v c) → e ≢ c
        not_used e c f u q = true≢false (sym f ∙ ap (λ (n : ℕ). is_vacant (slot_at v n)) q ∙ u)

        Joins : ℕ → ℕ → Type 0
        Joins m n = MayHold (dir_of v m) (node_of v n)

        takes : (e : ℕ) → InUse (slot_at v e) → MayHold (dir_of v e) (node_of v (σ e))
        takes e u =
            by_eq e a
            (λ q. subst₂ Joins (sym q) (sym (ap σ q ∙ σ-a)) pa)
            (λ na.
            by_eq e b
            (λ q. subst₂ Joins (sym q) (sym (ap σ q ∙ σ-b)) pb)
            (λ nb. subst (Joins e) (sym (σ-other e na nb)) (ok.core.joined.entries_ok e u).policy))

module _ (C : Cipher) (v : Volume) (ok : Inv v) where
  pub exchange_keeps : (a b : EntryNumber) → exchange_check v a b ≡ fine → Inv (effect C v (exchange a b)).volume
  unfolding effect
  exchange_keeps a b h =
      let c = exchange_passed v a b h in
      exchanges v ok a.0 b.0 c.one c.other c.one_policy c.other_policy c.other_clear c.one_clear
