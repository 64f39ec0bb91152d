-- The climb from a directory to the root: its steps, its length, and what a move of entries does to it. `Up` counts the steps and says which entries a climb
-- goes by; it has no bound, for heights on one climb are different inodes, so that the pigeonhole gives the bound. Assumes nothing.
use Prim.Native.Nat.{ℕ, zero, suc, ◌≤◌, ◌<◌}
use native.Mathlib.Omega.{arith}
use mathlib.Core.Path.{◌≡◌, refl, sym, ◌∙◌, ap, ap₂, subst}
use mathlib.Core.Logic.{◌≢◌, ◌⊎◌, inl, inr, ⊎_elim}
use mathlib.Core.Bool.{Bool, true, false, cond, not, ◌&&◌, true≢false, false≢true}
use mathlib.Core.List.{List}
use lib.ListN.{get_or}
use lib.Dec.{eqb, leb}
use borrow.Author.Tests.{leb-true, leb-false, not-true, eq-eqb}
use Rattle.lists.specs.Bytes.{first_at}
use Rattle.lists.proofs.Tests.{and_left, and_right, eqb-true, eqb_self, eqb_other}
use Rattle.lists.proofs.Slots.{by_eq, by_test, within, first_at_found, pigeonhole}
use Rattle.volume.specs.Volume.{inode_slots, no_inode, no_entry, root_number}
use Rattle.volume.specs.Lookup.{is_vacant, is_link, first_link, parent_of, climb_from, is_moved, node_at, slot_at}
use Rattle.volume.specs.Sound.{EntryOf, Below, inside, deeper}
use Rattle.ids.specs.declared.InodeNumber.{InodeNumber}
use Rattle.volume.specs.declared.Inode.{Inode}
use Rattle.volume.specs.declared.Entry.{Entry}
use Rattle.volume.specs.declared.Volume.{Volume}
use Rattle.volume.specs.declared.Met.{Met}
use Rattle.volume.specs.declared.Met.TheVariants.{Moved, Root, Neither}
use Rattle.volume.proofs.SoundCore.{Core, InUse, node_in}

abbrev pub num : ℕ → InodeNumber
num i = record { 0 = i }

abbrev pub Any : ℕ → Type 0
Any e = Unit {0}

-- one step of a climb: an entry, of which P holds, holds the inode i, and the climb goes on from its parent
pub record Rung (es : List Entry) (P : ℕ → Type 0) (Above : ℕ → Type 0) (i : ℕ) : Type 0 where
  pub entry : ℕ
  pub kept : P entry
  pub used : InUse (get_or es entry no_entry)
  pub holds : (get_or es entry no_entry).inode.0 ≡ i
  pub above : Above (get_or es entry no_entry).parent.0

-- the root is k steps above i, by entries of which P holds
abbrev pub Up : List Entry → (ℕ → Type 0) → ℕ → ℕ → Type 0
Up es P zero i = i ≡ 0
Up es P (suc k) i = Rung es P (Up es P k) i

abbrev pub Rooted : List Entry → ℕ → Type 0
Rooted es i = (k : ℕ) × Up es Any k i

abbrev pub Tree : List Inode → List Entry → Type 0
Tree is es = (i : ℕ) → (node_in is i).kind ≡ 1 → Rooted es i

-- ---- a move of entries

-- a climb by entries that stay as they are
pub up_moves : (es es' : List Entry) (P : ℕ → Type 0) → ((e : ℕ) → P e → get_or es' e no_entry ≡ get_or es e no_entry) → (k i : ℕ) → Up es P k i → Up es' Any k i
up_moves es es' P h zero i u = u
up_moves es es' P h (suc k) i u =
    let q = h u.entry u.kept in
    record {
      entry = u.entry;
      kept = tt;
      used = ap is_vacant q ∙ u.used;
      holds = ap (λ (x : Entry). x.inode.0) q ∙ u.holds;
      above = subst (Up es' Any k) (ap (λ (x : Entry). x.parent.0) (sym q)) (up_moves es es' P h k (get_or es u.entry no_entry).parent.0 u.above);
    }

-- a climb by entries each of which stays as it is, or whose inode is rooted anew
pub up_again : (es es' : List Entry)
    → ((e : ℕ) → InUse (get_or es e no_entry) → (get_or es' e no_entry ≡ get_or es e no_entry) ⊎ Rooted es' (get_or es e no_entry).inode.0) → (k i : ℕ) → Up es Any k i
    → Rooted es' i
up_again es es' h zero i u = (0, u)
up_again es es' h (suc k) i u = go (h u.entry u.used) (up_again es es' h k (get_or es u.entry no_entry).parent.0 u.above)
  where
    go : (get_or es' u.entry no_entry ≡ get_or es u.entry no_entry) ⊎ Rooted es' (get_or es u.entry no_entry).inode.0
        → Rooted es' (get_or es u.entry no_entry).parent.0 → Rooted es' i
    go (inl q) r = (
      suc r.0,
      record {
        entry = u.entry;
        kept = tt;
        used = ap is_vacant q ∙ u.used;
        holds = ap (λ (x : Entry). x.inode.0) q ∙ u.holds;
        above = subst (Up es' Any r.0) (ap (λ (x : Entry). x.parent.0) (sym q)) r.1;
      },
    )
    go (inr r) r' = subst (Rooted es') u.holds r

-- ---- what a climb meets, as tests

abbrev pub is_root : Met → Bool
is_root Moved = false
is_root Root = true
is_root Neither = false

-- one of the two was met
abbrev pub has_ended : Met → Bool
has_ended Moved = true
has_ended Root = true
has_ended Neither = false

-- one step: whether it is the moved one, whether it is the root, and what the climb meets above
abbrev stepped : Bool → Bool → Met → Met
stepped a b x = cond a Moved (cond b Root x)

not_met : (a b : Bool) (x : Met) → is_moved (stepped a b x) ≡ false → a ≡ false
not_met true b x e = e
not_met false b x e = refl

not_met_above : (a b : Bool) (x : Met) → b ≡ false → is_moved (stepped a b x) ≡ false → is_moved x ≡ false
not_met_above true b x z e = absurd (true≢false e)
not_met_above false true x z e = absurd (true≢false z)
not_met_above false false x z e = e

root_above : (a b : Bool) (x : Met) → b ≡ false → is_root (stepped a b x) ≡ true → is_root x ≡ true
root_above true b x z e = absurd (false≢true e)
root_above false true x z e = absurd (true≢false z)
root_above false false x z e = e

ended_here : (a b : Bool) (x : Met) → b ≡ true → has_ended (stepped a b x) ≡ true
ended_here true b x e = refl
ended_here false true x e = refl
ended_here false false x e = absurd (false≢true e)

ended_above : (a b : Bool) (x : Met) → has_ended x ≡ true → has_ended (stepped a b x) ≡ true
ended_above true b x e = refl
ended_above false true x e = refl
ended_above false false x e = e

module _ (v : Volume) (ok : Core v) where
  abbrev kind_at : ℕ → ℕ
  kind_at i = (node_at v i).kind

  held_kind : {P Above : ℕ → Type 0} {i : ℕ} (u : Rung v.entries P Above i) → kind_at i ≡ 1 → kind_at (slot_at v u.entry).inode.0 ≡ 1
  held_kind u kd = ap kind_at u.holds ∙ kd

  above_kind : {P Above : ℕ → Type 0} {i : ℕ} (u : Rung v.entries P Above i) → kind_at (slot_at v u.entry).parent.0 ≡ 1
  above_kind u = (ok.joined.entries_ok u.entry u.used).directory

  rung_not_root : {P Above : ℕ → Type 0} {i : ℕ} (u : Rung v.entries P Above i) → i ≢ 0
  rung_not_root u z = (ok.joined.entries_ok u.entry u.used).not_root (u.holds ∙ z)

  -- a directory has one climb
  pub up_unique : (P Q : ℕ → Type 0) (j k i : ℕ) → kind_at i ≡ 1 → Up v.entries P j i → Up v.entries Q k i → j ≡ k
  up_unique P Q zero zero i kd u w = refl
  up_unique P Q zero (suc k) i kd u w = absurd (rung_not_root w u)
  up_unique P Q (suc j) zero i kd u w = absurd (rung_not_root u w)
  up_unique P Q (suc j) (suc k) i kd u w =
      let q : u.entry ≡ w.entry = ok.joined.nodes u.entry w.entry (u.used, w.used, u.holds ∙ sym w.holds, held_kind u kd) in
      let p : (slot_at v w.entry).parent.0 ≡ (slot_at v u.entry).parent.0 = ap (λ (e : ℕ). (slot_at v e).parent.0) (sym q) in
      ap suc (up_unique P Q j k (slot_at v u.entry).parent.0 (above_kind u) u.above (subst (Up v.entries Q k) p w.above))

  -- the directory of each height on the way
  heights : (P : ℕ → Type 0) (k i : ℕ) → kind_at i ≡ 1 → Up v.entries P k i → (t : ℕ) → (x : ℕ) × (t ≤ k → (kind_at x ≡ 1) × Up v.entries P t x)
  heights P zero i kd u t = (i, λ h. (kd, let q : 0 ≡ t = omega arith in subst (λ (n : ℕ). Up v.entries P n i) q u))
  heights P (suc k) i kd u t =
      by_eq t (suc k)
      (λ e. (i, λ h. (kd, subst (λ (n : ℕ). Up v.entries P n i) (sym e) u)))
      (λ ne. let r = heights P k (slot_at v u.entry).parent.0 (above_kind u) u.above t in (r.0, λ h. r.1 (omega arith)))

  pub in_range : (i : ℕ) → kind_at i ≢ 0 → i < inode_slots
  in_range i kd =
      let b = within v.inodes no_inode i (λ q. kd (ap (λ (n : Inode). n.kind) q)) in
      omega (arith, ok.nodes_ok.inode_slots_lem)

  -- a climb is short, as it meets no directory twice
  pub up_short : (P : ℕ → Type 0) (k i : ℕ) → kind_at i ≡ 1 → Up v.entries P k i → k < inode_slots
  up_short P k i kd u = by_test (leb inode_slots k) (λ e. absurd (long (leb-true inode_slots k e))) (λ e. leb-false inode_slots k e)
    where
      height : (t : ℕ) → (x : ℕ) × (t ≤ k → (kind_at x ≡ 1) × Up v.entries P t x)
      height = heights P k i kd u

      long : inode_slots ≤ k → ⊥
      long h =
          pigeonhole inode_slots (λ t. (height t).0)
          (λ t b. in_range (height t).0 (λ z. absurd (omega (arith, ((height t).1 (omega arith)).0, z))))
          (λ s t bs bt e.
          up_unique P P s t (height s).0 ((height s).1 (omega arith)).0 ((height s).1 (omega arith)).1
          (subst (Up v.entries P t) (sym e) ((height t).1 (omega arith)).1))

  -- the parent that the climb finds is that of the directory's entry
  parent_is : (e : ℕ) → InUse (slot_at v e) → kind_at (slot_at v e).inode.0 ≡ 1 → parent_of v (slot_at v e).inode ≡ (slot_at v e).parent
  unfolding parent_of first_link
  parent_is e u kd =
      let i = (slot_at v e).inode in
      let a = first_at (is_link i) v.entries in
      let t : is_link i (slot_at v a) ≡ true = first_at_found (is_link i) v.entries no_entry e refl (ap₂ ◌&&◌ (ap not u) (eqb_self i.0)) in
      let ua : InUse (slot_at v a) = not-true _ (and_left (not (is_vacant (slot_at v a))) _ t) in
      let ia : (slot_at v a).inode.0 ≡ i.0 = eqb-true (and_right (not (is_vacant (slot_at v a))) _ t) in
      ap (λ (n : ℕ). (slot_at v n).parent) (ok.joined.nodes a e (ua, u, ia, ap kind_at ia ∙ kd))

  rung_parent : {P Above : ℕ → Type 0} {i : ℕ} (u : Rung v.entries P Above i) → kind_at i ≡ 1 → parent_of v (num i) ≡ (slot_at v u.entry).parent
  rung_parent u kd = ap (λ (n : ℕ). parent_of v (num n)) (sym u.holds) ∙ parent_is u.entry u.used (held_kind u kd)

  -- ---- the climb as the requests make it

  -- it meets the root, where the moved one is no directory
  pub climb_root : (P : ℕ → Type 0) (m : InodeNumber) → ((i : ℕ) → kind_at i ≡ 1 → i ≢ m.0) → (n k i : ℕ) → k ≤ n → kind_at i ≡ 1 → Up v.entries P k i
      → climb_from v m n (num i) ≡ Root
  unfolding climb_from
  climb_root P m far zero zero i h kd u = ap₂ (λ (a b : Bool). stepped a b Neither) (eqb_other i m.0 (far i kd)) (eq-eqb i 0 u)
  climb_root P m far zero (suc k) i h kd u = absurd (omega arith)
  climb_root P m far (suc n) zero i h kd u =
      ap₂ (λ (a b : Bool). stepped a b (climb_from v m n (parent_of v (num i)))) (eqb_other i m.0 (far i kd)) (eq-eqb i 0 u)
  climb_root P m far (suc n) (suc k) i h kd u =
      ap₂ (λ (a b : Bool). stepped a b (climb_from v m n (parent_of v (num i)))) (eqb_other i m.0 (far i kd)) (eqb_other i 0 (rung_not_root u))
      ∙ ap (climb_from v m n) (rung_parent u kd)
      ∙ climb_root P m far n k (slot_at v u.entry).parent.0 (omega arith) (above_kind u) u.above

  -- it ends, within a budget of as many steps as there are
  pub climb_ends : (P : ℕ → Type 0) (m : InodeNumber) (n k i : ℕ) → k ≤ n → kind_at i ≡ 1 → Up v.entries P k i → has_ended (climb_from v m n (num i)) ≡ true
  unfolding climb_from
  climb_ends P m zero zero i h kd u = ended_here (eqb i m.0) (eqb i 0) Neither (eq-eqb i 0 u)
  climb_ends P m zero (suc k) i h kd u = absurd (omega arith)
  climb_ends P m (suc n) zero i h kd u = ended_here (eqb i m.0) (eqb i 0) (climb_from v m n (parent_of v (num i))) (eq-eqb i 0 u)
  climb_ends P m (suc n) (suc k) i h kd u =
      ended_above (eqb i m.0) (eqb i 0) (climb_from v m n (parent_of v (num i)))
      (ap (λ (p : InodeNumber). has_ended (climb_from v m n p)) (rung_parent u kd) ∙ climb_ends P m n k (slot_at v u.entry).parent.0 (omega arith) (above_kind u) u.above)

  -- one that did not meet m goes by no entry of m
  pub avoid_met : (P : ℕ → Type 0) (m : InodeNumber) (n k i : ℕ) → k ≤ n → is_moved (climb_from v m n (num i)) ≡ false → kind_at i ≡ 1 → Up v.entries P k i
      → Up v.entries (λ e. (slot_at v e).inode.0 ≢ m.0) k i
  unfolding climb_from
  avoid_met P m n zero i h c kd u = u
  avoid_met P m zero (suc k) i h c kd u = absurd (omega arith)
  avoid_met P m (suc n) (suc k) i h c kd u =
      let above = climb_from v m n (parent_of v (num i)) in
      let nm : eqb i m.0 ≡ false = not_met (eqb i m.0) (eqb i 0) above c in
      let c' : is_moved (climb_from v m n (slot_at v u.entry).parent) ≡ false =
      ap (λ (p : InodeNumber). is_moved (climb_from v m n p)) (sym (rung_parent u kd))
      ∙ not_met_above (eqb i m.0) (eqb i 0) above (eqb_other i 0 (rung_not_root u)) c in
      record {
        entry = u.entry;
        kept = λ q. true≢false (sym (eqb_self m.0) ∙ ap (λ (x : ℕ). eqb x m.0) (sym q ∙ u.holds) ∙ nm);
        used = u.used;
        holds = u.holds;
        above = avoid_met P m n k (slot_at v u.entry).parent.0 (omega arith) c' (above_kind u) u.above;
      }

  -- a climb all of whose steps have Q
  pub avoid : (P Q : ℕ → Type 0) (k i : ℕ)
      → ((e j : ℕ) → j < k → P e → kind_at (slot_at v e).inode.0 ≡ 1 → Up v.entries P (suc j) (slot_at v e).inode.0 → Q e) → kind_at i ≡ 1 → Up v.entries P k i
      → Up v.entries Q k i
  avoid P Q zero i h kd u = u
  avoid P Q (suc k) i h kd u = record {
    entry = u.entry;
    kept = h u.entry k (omega arith) u.kept (held_kind u kd) (record { entry = u.entry; kept = u.kept; used = u.used; holds = refl; above = u.above });
    used = u.used;
    holds = u.holds;
    above = avoid P Q k (slot_at v u.entry).parent.0 (λ e j b. h e j (omega arith)) (above_kind u) u.above;
  }

  -- a climb from an inode other than x goes by no entry of x, if none stands in x
  pub avoid_leaf : (x : ℕ) → ((e : ℕ) → InUse (slot_at v e) → (slot_at v e).parent.0 ≢ x) → (k i : ℕ) → i ≢ x → Up v.entries Any k i
      → Up v.entries (λ e. (slot_at v e).inode.0 ≢ x) k i
  avoid_leaf x h zero i ne u = u
  avoid_leaf x h (suc k) i ne u = record {
    entry = u.entry;
    kept = λ q. ne (sym u.holds ∙ q);
    used = u.used;
    holds = u.holds;
    above = avoid_leaf x h k (slot_at v u.entry).parent.0 (h u.entry u.used) u.above;
  }

-- ---- rooted is below the root

module _ (v : Volume) where
  pub in_use : (e : ℕ) → InUse (slot_at v e) → (slot_at v e).len ≢ 0
  in_use e u z = true≢false (sym (eq-eqb _ 0 z) ∙ u)

  -- an inode whose directory is d or stands below it stands below d
  pub one_more : (d i : InodeNumber) (e : ℕ) → InUse (slot_at v e) → (slot_at v e).inode ≡ i → ((slot_at v e).parent ≡ d) ⊎ Below v d (slot_at v e).parent → Below v d i
  one_more d i e u q r =
      let of : EntryOf v i e = record { in_use = in_use e u; inode = q } in
      ⊎_elim (λ p. inside e (record { in_use = in_use e u; parent = p }) of) (λ b. deeper e b (record { in_use = in_use e u; parent = refl }) of) r

  pub rooted_below : (k i : ℕ) → Up v.entries Any k i → (num i ≡ root_number) ⊎ Below v root_number (num i)
  rooted_below zero i u = inl (ap num u)
  rooted_below (suc k) i u =
      inr (one_more root_number (num i) u.entry u.used (ap num u.holds) (rooted_below k (slot_at v u.entry).parent.0 u.above))

  step_up : (i : InodeNumber) (e k : ℕ) → EntryOf v i e → Up v.entries Any k (slot_at v e).parent.0 → Rooted v.entries i.0
  step_up i e k b u = (suc k, record { entry = e; kept = tt; used = eqb_other _ 0 b.in_use; holds = ap (λ (n : InodeNumber). n.0) b.inode; above = u })

  under_rooted : {d i : InodeNumber} → d ≡ root_number → Below v d i → Rooted v.entries i.0
  under_rooted {d} {i} z (inside e a b) = step_up i e 0 b (ap (λ (n : InodeNumber). n.0) (a.parent ∙ z))
  under_rooted {d} {i} z (deeper e c a b) =
      let r = under_rooted z c in
      step_up i e r.0 b (subst (λ (n : InodeNumber). Up v.entries Any r.0 n.0) (sym a.parent) r.1)

  pub below_rooted : (i : InodeNumber) → (i ≡ root_number) ⊎ Below v root_number i → Rooted v.entries i.0
  below_rooted i r = ⊎_elim (λ z. (0, ap (λ (n : InodeNumber). n.0) z)) (under_rooted refl) r
