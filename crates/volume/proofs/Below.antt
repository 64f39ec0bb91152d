-- A directory stands below another exactly where the climb from it meets the other, and every inode that stands is the root or stands below it: on a sound volume.
-- Up: each step of the climb that goes on is one entry more at the lower end. Down: a climb that did not meet a directory goes by no entry of it, but the entry
-- of what stands below is the one that the climb goes by. The root is met at the latest. Assumes nothing.
use Prim.Native.Nat.{ℕ, zero, suc}
use native.Mathlib.Omega.{arith}
use mathlib.Core.Path.{◌≡◌, refl, sym, ◌∙◌, ap, ap₂, subst}
use mathlib.Core.Logic.{◌≢◌, ◌⊎◌, ◌↔◌, inl, inr, ⊎_elim}
use mathlib.Core.Bool.{Bool, true, false, cond, not, ◌&&◌, true≢false, false≢true}
use lib.Dec.{eqb}
use borrow.Author.Tests.{not-true, eq-eqb}
use Rattle.lists.specs.Bytes.{first_at}
use Rattle.lists.proofs.Tests.{and_left, and_right, eqb-true, eqb_other}
use Rattle.lists.proofs.Slots.{by_eq, by_test, first_at_found}
use Rattle.lists.proofs.Searches.{equal, both}
use Rattle.volume.specs.Volume.{inode_slots, no_entry, root_number}
use Rattle.volume.specs.Lookup.{inode_at, is_directory, is_vacant, is_link, first_link, parent_of, climb_from, is_moved, is_under_itself, Used, slot_at}
use Rattle.volume.specs.Sound.{Sound, Below, inside, deeper}
use Rattle.ids.specs.declared.InodeNumber.{InodeNumber}
use Rattle.volume.specs.declared.Volume.{Volume}
use Rattle.volume.specs.declared.Met.{Met}
use Rattle.volume.specs.declared.Met.TheVariants.{Moved, Root, Neither}
use Rattle.volume.proofs.SoundClimb.{num, Any, Up, has_ended, up_short, climb_ends, avoid_met, one_more}
use Rattle.volume.proofs.SoundInvariant.{Inv}
use Rattle.volume.proofs.Soundness.{sound_inv}

-- ---- one step of the climb, as tests

met_here : (b : Bool) (x : Met) (a : Bool) → a ≡ true → is_moved (cond a Moved (cond b Root x)) ≡ true
met_here b x true e = refl
met_here b x false e = absurd (false≢true e)

met_above : (a b : Bool) (x : Met) → is_moved (cond a Moved (cond b Root x)) ≡ true → (a ≡ true) ⊎ ((b ≡ false) × (is_moved x ≡ true))
met_above true b x e = inl refl
met_above false true x e = absurd (false≢true e)
met_above false false x e = inr (refl, e)

-- where the moved one is the root
ended_met : (a : Bool) (x : Met) → (has_ended x ≡ true → is_moved x ≡ true) → has_ended (cond a Moved (cond a Root x)) ≡ true → is_moved (cond a Moved (cond a Root x)) ≡ true
ended_met true x f h = refl
ended_met false x f h = f h

module _ (v : Volume) (s : Sound v) where
  ok : Inv v
  ok = sound_inv v s

  abbrev kind_at : InodeNumber → ℕ
  kind_at i = (inode_at v i).kind

  -- the new parent is the directory, or stands below it
  abbrev AtOrBelow : InodeNumber → InodeNumber → Type 0
  AtOrBelow d p = (p ≡ d) ⊎ Below v d p

  used : (e : ℕ) → (slot_at v e).len ≢ 0 → Used v e
  used e n = eqb_other _ 0 n

  -- ---- up

  climb_below : (d : InodeNumber) (n : ℕ) (p : InodeNumber) → kind_at p ≡ 1 → is_moved (climb_from v d n p) ≡ true → AtOrBelow d p
  unfolding climb_from parent_of first_link
  climb_below d zero p kd h = ⊎_elim (λ a. inl (ap num (eqb-true a))) (λ r. absurd (false≢true r.1)) (met_above (eqb p.0 d.0) (eqb p.0 0) Neither h)
  climb_below d (suc n) p kd h = go (climb_below d n)
    where
      e : ℕ
      e = first_at (is_link p) v.entries

      go : ((q : InodeNumber) → kind_at q ≡ 1 → is_moved (climb_from v d n q) ≡ true → AtOrBelow d q) → AtOrBelow d p
      go ih =
          ⊎_elim
          (λ a. inl (ap num (eqb-true a)))
          (λ r.
          let nz : p.0 ≢ 0 = λ z. true≢false (sym (eq-eqb p.0 0 z) ∙ r.0) in
          let w = ok.held p.0 nz (λ z. absurd (omega (arith, kd, z))) in
          let t : is_link p (slot_at v e) ≡ true = first_at_found (is_link p) v.entries no_entry w.0 refl (ap₂ ◌&&◌ (ap not w.1) (eq-eqb _ _ w.2)) in
          let u : Used v e = not-true _ (and_left (not (is_vacant (slot_at v e))) _ t) in
          inr (one_more v d p e u (ap num (eqb-true (and_right (not (is_vacant (slot_at v e))) _ t))) (ih (slot_at v e).parent (s.parents e u) r.1)))
          (met_above (eqb p.0 d.0) (eqb p.0 0) (climb_from v d n (parent_of v p)) h)

  -- ---- down

  -- a climb that goes by no entry of d
  abbrev Off : InodeNumber → ℕ → Type 0
  Off d e = (slot_at v e).inode.0 ≢ d.0

  -- starts not at d
  not_from : (d : InodeNumber) (k : ℕ) → d.0 ≢ 0 → Up v.entries (Off d) k d.0 → ⊥
  not_from d zero nz u = nz u
  not_from d (suc k) nz u = u.kept u.holds

  -- and from a directory goes on in that of its entry
  goes_on : (d p : InodeNumber) (k e : ℕ) → kind_at p ≡ 1 → Used v e → (slot_at v e).inode ≡ p → Up v.entries (Off d) k p.0
      → (j : ℕ) × Up v.entries (Off d) j (slot_at v e).parent.0
  goes_on d p zero e kd u q r = absurd (s.root_unheld e u (ap (λ (n : InodeNumber). n.0) q ∙ r))
  goes_on d p (suc k) e kd u q r =
      let hold : (slot_at v r.entry).inode ≡ (slot_at v e).inode = ap num r.holds ∙ sym q in
      let same : r.entry ≡ e = s.one_entry r.entry e r.used u hold (ap kind_at (hold ∙ q) ∙ kd) in
      (k, subst (Up v.entries (Off d) k) (ap (λ (n : ℕ). (slot_at v n).parent.0) same) r.above)

  not_below : (d p : InodeNumber) → d.0 ≢ 0 → Below v d p → kind_at p ≡ 1 → (k : ℕ) → Up v.entries (Off d) k p.0 → ⊥
  not_below d p nz (inside e a b) kd k r =
      let w = goes_on d p k e kd (used e b.in_use) b.inode r in
      not_from d w.0 nz (subst (λ (n : InodeNumber). Up v.entries (Off d) w.0 n.0) a.parent w.1)
  not_below d p nz (deeper {m = m} e c a b) kd k r =
      let u = used e b.in_use in
      let w = goes_on d p k e kd u b.inode r in
      not_below d m nz c (ap kind_at (sym a.parent) ∙ s.parents e u) w.0 (subst (λ (n : InodeNumber). Up v.entries (Off d) w.0 n.0) a.parent w.1)

  -- ---- the root

  ended_at_root : (n : ℕ) (p : InodeNumber) → has_ended (climb_from v root_number n p) ≡ true → is_moved (climb_from v root_number n p) ≡ true
  unfolding climb_from
  ended_at_root zero p h = ended_met (eqb p.0 0) Neither (λ q. q) h
  ended_at_root (suc n) p h = ended_met (eqb p.0 0) (climb_from v root_number n (parent_of v p)) (ended_at_root n (parent_of v p)) h

  meets_root : (p : InodeNumber) → kind_at p ≡ 1 → is_moved (climb_from v root_number inode_slots p) ≡ true
  meets_root p kd =
      let r = ok.tree p.0 kd in
      let b = up_short v ok.core Any r.0 p.0 kd r.1 in
      ended_at_root inode_slots p (climb_ends v ok.core Any root_number inode_slots r.0 p.0 (omega arith) kd r.1)

  -- ---- both

  below_climbs : (d p : InodeNumber) → kind_at p ≡ 1 → Below v d p → is_moved (climb_from v d inode_slots p) ≡ true
  below_climbs d p kd b =
      by_eq d.0 0
      (λ z. ap (λ (n : ℕ). is_moved (climb_from v (num n) inode_slots p)) z ∙ meets_root p kd)
      (λ nz.
      let r = ok.tree p.0 kd in
      let short = up_short v ok.core Any r.0 p.0 kd r.1 in
      by_test (is_moved (climb_from v d inode_slots p)) (λ t. t)
      (λ f. absurd (not_below d p nz b kd r.0 (avoid_met v ok.core Any d inode_slots r.0 p.0 (omega arith) f kd r.1))))

  climbs_itself : (n : ℕ) (d p : InodeNumber) → p ≡ d → is_moved (climb_from v d n p) ≡ true
  unfolding climb_from
  climbs_itself zero d p e = met_here (eqb p.0 0) Neither (eqb p.0 d.0) (eq-eqb _ _ (ap (λ (n : InodeNumber). n.0) e))
  climbs_itself (suc n) d p e = met_here (eqb p.0 0) (climb_from v d n (parent_of v p)) (eqb p.0 d.0) (eq-eqb _ _ (ap (λ (n : InodeNumber). n.0) e))

  -- the climb meets what a directory is or stands below
  climbs : (d p : InodeNumber) → kind_at p ≡ 1 → (is_moved (climb_from v d inode_slots p) ≡ true) ↔ AtOrBelow d p
  climbs d p kd = (climb_below d inode_slots p kd, λ r. ⊎_elim (climbs_itself inode_slots d p) (below_climbs d p kd) r)

  pub under_itself : (d p : InodeNumber) → kind_at p ≡ 1 → (is_under_itself v d p ≡ true) ↔ ((kind_at d ≡ 1) × AtOrBelow d p)
  unfolding is_under_itself
  under_itself d p kd = both (is_directory (inode_at v d)) (equal (kind_at d) 1) (is_moved (climb_from v d inode_slots p)) (climbs d p kd)

  pub reached : (i : InodeNumber) → kind_at i ≢ 0 → AtOrBelow root_number i
  reached i k =
      by_eq i.0 0
      (λ z. inl (ap num z))
      (λ nz.
      let w = ok.held i.0 nz k in
      let kd = s.parents w.0 w.1 in
      inr (one_more v root_number i w.0 w.1 (ap num w.2) (climb_below root_number inode_slots (slot_at v w.0).parent kd (meets_root (slot_at v w.0).parent kd))))
