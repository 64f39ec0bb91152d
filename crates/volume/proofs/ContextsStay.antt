-- An inode that has a context keeps it as long as it is there: set policy changes an inode that has none, create takes a free one, remove frees the inode whole,
-- and the other requests leave the inodes. So through every run. Assumes nothing.
use Prim.Native.Nat.{ℕ}
use mathlib.Core.Path.{◌≡◌, refl, sym, ◌∙◌, ap}
use mathlib.Core.Logic.{◌≢◌}
use mathlib.Core.Bool.{true, false, true≢false}
use mathlib.Core.List.{List, Memᴰ}
use lib.ListN.{get_or, set}
use lib.Seq.{get_or-set_same, get_or-set_other}
use borrow.Author.Tests.{eq-eqb}
use Rattle.lists.specs.Bytes.{Bytes}
use Rattle.lists.proofs.Slots.{by_eq, by_cond, within}
use Rattle.policy.specs.Policies.{read_policy, policy_in}
use Rattle.fscrypt.specs.Cipher.{Cipher, Lawful}
use Rattle.volume.specs.Volume.{no_inode, no_entry, encrypted_inode}
use Rattle.volume.specs.Request.{Request, AllTyped}
use Rattle.volume.specs.Lookup.{inode_at, is_free, entry_at, is_held, node_at}
use Rattle.volume.specs.Step.{child_of, without_unheld, with_inodes, effect, step}
use Rattle.volume.specs.Run.{Moment, run_from}
use Rattle.volume.specs.Sound.{Sound}
use Rattle.volume.specs.SealedOpens.{Stays}
use Rattle.ids.specs.declared.InodeNumber.{InodeNumber}
use Rattle.volume.specs.declared.Inode.{Inode}
use Rattle.volume.specs.declared.Volume.{Volume}
use Rattle.volume.proofs.Kept.{volume_has, kept_while}
use Rattle.volume.proofs.Touching.{Touches, asks, adds_key, removes_key, sets_policy, creates, links, renames, exchanges, removes, touches}
use Rattle.volume.proofs.SoundCreate.{free_kept}
use Rattle.volume.proofs.Soundness.{sound_kept}

-- the inode is as it was, if it is still there
abbrev Kept : Volume → Volume → InodeNumber → Type 0
Kept v w i = is_free (inode_at w i) ≡ false → inode_at w i ≡ inode_at v i

module _ (C : Cipher) (v : Volume) (s : Sound v) (i : InodeNumber) (t : (inode_at v i).encrypted ≡ true) where
  is_there : (inode_at v i).kind ≢ 0
  is_there z = true≢false (sym t ∙ ap (λ (n : Inode). n.encrypted) (s.free_inodes i.0 (eq-eqb _ 0 z)))

  -- a first policy is set on another inode
  policy_kept : (j : InodeNumber) (p x : Bytes) → (inode_at v j).encrypted ≡ false → Kept v (with_inodes v (set v.inodes j.0 (encrypted_inode 1 (policy_in (read_policy p)) x))) i
  policy_kept j p x f u =
      get_or-set_other v.inodes j.0 i.0 _ no_inode (λ q. true≢false (sym t ∙ ap (λ (n : ℕ). (node_at v n).encrypted) q ∙ f))

  -- an inode that goes, goes whole
  unheld_kept : (j : InodeNumber) → is_free (get_or (set v.inodes j.0 no_inode) i.0 no_inode) ≡ false → get_or (set v.inodes j.0 no_inode) i.0 no_inode ≡ inode_at v i
  unheld_kept j u =
      by_eq i.0 j.0
      (λ q.
      let here = within v.inodes no_inode i.0 (λ n. is_there (ap (λ (x : Inode). x.kind) n)) in
      let gone = ap (λ (k : ℕ). get_or (set v.inodes k no_inode) i.0 no_inode) (sym q) ∙ get_or-set_same v.inodes i.0 no_inode no_inode here in
      absurd (true≢false (sym (ap is_free gone) ∙ u)))
      (λ ne. get_or-set_other v.inodes j.0 i.0 no_inode no_inode ne)

  effect_kept : {r : Request} → Touches r → Kept v (effect C v r).volume i
  unfolding effect without_unheld
  effect_kept (asks answers leaves unnaming) = λ u. ap (λ (w : Volume). inode_at w i) (leaves C v)
  effect_kept (adds_key d k) = λ u. refl
  effect_kept (removes_key d) = λ u. refl
  effect_kept (sets_policy j p x) = by_cond (λ (w : Volume). Kept v w i) (inode_at v j).encrypted _ _ (λ e u. refl) (policy_kept j p x)
  effect_kept (creates p kind n x) = λ u. free_kept v (child_of (inode_at v p) kind x) i.0 is_there
  effect_kept (links j p n) = λ u. refl
  effect_kept (renames e p n) = λ u. refl
  effect_kept (exchanges a b) = λ u. refl
  effect_kept (removes e) =
      let es = set v.entries e.0 no_entry in
      let j = (entry_at v e).inode in
      by_cond (λ (is : List Inode). is_free (get_or is i.0 no_inode) ≡ false → get_or is i.0 no_inode ≡ inode_at v i) (is_held es j) v.inodes (set v.inodes j.0 no_inode)
      (λ h u. refl) (λ h. unheld_kept j)

  step_kept : (r : Request) → Kept v (step C v r).volume i
  step_kept r = volume_has C v r (λ (w : Volume). Kept v w i) (λ u. refl) (λ h. effect_kept (touches r))

module _ (C : Cipher) (law : Lawful C) (i : InodeNumber) where
  pub context_stays : (rs : List Request) (v : Volume) → Sound v → AllTyped rs → (inode_at v i).encrypted ≡ true → Stays C v rs i
      → (m : Moment) → Memᴰ m (run_from C v rs) → inode_at m.volume i ≡ inode_at v i
  context_stays rs v s t e h m p =
      (kept_while C (λ (w : Volume). Sound w × (inode_at w i ≡ inode_at v i)) (λ (w : Volume). is_free (inode_at w i) ≡ false)
      (λ w k r tr u. (sound_kept C law w k.0 r tr, step_kept C w k.0 i (ap (λ (n : Inode). n.encrypted) k.1 ∙ e) r u ∙ k.1)) rs v (s, refl) t h m p).1
