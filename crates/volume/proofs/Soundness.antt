-- Every reachable volume is sound: the fresh one is, every request keeps a sound volume sound, and so is every volume of every run. `Sound` and the invariant
-- follow from one another. On a sound volume the climb's budget is never met. That its bytes are bytes is proofs/Bytewise.antt's, passed on here. Assumes nothing.
use Prim.Native.Nat.{ℕ, zero, suc, ◌-◌, ◌≤◌}
use native.Mathlib.Omega.{arith}
use mathlib.Core.Path.{◌≡◌, refl, sym, ◌∙◌, ap, subst}
use mathlib.Core.Logic.{◌≢◌}
use mathlib.Core.Bool.{true, false, true≢false, false≢true}
use mathlib.Core.List.{List, ◌++◌, Memᴰ}
use lib.ListN.{length}
use borrow.Author.Tests.{eq-eqb, eqb-false}
use Rattle.lists.specs.Bytes.{zeros}
use Rattle.lists.proofs.Tests.{eqb-true, eqb_other}
use Rattle.lists.proofs.Slots.{by_eq, by_test, all_same}
use Rattle.policy.proofs.Meanings.{valid}
use Rattle.fscrypt.specs.Cipher.{Cipher, Lawful}
use Rattle.fscrypt.proofs.NameMeanings.{name_check_fine}
use Rattle.volume.specs.Volume.{key_slots, inode_slots, entry_slots, no_key, no_inode, no_entry, plain_inode, name_of, fresh}
use Rattle.volume.specs.Request.{Request, Typed, AllTyped}
use Rattle.volume.specs.Lookup.{is_free_key, inode_at, is_vacant, climb_from, Used, key_at, node_at, slot_at, dir_of, node_of}
use Rattle.volume.specs.Step.{check, effect, step}
use Rattle.volume.specs.Run.{Moment, run}
use Rattle.volume.specs.Sound.{Sound, BearsPolicy}
use Rattle.ids.specs.declared.InodeNumber.{InodeNumber}
use Rattle.volume.specs.declared.Inode.{Inode}
use Rattle.volume.specs.declared.Entry.{Entry}
use Rattle.volume.specs.declared.Volume.{Volume}
use Rattle.volume.specs.declared.Met.TheVariants.{Root, Neither}
use Rattle.volume.proofs.PlainMeanings.{key_length}
use Rattle.volume.proofs.Kept.{volume_has, kept_always}
use Rattle.volume.proofs.Touching.{Touches, asks, adds_key, removes_key, sets_policy, creates, links, renames, exchanges, removes, touches}
pub use Rattle.volume.proofs.Bytewise.{fresh_bytes, bytewise}
use Rattle.volume.proofs.SoundCore.{Core, KeyOk, no_key_ok, InodeOk, plain_ok, no_inode_ok}
use Rattle.volume.proofs.SoundClimb.{num, Any, Up, has_ended, in_range, up_short, climb_root, climb_ends, rooted_below, below_rooted}
use Rattle.volume.proofs.SoundInvariant.{Inv, one≢zero}
use Rattle.volume.proofs.SoundKeys.{add_key_keeps, remove_key_keeps}
use Rattle.volume.proofs.SoundSetPolicy.{set_policy_keeps}
use Rattle.volume.proofs.SoundLink.{link_keeps}
use Rattle.volume.proofs.SoundRename.{rename_keeps}
use Rattle.volume.proofs.SoundCreate.{create_keeps}
use Rattle.volume.proofs.SoundExchange.{exchange_keeps}
use Rattle.volume.proofs.SoundRemove.{remove_keeps}
use Rattle.errno.specs.Refusals.{fine}

-- ---- from the invariant to the rules

module _ (v : Volume) (ok : Inv v) where
  -- the stored name is the first len bytes, and zeros follow
  abbrev Sized : Entry → Type 0
  Sized x = (length (name_of x) ≡ x.len) × (x.name ≡ name_of x ++ zeros (255 - x.len))

  sized : (e : ℕ) → Sized (slot_at v e)
  sized e =
      by_test (is_vacant (slot_at v e))
      (λ t. subst Sized (sym (ok.core.joined.free_entries e t)) (refl, refl))
      (λ f.
      let q = (ok.core.joined.entries_ok e f).slot in
      let l : length (name_of (slot_at v e)) ≡ (slot_at v e).len = sym (ap (λ (x : Entry). x.len) q) in
      (l, ap (λ (x : Entry). x.name) q ∙ ap (λ (n : ℕ). name_of (slot_at v e) ++ zeros (255 - n)) l))

  pub inv_sound : Sound v
  inv_sound =
      let c = ok.core in
      record {
        key_slots_lem = c.keyring_ok.key_slots_lem;
        inode_slots_lem = c.nodes_ok.inode_slots_lem;
        entry_slots_lem = c.joined.entry_slots_lem;
        key_lengths = λ k u. (key_length _).0 ((c.keyring_ok.keys_ok k).size u);
        key_sizes = λ k. (c.keyring_ok.keys_ok k).bytes_there;
        descriptors = λ k. (c.keyring_ok.keys_ok k).descriptor;
        descriptors_apart = λ j k a b d. c.keyring_ok.descriptors j k (a, b, d);
        root_directory = ap (λ (n : Inode). n.kind) c.nodes_ok.root_is;
        root_plain = ap (λ (n : Inode). n.encrypted) c.nodes_ok.root_is;
        kinds = λ i. (c.nodes_ok.inodes_ok i).kinds;
        parents = λ e u. (c.joined.entries_ok e u).directory;
        inodes_in_use = λ e u. eqb_other _ 0 (c.joined.entries_ok e u).holds;
        name_sizes = λ e. (sized e).0;
        name_lengths = λ e u. ((c.joined.entries_ok e u).name.some, (c.joined.entries_ok e u).name.fits);
        root_unheld = λ e u. (c.joined.entries_ok e u).not_root;
        has_entry = λ i nz f. ok.held i nz (eqb-false _ _ f);
        one_entry = λ a b ua ub q k. c.joined.nodes a b (ua, ub, ap (λ (n : InodeNumber). n.0) q, k);
        reachable = λ i k. let r = ok.tree i.0 k in rooted_below v r.0 i.0 r.1;
        names_apart = λ a b ua ub q n. c.joined.names a b (ua, ub, ap (λ (x : InodeNumber). x.0) q, n);
        policies = λ e u. (c.joined.entries_ok e u).policy;
        specials_plain = λ i k. by_test (node_at v i).encrypted (λ t. absurd (omega (arith, k, ((c.nodes_ok.inodes_ok i).context t).kind))) (λ f. f);
        contexts_valid = λ i t. (valid _).0 ((c.nodes_ok.inodes_ok i).context t).valid;
        context_descriptors = λ i. (c.nodes_ok.inodes_ok i).descriptor;
        context_nonces = λ i. (c.nodes_ok.inodes_ok i).nonce;
        nonces_apart = λ i j a b n. c.nodes_ok.nonces i j (a, b, n);
        plain_names = λ e u f. (name_check_fine _).0 ((c.joined.entries_ok e u).name.plain f);
        encrypted_lengths = λ e u. (c.joined.entries_ok e u).name.sealed;
        free_keys = λ k. (c.keyring_ok.keys_ok k).free;
        free_inodes = λ i t. (c.nodes_ok.inodes_ok i).free (eqb-true t);
        free_entries = c.joined.free_entries;
        unused_key_bytes = λ k. (c.keyring_ok.keys_ok k).unused;
        unused_name_bytes = λ e. (sized e).1;
        no_context_lem = λ i. (c.nodes_ok.inodes_ok i).bare;
      }

-- ---- and back

module _ (v : Volume) (s : Sound v) where
  has_holder : (i : ℕ) → i ≢ 0 → (node_at v i).kind ≢ 0 → (e : ℕ) × Used v e × ((slot_at v e).inode.0 ≡ i)
  has_holder i nz k = s.has_entry i nz (eqb_other _ 0 k)

  sound_core : Core v
  sound_core = record {
    keyring_ok = record {
      key_slots_lem = s.key_slots_lem;
      keys_ok = λ k.
          record { size = λ u. (key_length _).1 (s.key_lengths k u); bytes_there = s.key_sizes k; descriptor = s.descriptors k; free = s.free_keys k; unused = s.unused_key_bytes k };
      descriptors = λ j k r. s.descriptors_apart j k r.0 r.1 r.2;
    };
    nodes_ok = record {
      inode_slots_lem = s.inode_slots_lem;
      root_is = λ i. record { kind = s.root_directory i; encrypted = s.root_plain i; context = s.no_context_lem 0 s.root_plain i };
      inodes_ok = λ i.
          record {
            kinds = s.kinds i;
            context = λ e.
                record {
                  kind = by_eq (node_at v i).kind 4 (λ q. absurd (true≢false (sym e ∙ s.specials_plain i q))) (λ ne. omega (arith, s.kinds i, ne));
                  valid = (valid _).1 (s.contexts_valid i e);
                };
            descriptor = s.context_descriptors i;
            nonce = s.context_nonces i;
            free = λ z. s.free_inodes i (eq-eqb _ 0 z);
            bare = s.no_context_lem i;
          };
      nonces = λ i j r. s.nonces_apart i j r.0 r.1 r.2;
    };
    joined = record {
      entry_slots_lem = s.entry_slots_lem;
      entries_ok = λ e u.
          let x = slot_at v e in
          record {
            directory = s.parents e u;
            holds = eqb-false _ _ (s.inodes_in_use e u);
            not_root = s.root_unheld e u;
            policy = s.policies e u;
            name = record { some = (s.name_lengths e u).0; fits = (s.name_lengths e u).1; plain = λ f. (name_check_fine _).1 (s.plain_names e u f); sealed = s.encrypted_lengths e u };
            slot = λ i.
                record {
                  len = sym (s.name_sizes e) i;
                  parent = x.parent;
                  inode = x.inode;
                  name = (s.unused_name_bytes e ∙ ap (λ (n : ℕ). name_of x ++ zeros (255 - n)) (sym (s.name_sizes e))) i;
                };
          };
      free_entries = s.free_entries;
      names = λ a b r. s.names_apart a b r.0 r.1 (ap num r.2) r.3;
      nodes = λ a b r. s.one_entry a b r.0 r.1 (ap num r.2) r.3;
    };
  }

  pub sound_inv : Inv v
  sound_inv = record {
    core = sound_core;
    held = has_holder;
    tree = λ i k. below_rooted v (num i) (s.reachable (num i) k);
  }

-- ---- the fresh volume

fresh_key : (k : ℕ) → key_at fresh k ≡ no_key
unfolding fresh
fresh_key k = all_same key_slots k no_key

fresh_entry : (e : ℕ) → slot_at fresh e ≡ no_entry
unfolding fresh
fresh_entry e = all_same entry_slots e no_entry

fresh_sizes : (length fresh.keys ≡ key_slots) × (length fresh.inodes ≡ inode_slots) × (length fresh.entries ≡ entry_slots)
unfolding fresh
fresh_sizes = (refl, refl, refl)

-- an inode of the fresh volume is the root or none
by_inode : (P : ℕ → Inode → Type 0) → P 0 (plain_inode 1) → ((i : ℕ) → P (suc i) no_inode) → (i : ℕ) → P i (node_at fresh i)
unfolding fresh
by_inode P r n zero = r
by_inode P r n (suc i) = subst (P (suc i)) (sym (all_same (inode_slots - 1) i no_inode)) (n i)

pub fresh_unused : (e : ℕ) → is_vacant (slot_at fresh e) ≡ false → ⊥
fresh_unused e u = true≢false (sym (ap is_vacant (fresh_entry e)) ∙ u)

fresh_inv : Inv fresh
fresh_inv = record {
  core = record {
    keyring_ok = record {
      key_slots_lem = fresh_sizes.0;
      keys_ok = λ k. subst KeyOk (sym (fresh_key k)) no_key_ok;
      descriptors = λ j k r. absurd (true≢false (sym (ap is_free_key (fresh_key j)) ∙ r.0));
    };
    nodes_ok = record {
      inode_slots_lem = fresh_sizes.1;
      root_is = by_inode (λ i n. i ≡ 0 → n ≡ plain_inode 1) (λ z. refl) (λ i z. absurd (omega arith)) 0 refl;
      inodes_ok = by_inode (λ i n. InodeOk n) (plain_ok 1 (λ z. absurd (omega arith)) (omega arith)) (λ i. no_inode_ok);
      nonces = λ i j r. absurd (by_inode (λ k n. n.encrypted ≡ true → ⊥) false≢true (λ k. false≢true) i r.0);
    };
    joined = record {
      entry_slots_lem = fresh_sizes.2;
      entries_ok = λ e u. absurd (fresh_unused e u);
      free_entries = λ e u. fresh_entry e;
      names = λ a b r. absurd (fresh_unused a r.0);
      nodes = λ a b r. absurd (fresh_unused a r.0);
    };
  };
  held = λ i iz k. absurd (by_inode (λ j n. j ≢ 0 → n.kind ≢ 0 → ⊥) (λ z m. z refl) (λ j z m. m refl) i iz k);
  tree = by_inode (λ i n. n.kind ≡ 1 → (k : ℕ) × Up fresh.entries Any k i) (λ e. (0, refl)) (λ i e. absurd (omega arith));
}

pub fresh_sound : Sound fresh
fresh_sound = inv_sound fresh fresh_inv

-- ---- requests and runs

module _ (C : Cipher) (law : Lawful C) where
  effect_keeps : (v : Volume) → Inv v → {r : Request} → Touches r → Typed r → check C v r ≡ fine → Inv (effect C v r).volume
  unfolding check effect
  effect_keeps v ok (asks answers leaves unnaming) t h = subst Inv (sym (leaves C v)) ok
  effect_keeps v ok (adds_key d k) t h = add_key_keeps C v ok d k t.0 h
  effect_keeps v ok (removes_key d) t h = remove_key_keeps C v ok d
  effect_keeps v ok (sets_policy i p x) t h = set_policy_keeps C v ok i p x t.1 h
  effect_keeps v ok (creates p kind n x) t h = create_keeps C law v ok p kind n x t.1 h
  effect_keeps v ok (links i p n) t h = link_keeps C law v ok i p n h
  effect_keeps v ok (renames e p n) t h = rename_keeps C law v ok e p n h
  effect_keeps v ok (exchanges a b) t h = exchange_keeps C v ok a b h
  effect_keeps v ok (removes e) t h = remove_keeps C v ok e h

  -- any request keeps any sound volume sound
  pub sound_kept : (v : Volume) → Sound v → (r : Request) → Typed r → Sound (step C v r).volume
  sound_kept v s r t = volume_has C v r Sound s (λ h. inv_sound (effect C v r).volume (effect_keeps v (sound_inv v s) (touches r) t h))

  -- every volume of every run that starts fresh is sound
  pub sound : (rs : List Request) → AllTyped rs → (m : Moment) → Memᴰ m (run C rs) → Sound m.volume
  sound = kept_always C Sound fresh_sound sound_kept

  -- demand 2: "at no time does one stand there"
  pub at_no_time : (rs : List Request) → AllTyped rs → (m : Moment) → Memᴰ m (run C rs) → (e : ℕ) → Used m.volume e
      → (dir_of m.volume e).encrypted ≡ true → (node_of m.volume e).kind ≤ 3 → BearsPolicy (dir_of m.volume e) (node_of m.volume e)
  at_no_time rs t m h = (sound rs t m h).policies

-- ---- the climb's budget

-- the climb from a directory meets the moved one or the root before its steps run out
pub budget : (v : Volume) → Sound v → (moved p : InodeNumber) → (inode_at v p).kind ≡ 1 → climb_from v moved inode_slots p ≢ Neither
budget v s moved p k q =
    let ok = sound_inv v s in
    let r = ok.tree p.0 k in
    let b = up_short v ok.core Any r.0 p.0 k r.1 in
    true≢false (sym (climb_ends v ok.core Any moved inode_slots r.0 p.0 (omega arith) k r.1) ∙ ap has_ended q)

-- the climb from a directory meets the root, where it looks for a number that no inode has
pub climb_meets_root : (v : Volume) → Sound v → (i : ℕ) → (node_at v i).kind ≡ 1 → climb_from v (num inode_slots) inode_slots (num i) ≡ Root
climb_meets_root v s i k =
    let c = (sound_inv v s).core in
    let r = (sound_inv v s).tree i k in
    let b = up_short v c Any r.0 i k r.1 in
    climb_root v c Any (num inode_slots) (λ j kj q. absurd (omega (arith, in_range v c j (one≢zero kj), q))) inode_slots r.0 i (omega arith) k r.1
