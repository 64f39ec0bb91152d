-- What a request does to the stored name of an entry that is in use after it: it gave the entry this name and stored it under the key that is on the keyring, or it
-- left the stored name and the entry's directory as they were. Assumes nothing.
use Prim.Native.Nat.{ℕ, ◌<◌}
use native.Mathlib.Omega.{arith}
use mathlib.Core.Path.{◌≡◌, refl, sym, ◌∙◌, ap, subst}
use mathlib.Core.Bool.{false}
use mathlib.Core.List.{List}
use mathlib.Core.Option.{Option, some, none}
use lib.ListN.{length, get_or, set}
use lib.Seq.{get_or-set_same, get_or-set_other}
use Rattle.lists.specs.Bytes.{Bytes, ByteList}
use Rattle.lists.proofs.Tests.{if_true, if_false, eqb_self, eqb_other}
use Rattle.lists.proofs.Slots.{by_eq, by_cond}
use Rattle.fscrypt.specs.Cipher.{Cipher, Lawful}
use Rattle.fscrypt.specs.Names.{name_check}
use Rattle.volume.specs.Volume.{no_inode, no_entry, name_of, entry_slot}
use Rattle.volume.specs.Request.{Request, set_policy, create, link, rename, exchange, remove, Outcome, Typed}
use Rattle.volume.specs.Lookup.{lacks_key, inode_at, free_inode, entry_at, is_vacant, free_entry, is_held, Used, node_at, slot_at, dir_of}
use Rattle.volume.specs.DirectoryNames.{stored}
use Rattle.volume.specs.Checks.{set_policy_check, create_check, link_check, rename_check, exchange_check, remove_check}
use Rattle.volume.specs.Step.{child_of, without_unheld, check, effect, step}
use Rattle.volume.specs.Sound.{Sound}
use Rattle.volume.specs.GivenNames.{nothing, naming, only_at, named, named_by}
use Rattle.ids.specs.declared.InodeNumber.{InodeNumber}
use Rattle.ids.specs.declared.EntryNumber.{EntryNumber}
use Rattle.volume.specs.declared.Inode.{Inode}
use Rattle.volume.specs.declared.Entry.{Entry}
use Rattle.volume.specs.declared.Volume.{Volume}
use Rattle.volume.proofs.Kept.{step_has}
use Rattle.volume.proofs.Touching.{Touches, asks, adds_key, removes_key, sets_policy, creates, links, renames, exchanges, removes, touches, unnamed}
use Rattle.volume.proofs.SoundCore.{node_in, slot_name, none_in}
use Rattle.volume.proofs.SoundClimb.{num}
use Rattle.volume.proofs.SoundInvariant.{one≢zero, used_range}
use Rattle.volume.proofs.Passed.{create_passed, link_passed, rename_passed, set_policy_passed, exchange_passed, remove_passed}
use Rattle.volume.proofs.SoundCreate.{free_kept}
use Rattle.volume.proofs.SoundExchange.{look}
use Rattle.volume.proofs.SoundRemove.{left_other, left_same}
use Rattle.volume.proofs.Soundness.{sound_inv}
use Rattle.volume.proofs.StoredNames.{stored_same, held_same}
use Rattle.errno.specs.Refusals.{fine}

-- of an entry e in use on w, the volume that a request left of v, which gave e the name o if any
pub data Since (C : Cipher) (v w : Volume) (o : Option Bytes) (e : ℕ) : Type 0 where
  stayed : o ≡ none → Used v e → name_of (slot_at w e) ≡ name_of (slot_at v e) → dir_of w e ≡ dir_of v e → Since C v w o e
  gained : (n : Bytes) → o ≡ some n → name_check n ≡ fine → ByteList n → name_of (slot_at w e) ≡ stored C w (dir_of w e) n → lacks_key w (dir_of w e) ≡ false → Since C v w o e

module _ (C : Cipher) (law : Lawful C) (v : Volume) (s : Sound v) where
  -- what is claimed of each request that is done
  abbrev Leaves : Request → Type 0
  Leaves r = (j : ℕ) → Used (effect C v r).volume j → Since C v (effect C v r).volume (named_by r (effect C v r).answer j) j

  -- ---- an entry is stored

  module _ (is : List Inode) (e : ℕ) (p i : InodeNumber) (n : Bytes) (room : e < length v.entries) (good : name_check n ≡ fine) (bytes : ByteList n) (held : lacks_key v (inode_at v p) ≡ false)
      (there : node_in is p.0 ≡ inode_at v p) (others : (j : ℕ) → Used v j → node_in is (slot_at v j).parent.0 ≡ dir_of v j) where
    abbrev new : Entry
    new = entry_slot p i (stored C v (inode_at v p) n)

    abbrev es : List Entry
    es = set v.entries e new

    abbrev w : Volume
    w = record { keys = v.keys; inodes = is; entries = es }

    stored_since : (j : ℕ) → Used w j → Since C v w (only_at (record { 0 = e }) n j) j
    stored_since j u =
        by_eq j e
        (λ q.
        subst (λ (m : ℕ). Since C v w (only_at (record { 0 = e }) n m) m) (sym q)
        (gained n (if_true _ _ (eqb_self e)) good bytes
        (ap name_of here ∙ slot_name p i (stored C v (inode_at v p) n) ∙ sym (stored_same C v is es (inode_at v p) n) ∙ ap (λ (d : Inode). stored C w d n) (sym dir))
        (ap (lacks_key w) dir ∙ held_same C v is es (inode_at v p) ∙ held)))
        (λ ne.
        let same : slot_at w j ≡ slot_at v j = get_or-set_other v.entries e j new no_entry ne in
        let used : Used v j = ap is_vacant (sym same) ∙ u in
        stayed (if_false _ _ (eqb_other j e ne)) used (ap name_of same) (ap (λ (x : Entry). node_in is x.parent.0) same ∙ others j used))
      where
        here : slot_at w e ≡ new
        here = get_or-set_same v.entries e new no_entry room

        dir : dir_of w e ≡ inode_at v p
        dir = ap (λ (x : Entry). node_in is x.parent.0) here ∙ there

  create_since : (p : InodeNumber) (kind : ℕ) (n x : Bytes) → ByteList n → create_check C v p kind n x ≡ fine → Leaves (create p kind n x)
  unfolding effect named_by naming named
  create_since p kind n x bytes h =
      let c = create_passed C v p kind n x h in
      stored_since _ (free_entry v) p (num (free_inode v)) n (omega (arith, c.entry_room, s.entry_slots_lem)) c.name bytes c.key (other p.0 c.directory)
      (λ j u. other (slot_at v j).parent.0 (s.parents j u))
    where
      other : (j : ℕ) → (node_at v j).kind ≡ 1 → node_in (set v.inodes (free_inode v) (child_of (inode_at v p) kind x)) j ≡ node_at v j
      other j k = free_kept v (child_of (inode_at v p) kind x) j (one≢zero k)

  link_since : (i p : InodeNumber) (n : Bytes) → ByteList n → link_check C v i p n ≡ fine → Leaves (link i p n)
  unfolding effect named_by naming named
  link_since i p n bytes h =
      let c = link_passed C v i p n h in
      stored_since v.inodes (free_entry v) p i n (omega (arith, c.entry_room, s.entry_slots_lem)) c.name bytes c.key refl (λ j u. refl)

  rename_since : (e : EntryNumber) (p : InodeNumber) (n : Bytes) → ByteList n → rename_check C v e p n ≡ fine → Leaves (rename e p n)
  unfolding effect named_by naming named
  rename_since e p n bytes h =
      let c = rename_passed C v e p n h in
      stored_since v.inodes e.0 p (entry_at v e).inode n (used_range v.entries e.0 c.entry) c.name bytes c.key refl (λ j u. refl)

  -- ---- names and directories stay

  asked_since : (r : Request) → (effect C v r).volume ≡ v → naming r ≡ nothing → Leaves r
  asked_since r leaves unnaming j u =
      stayed (unnamed r (effect C v r).answer j unnaming) (subst (λ (w : Volume). Used w j) leaves u) (ap (λ (w : Volume). name_of (slot_at w j)) leaves)
      (ap (λ (w : Volume). dir_of w j) leaves)

  set_policy_since : (i : InodeNumber) (p x : Bytes) → set_policy_check v i p x ≡ fine → Leaves (set_policy i p x)
  unfolding effect named_by naming named
  set_policy_since i p x h =
      let c = set_policy_passed v i p x h in
      by_cond (λ (w : Volume). (j : ℕ) → Used w j → Since C v w none j) (inode_at v i).encrypted _ _
      (λ t j u. stayed refl u refl refl)
      (λ t j u.
      stayed refl u refl (get_or-set_other v.inodes i.0 (slot_at v j).parent.0 _ no_inode (none_in v s.entry_slots_lem i (c.first t).empty j u)))

  exchange_since : (a b : EntryNumber) → exchange_check v a b ≡ fine → Leaves (exchange a b)
  unfolding effect named_by naming named
  exchange_since a b h j u =
      let c = exchange_passed v a b h in
      let q = look v (sound_inv v s) a.0 b.0 c.one c.other j in
      stayed refl (ap is_vacant (sym q) ∙ u) (ap name_of q) (ap (λ (x : Entry). inode_at v x.parent) q)

  remove_since : (e : EntryNumber) → remove_check v e ≡ fine → Leaves (remove e)
  unfolding effect without_unheld named_by naming named
  remove_since e h j u =
      let c = remove_passed v e h in
      let gone = (entry_at v e).inode in
      let q = left_same v (sound_inv v s) e.0 c.entry c.empty j (left_other v (sound_inv v s) e.0 c.entry c.empty j u) in
      let used : Used v j = ap is_vacant (sym q) ∙ u in
      stayed refl used (ap name_of q)
      (by_cond (λ (is : List Inode). node_in is (get_or (set v.entries e.0 no_entry) j no_entry).parent.0 ≡ dir_of v j) (is_held _ gone) _ _
      (λ t. ap (λ (x : Entry). inode_at v x.parent) q)
      (λ t.
      ap (λ (x : Entry). node_in (set v.inodes gone.0 no_inode) x.parent.0) q
      ∙ get_or-set_other v.inodes gone.0 (slot_at v j).parent.0 no_inode no_inode (none_in v s.entry_slots_lem gone c.empty j used)))

  since : {r : Request} → Touches r → Typed r → check C v r ≡ fine → Leaves r
  unfolding check effect named_by naming named
  since (asks {r} answers leaves unnaming) t h = asked_since r (leaves C v) unnaming
  since (adds_key d k) t h = λ j u. stayed refl u refl refl
  since (removes_key d) t h = λ j u. stayed refl u refl refl
  since (sets_policy i p x) t h = set_policy_since i p x h
  since (creates p kind n x) t h = create_since p kind n x t.0 h
  since (links i p n) t h = link_since i p n t h
  since (renames e p n) t h = rename_since e p n t h
  since (exchanges a b) t h = exchange_since a b h
  since (removes e) t h = remove_since e h

-- ---- a refusal leaves all as it was

pub step_since : (C : Cipher) → Lawful C → (v : Volume) → Sound v → (r : Request) → Typed r
    → (j : ℕ) → Used (step C v r).volume j → Since C v (step C v r).volume (named_by r (step C v r).answer j) j
unfolding named_by
step_since C law v s r t =
    step_has C v r (λ (o : Outcome). (j : ℕ) → Used o.volume j → Since C v o.volume (named_by r o.answer j) j) (λ e j u. stayed refl u refl refl)
    (since C law v s (touches r) t)
