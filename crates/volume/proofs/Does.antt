-- Each request that was done has done what specs/Does.antt says: its check was passed, so that the slots it writes are within their tables; there a store is read back,
-- and every other slot reads as before. Assumes nothing.
use Prim.Native.Nat.{ℕ, ◌-◌, ◌≤◌, ◌<◌}
use native.Mathlib.Omega.{arith}
use mathlib.Core.Path.{◌≡◌, refl, sym, ◌∙◌, ap, subst, subst₂}
use mathlib.Core.Logic.{◌≢◌, ◌↔◌}
use mathlib.Core.Bool.{true, true≢false}
use mathlib.Core.Option.{none}
use mathlib.Core.List.{List}
use lib.ListN.{length, get_or, set, length-set}
use lib.Seq.{get_or-set_same, get_or-set_other, set-get_or, take-append_seam}
use Rattle.lists.specs.Bytes.{Bytes, zeros}
use Rattle.lists.proofs.Tests.{eqb_other}
use Rattle.lists.proofs.Tables.{all_set}
use Rattle.lists.proofs.Slots.{by_eq, by_cond}
use Rattle.lists.proofs.Searches.{some_found}
use Rattle.errno.specs.Refusals.{fine, number}
use Rattle.policy.specs.Policies.{read_policy, policy_in}
use Rattle.policy.specs.Meanings.{PolicyIn}
use Rattle.fscrypt.specs.Cipher.{Cipher}
use Rattle.volume.specs.Volume.{key_slots, inode_slots, entry_slots, no_key, no_inode, no_entry, encrypted_inode, key_slot, entry_slot, key_bytes, name_of}
use Rattle.volume.specs.Request.{Request, add_key, remove_key, set_policy, create, link, rename, exchange, remove, Answer, done, created, at, refusal_in, Outcome}
use Rattle.volume.specs.Lookup.{key_slot_of, free_key_slot, inode_at, free_inode, entry_at, free_entry, is_link, first_link, is_held, key_at, slot_at}
use Rattle.volume.specs.DirectoryNames.{stored}
use Rattle.volume.specs.Checks.{is_bad_key_length, is_nonce_needed}
use Rattle.volume.specs.Step.{with_keys, with_inodes, with_entries, child_of, with_inode, without_unheld, check, effect, step}
use Rattle.volume.specs.Sound.{EntryOf, Sound}
use Rattle.volume.specs.Meanings.{KeyIn}
use Rattle.volume.specs.Does.{OtherEntriesStay, KeyAdded, KeyRemoved, PolicySet, WithoutContext, Inherits, Created, Linked, Joins, Holds, Exchanged, Removed, Renamed, Does}
use Rattle.ids.specs.declared.InodeNumber.{InodeNumber}
use Rattle.ids.specs.declared.EntryNumber.{EntryNumber}
use Rattle.volume.specs.declared.Key.{Key}
use Rattle.volume.specs.declared.Inode.{Inode}
use Rattle.volume.specs.declared.Entry.{Entry}
use Rattle.volume.specs.declared.Volume.{Volume}
use Rattle.volume.proofs.Kept.{refusal≢none, step_has}
use Rattle.volume.proofs.SoundCore.{slot_name}
use Rattle.volume.proofs.SoundInvariant.{used_range, kind_range, child_kind}
use Rattle.volume.proofs.Passed.{add_key_passed, remove_key_passed, set_policy_passed, create_passed, link_passed, exchange_passed, rename_passed, remove_passed}
use Rattle.volume.proofs.Meanings.{links, meanings}
use Rattle.volume.proofs.PlainMeanings.{plain_meanings}
use Rattle.volume.proofs.DoneWhenLines.{policy_read}

-- ---- done, so not refused

-- what holds of the effect where the check was passed and this was answered
once_done : (C : Cipher) (v : Volume) (r : Request) (a : Answer) (P : Volume → Type 0) → refusal_in a ≡ none → (step C v r).answer ≡ a
    → (check C v r ≡ fine → (effect C v r).answer ≡ a → P (effect C v r).volume) → P (step C v r).volume
once_done C v r a P answers h f = step_has C v r (λ (o : Outcome). o.answer ≡ a → P o.volume) (λ e q. absurd (refusal≢none (number e) (ap refusal_in q ∙ answers))) f h

-- a store within a table of n slots is read back
read_back : {A : Type 0} (l : List A) (d : A) (n : ℕ) → length l ≡ n → (i : ℕ) (x : A) → i < n → get_or (set l i x) i d ≡ x
read_back l d n size i x h = get_or-set_same l i x d (subst (λ (m : ℕ). i < m) (sym size) h)

-- ---- keys

module _ (C : Cipher) (v : Volume) (s : Sound v) where
  key_added : (d k : Bytes) → (step C v (add_key d k)).answer ≡ done → KeyAdded v (step C v (add_key d k)).volume d k
  unfolding check effect is_bad_key_length
  key_added d k h =
      once_done C v (add_key d k) done (λ w. KeyAdded v w d k) refl h
      (λ fine q.
      let c = add_key_passed v d (length k) fine in
      let there = read_back v.keys no_key key_slots s.key_slots_lem (free_key_slot v) (key_slot d k) c.room in
      record {
        slot = free_key_slot v;
        lowest = ((meanings v s).lowest_key_slot (free_key_slot v) c.room).0 refl;
        added = record {
          in_use = λ z. true≢false (sym (ap is_bad_key_length (ap (λ (x : Key). x.len) (sym there) ∙ z)) ∙ c.size);
          descriptor = ap (λ (x : Key). x.descriptor) there;
        };
        bytes = ap key_bytes there ∙ take-append_seam k (zeros (64 - length k));
        unused = ap (λ (x : Key). x.bytes) there;
        others = λ j ne. get_or-set_other v.keys (free_key_slot v) j (key_slot d k) no_key ne;
        inodes = refl;
        entries = refl;
      })

  -- a descriptor is on the keyring once, so that with its slot it goes
  removes_key : (d : Bytes) (k : ℕ) → k < key_slots → KeyIn v d k → KeyRemoved v (with_keys v (set v.keys k no_key)) d
  removes_key d k room held = record {
    slot = k;
    held = held;
    freed = there;
    gone = λ r.
        let j = r.0 in
        let w = r.1 in
        by_eq j k (λ q. w.in_use (ap (λ (n : ℕ). (get_or (set v.keys k no_key) n no_key).len) q ∙ ap (λ (x : Key). x.len) there))
        (λ ne.
        let same = other j ne in
        ne (s.descriptors_apart j k
        (eqb_other _ 0 (λ z. w.in_use (ap (λ (x : Key). x.len) same ∙ z)))
        (eqb_other _ 0 held.in_use)
        (ap (λ (x : Key). x.descriptor) (sym same) ∙ w.descriptor ∙ sym held.descriptor)));
    others = other;
    inodes = refl;
    entries = refl;
  }
    where
      there : get_or (set v.keys k no_key) k no_key ≡ no_key
      there = read_back v.keys no_key key_slots s.key_slots_lem k no_key room

      other : (j : ℕ) → j ≢ k → get_or (set v.keys k no_key) j no_key ≡ key_at v j
      other j ne = get_or-set_other v.keys k j no_key no_key ne

  key_removed : (d : Bytes) → (step C v (remove_key d)).answer ≡ done → KeyRemoved v (step C v (remove_key d)).volume d
  unfolding check effect
  key_removed d h =
      once_done C v (remove_key d) done (λ w. KeyRemoved v w d) refl h
      (λ fine q.
      let room = remove_key_passed v d fine in
      removes_key d (key_slot_of v d) room (((meanings v s).key_slot_lem d (key_slot_of v d) room).0 refl).holds)

-- ---- contexts

module _ (C : Cipher) (v : Volume) where
  policy_set : (i : InodeNumber) (p x : Bytes) → (step C v (set_policy i p x)).answer ≡ done → PolicySet v (step C v (set_policy i p x)).volume i p x
  unfolding check effect
  policy_set i p x h =
      once_done C v (set_policy i p x) done (λ w. PolicySet v w i p x) refl h
      (λ fine q.
      let c = set_policy_passed v i p x fine in
      let new = encrypted_inode 1 (policy_in (read_policy p)) x in
      let there = get_or-set_same v.inodes i.0 new no_inode (kind_range v.inodes i.0 c.inode) in
      by_cond (λ (w : Volume). PolicySet v w i p x) (inode_at v i).encrypted v (with_inodes v (set v.inodes i.0 new))
      (λ t. record { equal = λ e. refl; first = λ f. absurd (true≢false (sym t ∙ f)) })
      (λ f.
      record {
        equal = λ t. absurd (true≢false (sym t ∙ f));
        first = λ e.
            record {
              directory = ap (λ (n : Inode). n.kind) there;
              encrypted = ap (λ (n : Inode). n.encrypted) there;
              policy = subst (λ (n : Inode). PolicyIn p n.context.policy) (sym there) ((policy_read p (policy_in (read_policy p))).0 (c.policy, refl)).0;
              nonce_given = ap (λ (n : Inode). n.context.nonce) there;
              others = λ j ne. get_or-set_other v.inodes i.0 j new no_inode ne;
              entries = refl;
              keys = refl;
            };
      }))

module _ (dir : Inode) (kind : ℕ) (x : Bytes) where
  child_inherits : dir.encrypted ≡ true → kind ≤ 3 → Inherits dir (child_of dir kind x) x
  unfolding child_of
  child_inherits =
      by_cond (λ (n : Inode). dir.encrypted ≡ true → kind ≤ 3 → Inherits dir n x) (is_nonce_needed dir kind) _ _
      (λ t e k. record { bears = record { has_context = refl; same = refl }; nonce_given = refl })
      (λ f e k. absurd (true≢false (sym ((plain_meanings.nonce_needed dir kind).1 (e, k)) ∙ f)))

  child_without : ((dir.encrypted ≡ true) × (kind ≤ 3) → ⊥) → WithoutContext (child_of dir kind x)
  unfolding child_of
  child_without =
      by_cond (λ (n : Inode). ((dir.encrypted ≡ true) × (kind ≤ 3) → ⊥) → WithoutContext n) (is_nonce_needed dir kind) _ _
      (λ t none. absurd (none ((plain_meanings.nonce_needed dir kind).0 t)))
      (λ f none. record { no_encryption = refl; no_context_lem = refl })

-- ---- directory entries

-- a slot that was written by `entry_slot`
joins : (w : Volume) (e : ℕ) (p i : InodeNumber) (s : Bytes) → slot_at w e ≡ entry_slot p i s → Joins w e p i s
joins w e p i s q = record {
  parent = ap (λ (x : Entry). x.parent) q;
  inode = ap (λ (x : Entry). x.inode) q;
  name = ap name_of q ∙ slot_name p i s;
  len = ap (λ (x : Entry). x.len) q;
  unused = ap (λ (x : Entry). x.name) q;
}

holds : (x y : Entry) (i : InodeNumber) → y ≡ with_inode x i → Holds x y i
holds x y i q = record {
  inode = ap (λ (z : Entry). z.inode) q;
  parent = ap (λ (z : Entry). z.parent) q;
  len = ap (λ (z : Entry). z.len) q;
  name = ap (λ (z : Entry). z.name) q;
}

-- the first of two stores is read back, unless the second is of something else in its slot
first_read : {A : Type 0} (l : List A) (d : A) (a b : ℕ) (x y : A) → a < length l → (a ≡ b → y ≡ x) → get_or (set (set l a x) b y) a d ≡ x
first_read l d a b x y h s =
    by_eq a b
    (λ q.
    subst (λ (n : ℕ). get_or (set (set l a x) n y) a d ≡ x) q (get_or-set_same (set l a x) a y d (subst (λ (n : ℕ). a < n) (sym (length-set l a x)) h) ∙ s q))
    (λ ne. get_or-set_other (set l a x) b a y d ne ∙ get_or-set_same l a x d h)

module _ (v : Volume) (a b : ℕ) (ia : a < length v.entries) (ib : b < length v.entries) where
  -- an entry with the inode of another
  abbrev taking : ℕ → ℕ → Entry
  taking m n = with_inode (slot_at v m) (slot_at v n).inode

  abbrev once : List Entry
  once = set v.entries a (taking a b)

  swaps : Exchanged v (with_entries v (set once b (taking b a))) a b
  swaps = record {
    one = holds _ _ _ (first_read v.entries no_entry a b (taking a b) (taking b a) ia (λ q. ap (λ (n : ℕ). taking n a) (sym q) ∙ ap (taking a) q));
    other = holds _ _ _ (get_or-set_same once b (taking b a) no_entry (subst (λ (n : ℕ). b < n) (sym (length-set v.entries a (taking a b))) ib));
    others = λ j na nb. get_or-set_other once b j (taking b a) no_entry nb ∙ get_or-set_other v.entries a j (taking a b) no_entry na;
    inodes = refl;
    keys = refl;
    itself = λ q.
        ap (λ (x : Entry). with_entries v (set (set v.entries a x) b (taking b a))) (ap (with_inode (slot_at v a)) (sym q))
        ∙ ap (λ (l : List Entry). with_entries v (set l b (taking b a))) (set-get_or v.entries a no_entry)
        ∙ ap (λ (x : Entry). with_entries v (set v.entries b x)) (ap (with_inode (slot_at v b)) q)
        ∙ ap (with_entries v) (set-get_or v.entries b no_entry);
  }

module _ (v : Volume) (s : Sound v) (e : ℕ) (ie : e < length v.entries) where
  abbrev gone : InodeNumber
  gone = (slot_at v e).inode

  -- once the entry is free
  abbrev left : Volume
  left = with_entries v (set v.entries e no_entry)

  left_other : OtherEntriesStay v left e
  left_other j ne = get_or-set_other v.entries e j no_entry no_entry ne

  left_free : slot_at left e ≡ no_entry
  left_free = get_or-set_same v.entries e no_entry no_entry ie

  -- an entry that still holds the inode is another
  still : (is_held left.entries gone ≡ true) ↔ ((j : ℕ) × EntryOf left gone j)
  unfolding first_link
  still =
      some_found (is_link gone) left.entries no_entry entry_slots (length-set v.entries e no_entry ∙ s.entry_slots_lem) (EntryOf left gone) (links left gone) refl

  holder : (j : ℕ) → EntryOf left gone j → (j ≢ e) × EntryOf v gone j
  holder j w =
      let ne : j ≢ e = λ q. w.in_use (ap (λ (n : ℕ). (slot_at left n).len) q ∙ ap (λ (x : Entry). x.len) left_free) in
      let same = left_other j ne in (
        ne,
        record { in_use = λ z. w.in_use (ap (λ (x : Entry). x.len) same ∙ z); inode = ap (λ (x : Entry). x.inode) (sym same) ∙ w.inode },
      )

  holder_back : (j : ℕ) → j ≢ e → EntryOf v gone j → EntryOf left gone j
  holder_back j ne w =
      let same = left_other j ne in
      record { in_use = λ z. w.in_use (ap (λ (x : Entry). x.len) (sym same) ∙ z); inode = ap (λ (x : Entry). x.inode) same ∙ w.inode }

  abbrev without : List Inode → Volume
  without is = record { keys = v.keys; inodes = is; entries = left.entries }

  removes : Removed v (without (without_unheld v.inodes left.entries gone)) e
  unfolding without_unheld
  removes =
      by_cond (λ (is : List Inode). Removed v (without is) e) (is_held left.entries gone) v.inodes (set v.inodes gone.0 no_inode)
      (λ t.
      let w = still.0 t in
      let x = holder w.0 w.1 in
      record { freed = left_free; others = left_other; last = λ none. absurd (none w.0 x.0 x.1); not_last = λ j ne y. refl; inodes = λ j ne. refl; keys = refl })
      (λ f.
      record {
        freed = left_free;
        others = left_other;
        last = λ none. put_free gone.0;
        not_last = λ j ne y. absurd (true≢false (sym (still.1 (j, holder_back j ne y)) ∙ f));
        inodes = λ j ne. get_or-set_other v.inodes gone.0 j no_inode no_inode ne;
        keys = refl;
      })
    where
      -- past the end stands a free record too
      put_free : (i : ℕ) → get_or (set v.inodes i no_inode) i no_inode ≡ no_inode
      put_free i = all_set (λ n x. n ≡ i → x ≡ no_inode) v.inodes no_inode i no_inode (λ n q. refl) (λ n ne q. absurd (ne q)) (λ q. refl) i refl

module _ (C : Cipher) (v : Volume) where
  exchanged : (a b : EntryNumber) → (step C v (exchange a b)).answer ≡ done → Exchanged v (step C v (exchange a b)).volume a.0 b.0
  unfolding check effect
  exchanged a b h =
      once_done C v (exchange a b) done (λ w. Exchanged v w a.0 b.0) refl h
      (λ fine q.
      let c = exchange_passed v a b fine in
      swaps v a.0 b.0 (used_range v.entries a.0 c.one) (used_range v.entries b.0 c.other))

  renamed : (e : EntryNumber) (p : InodeNumber) (n : Bytes) → (step C v (rename e p n)).answer ≡ done → Renamed C v (step C v (rename e p n)).volume e p n
  unfolding check effect
  renamed e p n h =
      once_done C v (rename e p n) done (λ w. Renamed C v w e p n) refl h
      (λ fine q.
      let new = entry_slot p (entry_at v e).inode (stored C v (inode_at v p) n) in
      record {
        entry = joins _ _ _ _ _ (get_or-set_same v.entries e.0 new no_entry (used_range v.entries e.0 (rename_passed C v e p n fine).entry));
        others = λ j ne. get_or-set_other v.entries e.0 j new no_entry ne;
        inodes = refl;
        keys = refl;
      })

  linked : Sound v → (i p : InodeNumber) (n : Bytes) (e : EntryNumber) → (step C v (link i p n)).answer ≡ at e
      → Linked C v (step C v (link i p n)).volume i p n e
  unfolding check effect
  linked s i p n e h =
      once_done C v (link i p n) (at e) (λ w. Linked C v w i p n e) refl h
      (λ fine q.
      let number : record { 0 = free_entry v } ≡ e = cc q in
      let new = entry_slot p i (stored C v (inode_at v p) n) in
      let w = with_entries v (set v.entries (free_entry v) new) in
      subst (Linked C v w i p n) number
      (record {
        entry = joins w _ _ _ _ (read_back v.entries no_entry entry_slots s.entry_slots_lem (free_entry v) new (link_passed C v i p n fine).entry_room);
        others = λ j ne. get_or-set_other v.entries (free_entry v) j new no_entry ne;
        inodes = refl;
        keys = refl;
      }))

  created_so : Sound v → (p : InodeNumber) (kind : ℕ) (n x : Bytes) (i : InodeNumber) (e : EntryNumber) → (step C v (create p kind n x)).answer ≡ created i e
      → Created C v (step C v (create p kind n x)).volume p kind n x i e
  unfolding check effect
  created_so s p kind n x i e h =
      once_done C v (create p kind n x) (created i e) (λ w. Created C v w p kind n x i e) refl h
      (λ fine q.
      let c = create_passed C v p kind n x fine in
      let inode : record { 0 = free_inode v } ≡ i = cc q in
      let entry : record { 0 = free_entry v } ≡ e = cc q in
      let dir = inode_at v p in
      let child = child_of dir kind x in
      let new = entry_slot p (record { 0 = free_inode v }) (stored C v dir n) in
      let w : Volume = record { keys = v.keys; inodes = set v.inodes (free_inode v) child; entries = set v.entries (free_entry v) new } in
      let there = read_back v.inodes no_inode inode_slots s.inode_slots_lem (free_inode v) child c.inode_room in
      subst₂ (Created C v w p kind n x) inode entry
      (record {
        kind_given = ap (λ (y : Inode). y.kind) there ∙ child_kind dir kind x;
        inherits = λ t k. subst (λ (y : Inode). Inherits dir y x) (sym there) (child_inherits dir kind x t k);
        special = λ k. subst WithoutContext (sym there) (child_without dir kind x (λ r. absurd (omega (arith, k, r.1))));
        in_plain = λ f. subst WithoutContext (sym there) (child_without dir kind x (λ r. true≢false (sym r.0 ∙ f)));
        entry = joins w _ _ _ _ (read_back v.entries no_entry entry_slots s.entry_slots_lem (free_entry v) new c.entry_room);
        inodes = λ j ne. get_or-set_other v.inodes (free_inode v) j child no_inode ne;
        others = λ j ne. get_or-set_other v.entries (free_entry v) j new no_entry ne;
        keys = refl;
      }))

  removed : Sound v → (e : EntryNumber) → (step C v (remove e)).answer ≡ done → Removed v (step C v (remove e)).volume e.0
  unfolding check effect
  removed s e h =
      once_done C v (remove e) done (λ w. Removed v w e.0) refl h
      (λ fine q. removes v s e.0 (used_range v.entries e.0 (remove_passed v e fine).entry))

-- ---- the statement

pub does : (C : Cipher) → Does C
does C = record {
  key_added = key_added C;
  key_removed = key_removed C;
  policy_set = λ v s. policy_set C v;
  created_so = created_so C;
  linked = linked C;
  renamed = λ v s. renamed C v;
  exchanged = λ v s. exchanged C v;
  removed = removed C;
}
