-- Each request is done exactly on its occasion; get policy and show answer what was set, inherited or stored, and create, link and find the lowest that is free or
-- the one that was found. A request is refused by its check alone, no effect being a refusal, so that it is done where its table is passed. Assumes nothing.
use Prim.Native.Nat.{ℕ, ◌≤◌, ◌<◌}
use native.Mathlib.Omega.{arith}
use mathlib.Core.Path.{◌≡◌, refl, sym, ◌∙◌, ap, subst}
use mathlib.Core.Logic.{◌≢◌, ◌↔◌}
use mathlib.Core.Bool.{true}
use lib.ListN.{length, set}
use lib.Seq.{get_or-set_same}
use Rattle.lists.specs.Bytes.{Bytes}
use Rattle.lists.proofs.Slots.{by_cond, within}
use Rattle.errno.specs.Refusals.{fine, number}
use Rattle.policy.specs.Policies.{policy_bytes, read_policy, policy_in}
use Rattle.policy.specs.declared.Policy.{Policy}
use Rattle.policy.proofs.Codec.{read_policy_checked, policy_bytes_read_policy}
use Rattle.policy.proofs.Meanings.{same_policy_lem}
use Rattle.fscrypt.specs.Cipher.{Cipher}
use Rattle.volume.specs.Volume.{no_inode, encrypted_inode}
use Rattle.volume.specs.Request.{Request, add_key, remove_key, set_policy, get_policy, create, link, rename, exchange, remove, find, show, seal, unseal, Answer, refused, done, created, at, policy_is, shown, Outcome, ShownEntry}
use Rattle.volume.specs.Lookup.{inode_at, free_inode, entry_at, free_entry, entry_named, dir_of, node_of}
use Rattle.volume.specs.DirectoryNames.{stored, form_in}
use Rattle.volume.specs.Checks.{get_policy_check}
use Rattle.volume.specs.Step.{with_inodes, child_of, check, effect, step}
use Rattle.volume.specs.Sound.{Sound}
use Rattle.volume.specs.Meanings.{Least, InodeFree, EntryFree, EntryNamed, Meanings}
use Rattle.volume.specs.DoneWhen.{Answers, Occasion, Done, DoneWhen}
use Rattle.ids.specs.declared.InodeNumber.{InodeNumber}
use Rattle.ids.specs.declared.EntryNumber.{EntryNumber}
use Rattle.volume.specs.declared.Inode.{Inode}
use Rattle.volume.specs.declared.Volume.{Volume}
use Rattle.volume.proofs.Kept.{step_has, done_by, was_fine, was_done}
use Rattle.errno.proofs.ChainMeanings.{table_passes as line, line_passes as test}
use Rattle.volume.proofs.Passed.{set_policy_passed, create_passed, link_passed, find_passed}
use Rattle.volume.proofs.SoundInvariant.{child_kind, child_policy}
use Rattle.volume.proofs.Touching.{never_refused}
use Rattle.volume.proofs.Meanings.{meanings}
use Rattle.volume.proofs.DoneWhenLines.{negated, differ}
use Rattle.volume.proofs.DoneWhenTables.{add_key_when, remove_key_when, set_policy_when, get_policy_when, create_when, link_when, rename_when, exchange_when, remove_when, find_when, show_when, block_when}

-- ---- done where the table is passed

done_fine : (C : Cipher) (v : Volume) (r : Request) → Done C v r ↔ (check C v r ≡ fine)
done_fine C v r = (
  step_has C v r (λ (o : Outcome). ((n : ℕ) → o.answer ≢ refused n) → check C v r ≡ fine) (λ e f. absurd (f (number e) refl)) (λ k f. k),
  λ k n h. never_refused C v r n (ap (λ (o : Outcome). o.answer) (sym (done_by C v r k)) ∙ h),
)

-- ---- what each answers

module _ (C : Cipher) (v : Volume) where
  its_answer : (r : Request) → Answers r (effect C v r).answer
  unfolding effect
  its_answer (add_key d k) = refl
  its_answer (remove_key d) = refl
  its_answer (set_policy i p x) = refl
  its_answer (get_policy i) = (_, refl)
  its_answer (create p kind n x) = (_, _, refl)
  its_answer (link i p n) = (_, refl)
  its_answer (rename e p n) = refl
  its_answer (exchange a b) = refl
  its_answer (remove e) = refl
  its_answer (find p n) = (_, refl)
  its_answer (show e b) = (_, refl)
  its_answer (seal i n b) = refl
  its_answer (unseal i n b) = refl

  answers : (r : Request) → Done C v r → Answers r (step C v r).answer
  answers r = step_has C v r (λ (o : Outcome). ((n : ℕ) → o.answer ≢ refused n) → Answers r o.answer) (λ e f. absurd (f (number e) refl)) (λ k f. its_answer r)

-- ---- what get policy and show answer

module _ (C : Cipher) where
  abbrev asked : Volume → InodeNumber → Answer
  asked v i = (step C v (get_policy i)).answer

  -- of an inode with a context get policy tells the policy
  tells : (v : Volume) (i : InodeNumber) (node : Inode) → inode_at v i ≡ node → node.kind ≢ 0 → node.encrypted ≡ true → asked v i ≡ policy_is (policy_bytes node.context.policy)
  unfolding check effect get_policy_check
  tells v i node there k e =
      ap (λ (o : Outcome). o.answer)
      (done_by C v (get_policy i) (simp (line, test, negated, differ) (λ z. k (ap (λ (n : Inode). n.kind) (sym there) ∙ z), (ap (λ (n : Inode). n.encrypted) there ∙ e, refl))))
      ∙ ap (λ (n : Inode). policy_is (policy_bytes n.context.policy)) there

  policy_told : (v : Volume) (i : InodeNumber) (b : Bytes) → asked v i ≡ policy_is b → b ≡ policy_bytes (inode_at v i).context.policy
  unfolding effect
  policy_told v i b h =
      let d = was_done C v (get_policy i) (policy_is b) refl h in
      cc (ap (λ (o : Outcome). o.answer) (sym d) ∙ h)

  -- set policy puts the policy there, or finds it there
  policy_set : (v : Volume) (i : InodeNumber) (p x : Bytes) → (step C v (set_policy i p x)).answer ≡ done → asked (step C v (set_policy i p x)).volume i ≡ policy_is p
  unfolding check effect
  policy_set v i p x h =
      let fine = was_fine C v (set_policy i p x) done refl h in
      let c = set_policy_passed v i p x fine in
      let new = encrypted_inode 1 (policy_in (read_policy p)) x in
      let bytes = policy_bytes_read_policy p (read_policy_checked p ∙ c.policy) in
      let inside = within v.inodes no_inode i.0 (λ z. c.inode (ap (λ (n : Inode). n.kind) z)) in
      subst (λ (w : Volume). asked w i ≡ policy_is p) (ap (λ (o : Outcome). o.volume) (sym (done_by C v (set_policy i p x) fine)))
      (by_cond (λ (w : Volume). asked w i ≡ policy_is p) (inode_at v i).encrypted v (with_inodes v (set v.inodes i.0 new))
      (λ e. tells v i (inode_at v i) refl c.inode e ∙ ap (λ (q : Policy). policy_is (policy_bytes q)) ((same_policy_lem _ _).0 (c.same e)) ∙ ap policy_is bytes)
      (λ f. tells _ i new (get_or-set_same v.inodes i.0 new no_inode inside) (λ z. absurd (omega arith)) refl ∙ ap policy_is bytes))

  -- a child has its directory's policy
  policy_inherited : (v : Volume) → Sound v → (p : InodeNumber) (kind : ℕ) (n x : Bytes) (i : InodeNumber) (e : EntryNumber)
      → (step C v (create p kind n x)).answer ≡ created i e → (inode_at v p).encrypted ≡ true → kind ≤ 3 → asked (step C v (create p kind n x)).volume i ≡ asked v p
  unfolding check effect
  policy_inherited v s p kind n x i e h encrypted small =
      let fine = was_fine C v (create p kind n x) (created i e) refl h in
      let d = done_by C v (create p kind n x) fine in
      let c = create_passed C v p kind n x fine in
      let dir = inode_at v p in
      let child = child_of dir kind x in
      let k = child_kind dir kind x in
      let bears = child_policy dir kind x encrypted (omega arith) in
      let inside : free_inode v < length v.inodes = omega (arith, s.inode_slots_lem, c.inode_room) in
      let number : record { 0 = free_inode v } ≡ i = cc (ap (λ (o : Outcome). o.answer) (sym d) ∙ h) in
      let there : inode_at (effect C v (create p kind n x)).volume i ≡ child =
      ap (inode_at (effect C v (create p kind n x)).volume) (sym number) ∙ get_or-set_same v.inodes (free_inode v) child no_inode inside in
      ap (λ (o : Outcome). asked o.volume i) d
      ∙ tells _ i child there (λ z. c.kind.0 (sym k ∙ z)) bears.has_context
      ∙ ap (λ (q : Policy). policy_is (policy_bytes q)) bears.same
      ∙ sym (tells v p dir refl (λ z. absurd (omega (arith, c.directory))) encrypted)

  shown_as : (v : Volume) (e : EntryNumber) (b : Bytes) (s : ShownEntry) → (step C v (show e b)).answer ≡ shown s
      → (s.parent ≡ (entry_at v e).parent) × (s.inode ≡ (entry_at v e).inode) × (s.kind ≡ (node_of v e.0).kind) × (s.form ≡ form_in v (dir_of v e.0))
  unfolding effect
  shown_as v e b s h =
      let a = ap (λ (o : Outcome). o.answer) (sym (was_done C v (show e b) (shown s) refl h)) ∙ h in
      (cc a, cc a, cc a, cc a)

-- ---- the numbers that create, link and find answer

module _ (C : Cipher) (v : Volume) (means : Meanings v) where
  created_as : (p : InodeNumber) (kind : ℕ) (n x : Bytes) (i : InodeNumber) (e : EntryNumber) → (step C v (create p kind n x)).answer ≡ created i e
      → Least (InodeFree v) i.0 × Least (EntryFree v) e.0
  unfolding check effect
  created_as p kind n x i e h =
      let fine = was_fine C v (create p kind n x) (created i e) refl h in
      let c = create_passed C v p kind n x fine in
      let a = ap (λ (o : Outcome). o.answer) (sym (done_by C v (create p kind n x) fine)) ∙ h in
      ((means.lowest_inode i.0 (omega (arith, number₁ a, c.inode_room))).0 (number₁ a), (means.lowest_entry e.0 (omega (arith, number₂ a, c.entry_room))).0 (number₂ a))
    where
      number₁ : created (record { 0 = free_inode v }) (record { 0 = free_entry v }) ≡ created i e → free_inode v ≡ i.0
      number₁ a = let q : record { 0 = free_inode v } ≡ i = cc in ap (λ (j : InodeNumber). j.0) q

      number₂ : created (record { 0 = free_inode v }) (record { 0 = free_entry v }) ≡ created i e → free_entry v ≡ e.0
      number₂ a = let q : record { 0 = free_entry v } ≡ e = cc in ap (λ (j : EntryNumber). j.0) q

  at_number : (k : ℕ) (e : EntryNumber) → at (record { 0 = k }) ≡ at e → k ≡ e.0
  at_number k e a = let q : record { 0 = k } ≡ e = cc in ap (λ (j : EntryNumber). j.0) q

  linked_as : (i p : InodeNumber) (n : Bytes) (e : EntryNumber) → (step C v (link i p n)).answer ≡ at e → Least (EntryFree v) e.0
  unfolding check effect
  linked_as i p n e h =
      let fine = was_fine C v (link i p n) (at e) refl h in
      let number = at_number (free_entry v) e (ap (λ (o : Outcome). o.answer) (sym (done_by C v (link i p n) fine)) ∙ h) in
      (means.lowest_entry e.0 (omega (arith, number, (link_passed C v i p n fine).entry_room))).0 number

  found_as : (p : InodeNumber) (n : Bytes) (e : EntryNumber) → (step C v (find p n)).answer ≡ at e → EntryNamed v p (stored C v (inode_at v p) n) e.0
  unfolding check effect
  found_as p n e h =
      let fine = was_fine C v (find p n) (at e) refl h in
      let s = stored C v (inode_at v p) n in
      let number = at_number (entry_named v p s) e (ap (λ (o : Outcome). o.answer) (sym (done_by C v (find p n) fine)) ∙ h) in
      ((means.name_found p s e.0 (omega (arith, number, (find_passed C v p n fine).found))).0 number).holds

-- ---- the statement

module _ (C : Cipher) where
  fine_when : (v : Volume) → Sound v → (r : Request) → (check C v r ≡ fine) ↔ Occasion C v r
  unfolding check
  fine_when v s (add_key d k) = add_key_when C v s d k
  fine_when v s (remove_key d) = remove_key_when C v s d
  fine_when v s (set_policy i p x) = set_policy_when C v s i p x
  fine_when v s (get_policy i) = get_policy_when C v s i
  fine_when v s (create p kind n x) = create_when C v s p kind n x
  fine_when v s (link i p n) = link_when C v s i p n
  fine_when v s (rename e p n) = rename_when C v s e p n
  fine_when v s (exchange a b) = exchange_when C v s a b
  fine_when v s (remove e) = remove_when C v s e
  fine_when v s (find p n) = find_when C v s p n
  fine_when v s (show e b) = show_when C v s e b
  fine_when v s (seal i k b) = block_when C v s i b
  fine_when v s (unseal i k b) = block_when C v s i b

  pub done_when : DoneWhen C
  done_when = record {
    exactly = λ v s r. let d = done_fine C v r in let w = fine_when v s r in (λ f. w.0 (d.0 f), λ o. d.1 (w.1 o));
    answers = answers C;
    policy_set = policy_set C;
    policy_inherited = policy_inherited C;
    policy_told = policy_told C;
    created_as = λ v s. created_as C v (meanings v s);
    linked_as = λ v s. linked_as C v (meanings v s);
    found_as = λ v s. found_as C v (meanings v s);
    shown_as = shown_as C;
  }
