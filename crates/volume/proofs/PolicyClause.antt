-- The policy clause: link, rename and exchange give the policy refusal exactly when their earlier checks have passed and an encrypted directory would gain a regular
-- file, directory or symlink that lacks its policy, and no other request gives its number. A table comes to it at one line, or two, and its other lines have other
-- numbers. Assumes nothing.
use Prim.Native.Nat.{ℕ, ◌<◌}
use native.Mathlib.Omega.{arith}
use mathlib.Core.Path.{◌≡◌, refl, sym, ◌∙◌, ap, subst}
use mathlib.Core.Logic.{◌⊎◌, inl, inr, ◌↔◌}
use mathlib.Core.Bool.{Bool, true, false}
use mathlib.Core.List.{List, Memᴰ}
use lib.Dec.{eqb}
use borrow.Author.Tests.{eqb-false}
use Rattle.lists.specs.Bytes.{Bytes}
use Rattle.lists.proofs.Slots.{by_test}
use Rattle.errno.specs.declared.Errno.TheVariants.{EXDEV}
use Rattle.fscrypt.specs.Cipher.{Cipher, Lawful}
use Rattle.fscrypt.specs.Names.{name_check}
use Rattle.volume.specs.Volume.{fresh}
use Rattle.volume.specs.Request.{Request, set_policy, link, rename, exchange, refused, Outcome, AllTyped}
use Rattle.volume.specs.Lookup.{lacks_key, inode_at, is_free, is_directory, entry_at, is_vacant, Used, dir_of, node_of}
use Rattle.volume.specs.Checks.{directory_check, is_policy_refused, link_check, rename_check, exchange_check}
use Rattle.volume.specs.Step.{check}
use Rattle.volume.specs.Run.{Moment, moment_of, run}
use Rattle.volume.specs.Sound.{Sound, MayHold}
use Rattle.volume.specs.PolicyClause.{WouldLack, LinkReady, RenameReady, ExchangeReady, Ready, for_link, for_rename, for_exchange, WouldGain, linked, renamed, exchanged_one, exchanged_other, WouldMisplace, GivesRefusal, PolicyClause}
use Rattle.ids.specs.declared.InodeNumber.{InodeNumber}
use Rattle.ids.specs.declared.EntryNumber.{EntryNumber}
use Rattle.volume.specs.declared.Inode.{Inode}
use Rattle.volume.specs.declared.Volume.{Volume}
use Rattle.volume.proofs.Kept.{was_step}
use Rattle.volume.proofs.Refusing.{refused_by, past, past_line, at_line, at_last_line, tables, Gives, neither, set_policy_gives, link_gives, rename_gives, exchange_gives, gives}
use Rattle.volume.proofs.PlainMeanings.{policy_refused}
use Rattle.volume.proofs.Passed.{is_directory_lem}
use Rattle.volume.proofs.Leaves.{leaves}
use Rattle.volume.proofs.Soundness.{sound, at_no_time}
use Rattle.errno.specs.Refusals.{fine, refuse}

-- ---- the three requests

-- one of two tests, the second looked at where the first fails
either : {s t : Bool} {A B : Type 0} → ((s ≡ true) ↔ A) → ((t ≡ true) ↔ B) → ((s ≡ true) ⊎ ((s ≡ false) × (t ≡ true))) ↔ (A ⊎ B)
either {s} {t} {A} {B} f g = (to, from)
  where
    to : (s ≡ true) ⊎ ((s ≡ false) × (t ≡ true)) → A ⊎ B
    to (inl h) = inl (f.0 h)
    to (inr h) = inr (g.0 h.1)

    from : A ⊎ B → (s ≡ true) ⊎ ((s ≡ false) × (t ≡ true))
    from (inl a) = inl (f.1 a)
    from (inr b) = by_test s (λ h. inl h) (λ h. inr (h, g.1 b))

module _ (C : Cipher) (v : Volume) where
  link_exactly : (i p : InodeNumber) (n : Bytes) → GivesRefusal C v (link i p n) ↔ (LinkReady v i p n × WouldLack (inode_at v p) (inode_at v i))
  unfolding check link_check
  link_exactly i p n = (
    λ h.
        let (name, (inode, (parent, (other, (key, policy))))) = table.0 (answer.0 h) in
        (record { name = name; inode = inode; parent = parent; not_directory = other; key = key }, (policy_refused _ _).0 policy),
    λ d. let r = d.0 in answer.1 (table.1 (r.name, (r.inode, (r.parent, (r.not_directory, (r.key, (policy_refused _ _).1 d.1)))))),
  )
    where
      answer : GivesRefusal C v (link i p n) ↔ (link_check C v i p n ≡ refuse EXDEV)
      answer = refused_by C v (link i p n) EXDEV

      Table : Type 0
      Table =
          (name_check n ≡ fine) × ((is_free (inode_at v i) ≡ false) × ((directory_check v p ≡ fine) × ((is_directory (inode_at v i) ≡ false) × ((lacks_key v (inode_at v p) ≡ false)
          × (is_policy_refused (inode_at v p) (inode_at v i) ≡ true)))))

      table : (link_check C v i p n ≡ refuse EXDEV) ↔ Table
      table =
          past (search tables)
          (past_line _ refl
          (past (search tables)
          (past_line _ refl
          (past_line _ refl
          (at_last_line (search tables))))))

  rename_exactly : (e : EntryNumber) (p : InodeNumber) (n : Bytes) → GivesRefusal C v (rename e p n) ↔ (RenameReady v e p n × WouldLack (inode_at v p) (node_of v e.0))
  unfolding check rename_check
  rename_exactly e p n = (
    λ h.
        let (name, (entry, (parent, (old, (key, policy))))) = table.0 (answer.0 h) in
        (record { name = name; entry = entry; parent = parent; old_key = old; key = key }, (policy_refused _ _).0 policy),
    λ d. let r = d.0 in answer.1 (table.1 (r.name, (r.entry, (r.parent, (r.old_key, (r.key, (policy_refused _ _).1 d.1)))))),
  )
    where
      answer : GivesRefusal C v (rename e p n) ↔ (rename_check C v e p n ≡ refuse EXDEV)
      answer = refused_by C v (rename e p n) EXDEV

      Table : Type 0
      Table =
          (name_check n ≡ fine) × ((is_vacant (entry_at v e) ≡ false) × ((directory_check v p ≡ fine) × ((lacks_key v (dir_of v e.0) ≡ false) × ((lacks_key v (inode_at v p) ≡ false)
          × (is_policy_refused (inode_at v p) (node_of v e.0) ≡ true)))))

      table : (rename_check C v e p n ≡ refuse EXDEV) ↔ Table
      table =
          past (search tables)
          (past_line _ refl
          (past (search tables)
          (past_line _ refl
          (past_line _ refl
          (at_last_line (search tables))))))

  exchange_exactly : (a b : EntryNumber)
      → GivesRefusal C v (exchange a b) ↔ (ExchangeReady v a b × (WouldLack (dir_of v a.0) (node_of v b.0) ⊎ WouldLack (dir_of v b.0) (node_of v a.0)))
  unfolding check exchange_check
  exchange_exactly a b = (
    λ h.
        let (one, (other, (one_key, (other_key, policy)))) = table.0 (answer.0 h) in
        (record { one = one; other = other; one_key = one_key; other_key = other_key }, sides.0 policy),
    λ d. let r = d.0 in answer.1 (table.1 (r.one, (r.other, (r.one_key, (r.other_key, sides.1 d.1))))),
  )
    where
      answer : GivesRefusal C v (exchange a b) ↔ (exchange_check v a b ≡ refuse EXDEV)
      answer = refused_by C v (exchange a b) EXDEV

      Sides : Type 0
      Sides =
          (is_policy_refused (dir_of v a.0) (node_of v b.0) ≡ true)
          ⊎ ((is_policy_refused (dir_of v a.0) (node_of v b.0) ≡ false) × (is_policy_refused (dir_of v b.0) (node_of v a.0) ≡ true))

      sides : Sides ↔ (WouldLack (dir_of v a.0) (node_of v b.0) ⊎ WouldLack (dir_of v b.0) (node_of v a.0))
      sides = either (policy_refused _ _) (policy_refused _ _)

      Table : Type 0
      Table =
          (is_vacant (entry_at v a) ≡ false) × ((is_vacant (entry_at v b) ≡ false) × ((lacks_key v (dir_of v a.0) ≡ false) × ((lacks_key v (dir_of v b.0) ≡ false) × Sides)))

      table : (exchange_check v a b ≡ refuse EXDEV) ↔ Table
      table =
          past_line _ refl
          (past_line _ refl
          (past_line _ refl
          (past_line _ refl
          (at_line (at_last_line (search tables))))))

-- ---- any request

module _ (C : Cipher) (v : Volume) where
  abbrev Misplaces : Request → Type 0
  Misplaces r = Ready v r × WouldMisplace v r

  swapped : (a b : EntryNumber) → WouldLack (dir_of v a.0) (node_of v b.0) ⊎ WouldLack (dir_of v b.0) (node_of v a.0) → WouldMisplace v (exchange a b)
  swapped a b (inl w) = record { dir = dir_of v a.0; node = node_of v b.0; gained = exchanged_one a b; lacking = w }
  swapped a b (inr w) = record { dir = dir_of v b.0; node = node_of v a.0; gained = exchanged_other a b; lacking = w }

  told : {r : Request} → Gives C v r → GivesRefusal C v r → Misplaces r
  told (neither r f g) h = absurd (f.no ((refused_by C v r EXDEV).0 h))
  told (set_policy_gives i p x f) h = absurd (f.no ((refused_by C v (set_policy i p x) EXDEV).0 h))
  told (link_gives i p n) h = let (d, w) = (link_exactly C v i p n).0 h in (for_link d, record { dir = inode_at v p; node = inode_at v i; gained = linked i p n; lacking = w })
  told (rename_gives e p n f) h = let (d, w) = (rename_exactly C v e p n).0 h in (for_rename d, record { dir = inode_at v p; node = node_of v e.0; gained = renamed e p n; lacking = w })
  told (exchange_gives a b f) h = let (d, w) = (exchange_exactly C v a b).0 h in (for_exchange d, swapped a b w)

  tells : {r : Request} {dir node : Inode} → WouldGain v r dir node → Ready v r → WouldLack dir node → GivesRefusal C v r
  tells (linked i p n) (for_link d) w = (link_exactly C v i p n).1 (d, w)
  tells (renamed e p n) (for_rename d) w = (rename_exactly C v e p n).1 (d, w)
  tells (exchanged_one a b) (for_exchange d) w = (exchange_exactly C v a b).1 (d, inl w)
  tells (exchanged_other a b) (for_exchange d) w = (exchange_exactly C v a b).1 (d, inr w)

  by_number : (r : Request) → GivesRefusal C v r ↔ Misplaces r
  by_number r = (told (gives C v r), λ d. tells d.1.gained d.0 d.1.lacking)

-- ---- on a sound volume

used : (kind : ℕ) → eqb kind 0 ≡ false → 0 < kind
used kind f = omega (arith, eqb-false kind 0 f)

module _ (C : Cipher) (v : Volume) (s : Sound v) where
  -- a move within a directory is never refused so: the directory gains nothing
  rename_within : (e : EntryNumber) (p : InodeNumber) (n : Bytes) → (entry_at v e).parent ≡ p → GivesRefusal C v (rename e p n) → ⊥
  rename_within e p n q r =
      let (h, w) = (rename_exactly C v e p n).0 r in
      w.lacks (subst (λ (d : InodeNumber). MayHold (inode_at v d) (node_of v e.0)) q (s.policies e.0 h.entry) w.is_encrypted w.not_special)

  exchange_within : (a b : EntryNumber) → (entry_at v a).parent ≡ (entry_at v b).parent → GivesRefusal C v (exchange a b) → ⊥
  exchange_within a b q r = let (h, w) = (exchange_exactly C v a b).0 r in neither (holds a b h.other (sym q)) (holds b a h.one q) w
    where
      neither : {X Y : Type 0} → (X → ⊥) → (Y → ⊥) → X ⊎ Y → ⊥
      neither f g (inl x) = f x
      neither f g (inr y) = g y

      holds : (c d : EntryNumber) → Used v d.0 → (entry_at v d).parent ≡ (entry_at v c).parent → WouldLack (dir_of v c.0) (node_of v d.0) → ⊥
      holds c d u p w =
          w.lacks (subst (λ (m : InodeNumber). MayHold (inode_at v m) (node_of v d.0)) p (s.policies d.0 u) w.is_encrypted w.not_special)

  -- the directory of a refused move is one, and its inode is there
  there : {r : Request} {dir node : Inode} → WouldGain v r dir node → GivesRefusal C v r → (dir.kind ≡ 1) × (0 < node.kind)
  there (linked i p n) h = let r = ((link_exactly C v i p n).0 h).0 in (is_directory_lem v p r.parent, used _ r.inode)
  there (renamed e p n) h = let r = ((rename_exactly C v e p n).0 h).0 in (is_directory_lem v p r.parent, used _ (s.inodes_in_use e.0 r.entry))
  there (exchanged_one a b) h = let r = ((exchange_exactly C v a b).0 h).0 in (s.parents a.0 r.one, used _ (s.inodes_in_use b.0 r.other))
  there (exchanged_other a b) h = let r = ((exchange_exactly C v a b).0 h).0 in (s.parents b.0 r.other, used _ (s.inodes_in_use a.0 r.one))

  on_sound : (r : Request) → GivesRefusal C v r → (w : WouldMisplace v r) × (w.dir.kind ≡ 1) × (0 < w.node.kind)
  on_sound r h = let w = ((by_number C v r).0 h).1 in let k = there w.gained h in (w, k.0, k.1)

-- ---- in a list: a refused request leaves the volume as it found it, and would be refused again

module _ (C : Cipher) (law : Lawful C) where
  refused_again : (rs : List Request) (m : Moment) → Memᴰ m (run C rs) → m.answer ≡ refused 18 → GivesRefusal C m.volume m.request
  unfolding moment_of
  refused_again rs m h a =
      let (w, e) = was_step C rs fresh m h in
      let g : GivesRefusal C w m.request = sym (ap (λ (x : Moment). x.answer) e) ∙ a in
      let o = (leaves C).refused_all w m.request 18 g in
      subst (λ (x : Volume). GivesRefusal C x m.request) (sym (ap (λ (x : Moment). x.volume) e ∙ ap (λ (x : Outcome). x.volume) o)) g

  by_log : (rs : List Request) → AllTyped rs → (m : Moment) → Memᴰ m (run C rs) → m.answer ≡ refused 18
      → (w : WouldMisplace m.volume m.request) × (w.dir.kind ≡ 1) × (0 < w.node.kind)
  by_log rs t m h a = on_sound C m.volume (sound C law rs t m h) m.request (refused_again rs m h a)

pub policy_clause : (C : Cipher) → Lawful C → PolicyClause C
policy_clause C law = record {
  by_link = λ v. link_exactly C v;
  by_rename = λ v. rename_exactly C v;
  by_exchange = λ v. exchange_exactly C v;
  by_number = λ v. by_number C v;
  on_sound = λ v s. on_sound C v s;
  by_log = by_log C law;
  rename_within = λ v s. rename_within C v s;
  exchange_within = λ v s. exchange_within C v s;
  at_no_time = at_no_time C law;
}
