-- The two runs: exchange and remove. Exchange swaps inode numbers, which no part of a stored name or of its key depends on; remove clears an entry, and an inode
-- that no entry stands in. Assumes nothing.
use Prim.Native.Nat.{ℕ}
use mathlib.Core.Path.{◌≡◌, refl, sym, ◌∙◌, ap, ap₂, subst}
use mathlib.Core.Logic.{◌≢◌}
use mathlib.Core.Bool.{Bool, true, false, cond, true≢false, false≢true}
use mathlib.Core.List.{List, [], map}
use lib.ListN.{get_or, set, length-set}
use lib.Seq.{get_or-set_other}
use lib.Dec.{ltb}
use Rattle.lists.proofs.Tables.{map_set, all_set}
use Rattle.volume.specs.Volume.{entry_slots, no_inode, no_entry}
use Rattle.volume.specs.Request.{exchange, remove, done, outcome}
use Rattle.volume.specs.Lookup.{lacks_key, inode_at, entry_at, is_vacant, has_entries, is_held, is_under_itself}
use Rattle.volume.specs.Checks.{is_policy_refused, exchange_check, remove_check}
use Rattle.volume.specs.Step.{with_entries, with_inode, without_unheld, check, effect}
use Rattle.volume.specs.GivenNames.{Names, named_by, naming, named}
use Rattle.volume.specs.TwoRuns.{blank_buffer}
use Rattle.ids.specs.declared.InodeNumber.{InodeNumber}
use Rattle.ids.specs.declared.EntryNumber.{EntryNumber}
use Rattle.volume.specs.declared.Inode.{Inode}
use Rattle.volume.specs.declared.Entry.{Entry}
use Rattle.volume.specs.declared.Volume.{Volume}
use Rattle.volume.proofs.SoundCore.{none_in}
use Rattle.volume.proofs.Twin.{Setting, test, both_fine, enc_key, dir_in, enc_entry, enc, InodeOk, Inv, EntryOk, StepTwin, Same}
use Rattle.volume.proofs.TwinLookup.{needed_twin, entry_twin, child_twin, link_at_twin, under_twin}
use Rattle.volume.proofs.TwinStore.{nonces_set, kept_inv, kept_enc}

module _ (S : Setting) {g : Names} (v : Volume) (ok : Inv S g v) where
  -- an entry's inode is no part of what holds of it
  other_inode : {dir : Inode} (at : ℕ) (e : Entry) (i : InodeNumber) → EntryOk S g dir at e → EntryOk S g dir at (with_inode e i)
  other_inode at e i w =
      record {
        name = w.name;
        is_given = w.is_given;
        is_plain = w.is_plain;
        in_directory = w.in_directory;
        is_sized = w.is_sized;
        is_stored = w.is_stored;
        storable = w.storable;
      }

  -- one entry changes, for one of which the same holds
  set_inv : (es : List Entry) (at : ℕ) (e : Entry) → Inv S g (with_entries v es) → (is_vacant e ≡ false → EntryOk S g (inode_at v e.parent) at e)
      → Inv S g (with_entries v (set es at e))
  set_inv es at e h w =
      record {
        keys_ok = h.keys_ok;
        inodes_ok = h.inodes_ok;
        entries_ok = all_set (λ j x. is_vacant x ≡ false → EntryOk S g (inode_at v x.parent) j x) es no_entry at e
            (λ j u. absurd (true≢false u)) (λ j ne. h.entries_ok j) w;
        sized = simp length-set h.sized;
      }

  pub exchange_twin : (a b : EntryNumber) → Same S g v (exchange a b) (exchange a b)
  unfolding Same check effect exchange_check named_by naming named blank_buffer
  exchange_twin a b =
      let x = entry_at v a in
      let y = entry_at v b in
      let ea = entry_twin S v ok a in
      let eb = entry_twin S v ok b in
      let f = enc_entry S v.inodes in
      test _ tt (ap is_vacant ea) λ h₁.
      test _ tt (ap is_vacant eb) λ h₂.
      test _ tt (ap (λ (e : Entry). lacks_key (enc S v) (inode_at v e.parent)) ea ∙ needed_twin S v ok (inode_at v x.parent)) λ h₃.
      test _ tt (ap (λ (e : Entry). lacks_key (enc S v) (inode_at v e.parent)) eb ∙ needed_twin S v ok (inode_at v y.parent)) λ h₄.
      test _ tt (ap₂ (λ (e e' : Entry). is_policy_refused (inode_at v e.parent) (inode_at v e'.inode)) ea eb) λ h₅.
      test _ tt (ap₂ (λ (e e' : Entry). is_policy_refused (inode_at v e'.parent) (inode_at v e.inode)) ea eb) λ h₆.
      test _ tt (ap₂ (λ (e e' : Entry). is_under_itself (enc S v) e.inode e'.parent) ea eb ∙ under_twin S v ok x.inode y.parent) λ h₇.
      test _ tt (ap₂ (λ (e e' : Entry). is_under_itself (enc S v) e'.inode e.parent) ea eb ∙ under_twin S v ok y.inode x.parent) λ h₈.
      both_fine (record {
        answers = refl;
        buffers = refl;
        volumes = ap (with_entries (enc S v))
            (ap₂ (λ (e e' : Entry). set (set (map f v.entries) a.0 (with_inode e e'.inode)) b.0 (with_inode e' e.inode)) ea eb
            ∙ ap (λ (es : List Entry). set es b.0 (f (with_inode y x.inode))) (sym (map_set f v.entries a.0 (with_inode x y.inode)))
            ∙ sym (map_set f (set v.entries a.0 (with_inode x y.inode)) b.0 (with_inode y x.inode)));
        inv = set_inv (set v.entries a.0 (with_inode x y.inode)) b.0 (with_inode y x.inode)
            (set_inv v.entries a.0 (with_inode x y.inode) ok (λ u. other_inode a.0 x y.inode (ok.entries_ok a.0 u)))
            (λ u. other_inode b.0 y x.inode (ok.entries_ok b.0 u));
        right = tt;
      })

  pub remove_twin : (e : EntryNumber) → Same S g v (remove e) (remove e)
  unfolding Same check effect remove_check without_unheld named_by naming named blank_buffer
  remove_twin e =
      let o = entry_twin S v ok e in
      test _ tt (ap is_vacant o) λ h₁.
      test _ tt (ap (λ (y : Entry). has_entries (enc S v) y.inode) o ∙ ap (λ (n : ℕ). ltb n entry_slots) (child_twin S v ok i)) λ h₂.
      both_fine (subst (λ (y : Entry). StepTwin S (remove e) g
      (outcome done [] (record {
        keys = map (enc_key S) v.keys;
        inodes = cond (is_held (set (map f v.entries) e.0 no_entry) y.inode) v.inodes (set v.inodes y.inode.0 no_inode);
        entries = set (map f v.entries) e.0 no_entry;
      }))
      (outcome done [] (record { keys = v.keys; inodes = cond (is_held es i) v.inodes is'; entries = es }))) (sym o)
      (go (is_held (set (map f v.entries) e.0 no_entry) i) (is_held es i) held h₂))
    where
      f : Entry → Entry
      f = enc_entry S v.inodes

      i : InodeNumber
      i = (entry_at v e).inode

      es : List Entry
      es = set v.entries e.0 no_entry

      is' : List Inode
      is' = set v.inodes i.0 no_inode

      es_enc : set (map f v.entries) e.0 no_entry ≡ map f es
      es_enc = sym (map_set f v.entries e.0 no_entry)

      held : is_held (set (map f v.entries) e.0 no_entry) i ≡ is_held es i
      held = ap (λ (l : List Entry). is_held l i) es_enc ∙ ap (λ (n : ℕ). ltb n entry_slots) (link_at_twin S v ok es i)

      ok₁ : Inv S g (with_entries v es)
      ok₁ = set_inv v.entries e.0 no_entry ok (λ u. absurd (true≢false u))

      nonces : (j : ℕ) → InodeOk S (get_or is' j no_inode)
      nonces = nonces_set S v ok i.0 no_inode (λ u. absurd (false≢true u))

      -- no entry that is left stands in the inode that goes
      kept : has_entries v i ≡ false → (j : ℕ) → is_vacant (get_or es j no_entry) ≡ false → dir_in is' (get_or es j no_entry) ≡ inode_at v (get_or es j no_entry).parent
      kept h j u =
          let apart : (n : ℕ) → is_vacant (get_or es n no_entry) ≡ false → (get_or es n no_entry).parent.0 ≢ i.0 =
          all_set (λ n y. is_vacant y ≡ false → y.parent.0 ≢ i.0) v.entries no_entry e.0 no_entry
          (λ n w. absurd (true≢false w)) (λ n ne. none_in v ok.sized i h n) (λ w. absurd (true≢false w)) in
          get_or-set_other v.inodes i.0 (get_or es j no_entry).parent.0 no_inode no_inode (apart j u)

      go : (c c' : Bool) → c ≡ c' → has_entries v i ≡ false → StepTwin S (remove e) g
          (outcome done [] (record { keys = map (enc_key S) v.keys; inodes = cond c v.inodes is'; entries = set (map f v.entries) e.0 no_entry }))
          (outcome done [] (record { keys = v.keys; inodes = cond c' v.inodes is'; entries = es }))
      go true true q h = record { answers = refl; buffers = refl; volumes = ap (with_entries (enc S v)) es_enc; inv = ok₁; right = tt }
      go true false q h = absurd (true≢false q)
      go false true q h = absurd (false≢true q)
      go false false q h =
          record {
            answers = refl;
            buffers = refl;
            volumes = ap (λ (l : List Entry). record { keys = map (enc_key S) v.keys; inodes = is'; entries = l }) es_enc
                ∙ kept_enc S (with_entries v es) ok₁ is' nonces (kept h);
            inv = kept_inv S (with_entries v es) ok₁ is' nonces (kept h);
            right = tt;
          }
