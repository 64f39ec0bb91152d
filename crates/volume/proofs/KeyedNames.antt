-- Names and keys in every run: each entry in use has the name that it was given, stored under the key that its directory had then, since a request gives an entry its
-- name or leaves it. So what is read with that key is what was given, and EUCLEAN comes of another key. Assumes nothing.
use Prim.Native.Nat.{ℕ}
use native.Mathlib.Omega.{arith}
use mathlib.Core.Path.{◌≡◌, refl, sym, ◌∙◌, ap, ap₂, subst}
use mathlib.Core.Logic.{◌≢◌}
use mathlib.Core.Bool.{Bool, true, false, cond, not, ◌&&◌, true≢false}
use mathlib.Core.List.Memᴰ
use mathlib.Core.List.{List, [], ◌∷◌, ◌++◌}
use mathlib.Core.Option.{Option, some, none}
use lib.ListN.{length, take}
use lib.Dec.{ltb}
use Rattle.lists.specs.Bytes.{Bytes, ByteList}
use Rattle.lists.proofs.Tests.{and_left, and_right, if_false}
use Rattle.lists.proofs.Slots.{by_test}
use Rattle.errno.specs.Refusals.{fine, number, ◌⇒◌, ◌>>◌}
use Rattle.errno.specs.declared.Errno.TheVariants.{ENOENT, ERANGE, EUCLEAN}
use Rattle.policy.specs.Policies.{is_master_key_size, name_key_size}
use Rattle.fscrypt.specs.Cipher.{Cipher, Lawful, fscrypt}
use Rattle.fscrypt.specs.Names.{name_check, encrypted}
use Rattle.fscrypt.proofs.Lawfulness.{fscrypt_lawful}
use Rattle.volume.specs.Volume.{name_of, fresh}
use Rattle.volume.specs.Request.{Request, show, refused, shown, outcome, Typed, AllTyped, ShownEntry}
use Rattle.volume.specs.Lookup.{key_slot_of, key_of, master_key, descriptor_of, key_present, lacks_key, entry_at, is_vacant, Used, slot_at, dir_of}
use Rattle.volume.specs.DirectoryNames.{derived_key, name_key, stored, is_unreadable}
use Rattle.volume.specs.Checks.{show_check}
use Rattle.volume.specs.Step.{lent, check, effect, settle, step}
use Rattle.volume.specs.Run.{Moment, moment_of, run_from, run}
use Rattle.volume.specs.Sound.{Sound}
use Rattle.volume.specs.Bytewise.{Bytewise}
use Rattle.volume.specs.SealedOpens.{ShowsAs}
use Rattle.volume.specs.GivenNames.{Names, later, after, names_from}
use Rattle.volume.specs.KeyedNames.{Keys, key_for, renewed, keys_after, keys_from, named_under, HasKey, WrongKey, ShownByKey, EveryRunKeyed}
use Rattle.ids.specs.declared.EntryNumber.{EntryNumber}
use Rattle.volume.specs.declared.Inode.{Inode}
use Rattle.volume.specs.declared.Volume.{Volume}
use Rattle.volume.proofs.Passed.{key_present_lem, show_passed}
use Rattle.volume.proofs.Soundness.{fresh_sound, fresh_unused, sound_kept}
use Rattle.volume.proofs.Bytewise.{fresh_bytes, bytewise_kept}
use Rattle.volume.proofs.Kept.{was_fine}
use Rattle.volume.proofs.StoredNames.{readable, shows}
use Rattle.volume.proofs.Leaves.{leaves}
use Rattle.volume.proofs.NamesSince.{Since, stayed, gained, step_since}

module _ (C : Cipher) where
  -- ---- the name of an entry and its key

  -- a plain name as a directory stores it under a master key
  abbrev stored_under : Bytes → Inode → Bytes → Bytes
  stored_under key dir n =
      cond dir.encrypted (encrypted C (take (name_key_size dir.context.policy) (C.derive key dir.context.nonce)) dir.context.policy.flags n) n

  stored_under_lem : (v : Volume) (dir : Inode) (n : Bytes) → stored C v dir n ≡ stored_under (master_key v (descriptor_of dir)) dir n
  unfolding stored name_key derived_key
  stored_under_lem v dir n = refl

  -- a plain directory stores a name as it is
  same_stored : (key key' : Bytes) (dir : Inode) (n : Bytes) → (dir.encrypted ≡ true → key ≡ key') → stored_under key dir n ≡ stored_under key' dir n
  same_stored key key' dir n q =
      by_test dir.encrypted (λ t. ap (λ (k : Bytes). stored_under k dir n) (q t)) (λ t. if_false _ _ t ∙ sym (if_false _ _ t))

  -- a name that was given, if any, and that this directory stores as s under a key
  record Named (given : Option Bytes) (key : Bytes) (dir : Inode) (s : Bytes) : Type 0 where
    name : Bytes
    is_given : given ≡ some name
    is_plain : name_check name ≡ fine
    bytes : ByteList name
    is_stored : s ≡ stored_under key dir name
    is_sized : dir.encrypted ≡ true → is_master_key_size dir.context.policy (length key) ≡ true

  abbrev AllNamed : Names → Keys → Volume → Type 0
  AllNamed g k v = (e : ℕ) → Used v e → Named (g e) (k e) (dir_of v e) (name_of (slot_at v e))

  -- ---- one request

  -- a key that is present has the size that the policy asks for
  present_sized : (v : Volume) → Sound v → (dir : Inode) → lacks_key v dir ≡ false → dir.encrypted ≡ true → is_master_key_size dir.context.policy (length (master_key v (descriptor_of dir))) ≡ true
  unfolding key_present key_of
  present_sized v s dir h t =
      ap (is_master_key_size dir.context.policy) (s.key_sizes (key_slot_of v (descriptor_of dir))) ∙ key_present_lem v dir t h

  sized_present : (v : Volume) → Sound v → (dir : Inode) → (dir.encrypted ≡ true → is_master_key_size dir.context.policy (length (master_key v (descriptor_of dir))) ≡ true) → lacks_key v dir ≡ false
  unfolding lacks_key key_present key_of
  sized_present v s dir h =
      by_test dir.encrypted
      (λ t. ap₂ (λ (a b : Bool). a && not b) t (sym (ap (is_master_key_size dir.context.policy) (s.key_sizes (key_slot_of v (descriptor_of dir)))) ∙ h t))
      (λ f. ap (λ (a : Bool). a && not (key_present v dir)) f)

  named_since : (g : Names) (k : Keys) (v w : Volume) (o : Option Bytes) (e : ℕ) → Sound w → AllNamed g k v → Since C v w o e
      → Named (later o (g e)) (renewed o (key_for w e) (k e)) (dir_of w e) (name_of (slot_at w e))
  named_since g k v w o e sw h (stayed q u n d) =
      let x = h e u in
      record {
        name = x.name;
        is_given = ap (λ (o : Option Bytes). later o (g e)) q ∙ x.is_given;
        is_plain = x.is_plain;
        bytes = x.bytes;
        is_stored = n ∙ x.is_stored
            ∙ ap₂ (λ (o : Option Bytes) (dir : Inode). stored_under (renewed o (key_for w e) (k e)) dir x.name) (sym q) (sym d);
        is_sized = subst (λ (dir : Inode). dir.encrypted ≡ true → is_master_key_size dir.context.policy (length (renewed o (key_for w e) (k e))) ≡ true) (sym d)
            (subst (λ (o : Option Bytes). (dir_of v e).encrypted ≡ true → is_master_key_size (dir_of v e).context.policy (length (renewed o (key_for w e) (k e))) ≡ true) (sym q) x.is_sized);
      }
  named_since g k v w o e sw h (gained n q good bytes is held) =
      record {
        name = n;
        is_given = ap (λ (o : Option Bytes). later o (g e)) q;
        is_plain = good;
        bytes = bytes;
        is_stored = is ∙ stored_under_lem w (dir_of w e) n ∙ ap (λ (o : Option Bytes). stored_under (renewed o (key_for w e) (k e)) (dir_of w e) n) (sym q);
        is_sized = subst (λ (o : Option Bytes). (dir_of w e).encrypted ≡ true → is_master_key_size (dir_of w e).context.policy (length (renewed o (key_for w e) (k e))) ≡ true) (sym q)
            (present_sized w sw (dir_of w e) held);
      }

  module _ (law : Lawful C) where
    named_kept : (g : Names) (k : Keys) (v : Volume) → Sound v → AllNamed g k v → (r : Request) → Typed r
        → AllNamed (after g r (step C v r).answer) (keys_after k (moment_of r (step C v r))) (step C v r).volume
    unfolding moment_of
    named_kept g k v s h r t e u = named_since g k v (step C v r).volume _ e (sound_kept C law v s r t) h (step_since C law v s r t e u)

    -- ---- show

    module _ (g : Names) (k : Keys) (v : Volume) (s : Sound v) (w : Bytewise v) (all : AllNamed g k v) (e : EntryNumber) where
      abbrev dir : Inode
      dir = dir_of v e.0

      is_stored_now : (u : Used v e.0) → HasKey v e.0 (k e.0) → name_of (entry_at v e) ≡ stored C v dir (all e.0 u).name
      is_stored_now u same =
          let x = all e.0 u in
          x.is_stored ∙ same_stored (k e.0) (key_for v e.0) dir x.name (λ t. sym (same t)) ∙ sym (stored_under_lem v dir x.name)

      unreadable_wrong : Used v e.0 → is_unreadable C v dir (name_of (entry_at v e)) ≡ true → WrongKey v e.0 (k e.0)
      unfolding is_unreadable lacks_key
      unreadable_wrong u h =
          let x = all e.0 u in
          let enc : dir.encrypted ≡ true = and_left dir.encrypted _ h in
          let here : key_present v dir ≡ true = and_left (key_present v dir) _ (and_right dir.encrypted _ h) in
          let held : lacks_key v dir ≡ false = ap₂ (λ (a b : Bool). a && not b) enc here in
          record {
            in_encrypted = enc;
            present = here;
            another = λ q.
                true≢false (sym h ∙ ap (is_unreadable C v dir) (is_stored_now u (λ t. q))
                ∙ readable C law v w dir (w.nonces (slot_at v e.0).parent.0) x.name x.bytes x.is_plain held);
          }

      unclean_show : (b : Bytes) → (step C v (show e b)).answer ≡ refused (number EUCLEAN) → WrongKey v e.0 (k e.0)
      unfolding step lent check effect settle show_check ◌>>◌ ◌⇒◌
      unclean_show b h =
          let p = tests (ltb (length b) 255) (is_vacant (entry_at v e)) (is_unreadable C v dir (name_of (entry_at v e))) _ _ h in
          unreadable_wrong p.0 p.1
        where
          tests : (a c d : Bool) (s : ShownEntry) (b' : Bytes)
              → (settle v b (◌>>◌ (a ⇒ ERANGE) (◌>>◌ (c ⇒ ENOENT) (◌>>◌ (d ⇒ EUCLEAN) fine))) (outcome (shown s) b' v)).answer ≡ refused (number EUCLEAN)
              → (c ≡ false) × (d ≡ true)
          tests true c d s b' h = let z : number ERANGE ≡ number EUCLEAN = cc in absurd (omega (arith, z))
          tests false true d s b' h = let z : number ENOENT ≡ number EUCLEAN = cc in absurd (omega (arith, z))
          tests false false true s b' h = (refl, refl)
          tests false false false s b' h = let z : ◌≡◌ {A = ℕ} 0 1 = cc in absurd (omega arith)

      shows_given : HasKey v e.0 (k e.0) → (u : Used v e.0) → ShowsAs C v e (all e.0 u).name
      shows_given same u =
          let x = all e.0 u in
          let held = sized_present v s dir (λ t. ap (λ (key : Bytes). is_master_key_size dir.context.policy (length key)) (same t) ∙ x.is_sized t) in
          shows C law v w dir (w.nonces (slot_at v e.0).parent.0) x.name x.bytes x.is_plain held e u refl (is_stored_now u same)

      named_show : HasKey v e.0 (k e.0) → (b : Bytes) (x : ShownEntry) → (step C v (show e b)).answer ≡ shown x
          → g e.0 ≡ some (take x.len (step C v (show e b)).buffer)
      unfolding check
      named_show same b x h =
          let c = show_passed C v e (length b) (was_fine C v (show e b) (shown x) refl h) in
          let r = shows_given same c.entry b c.room in
          let l : r.0.len ≡ x.len = cc (sym r.1 ∙ h) in
          (all e.0 c.entry).is_given ∙ ap some (sym r.3 ∙ ap (λ (n : ℕ). take n (step C v (show e b)).buffer) l)

    moment_right : (g : Names) (k : Keys) (v : Volume) → Sound v → Bytewise v → AllNamed g k v → (r : Request) → ShownByKey g k (moment_of r (step C v r))
    unfolding moment_of
    moment_right g k v s w all r =
        record {
          unclean = λ e b q h. subst (λ (x : Volume). WrongKey x e.0 (k e.0)) (sym (same e b q)) (unclean_show g k v s w all e b (sym (answer q) ∙ h));
          answered = λ e b q has u room.
              let a = shows_given g k v s w all e (has_key e b q has) (subst (λ (x : Volume). Used x e.0) (same e b q) u) b room in
              (a.0, answer q ∙ a.1, a.2);
          named = λ e b q has x h.
              named_show g k v s w all e (has_key e b q has) b x (sym (answer q) ∙ h) ∙ ap (λ (r : Request). some (take x.len (step C v r).buffer)) (sym q);
        }
      where
        answer : {r' : Request} → r ≡ r' → (step C v r).answer ≡ (step C v r').answer
        answer q = ap (λ (r : Request). (step C v r).answer) q

        same : (e : EntryNumber) (b : Bytes) → r ≡ show e b → (step C v r).volume ≡ v
        same e b q = ap (λ (r : Request). (step C v r).volume) q ∙ (leaves C).showing v e b

        has_key : (e : EntryNumber) (b : Bytes) → r ≡ show e b → HasKey (step C v r).volume e.0 (k e.0) → HasKey v e.0 (k e.0)
        has_key e b q = subst (λ (x : Volume). HasKey x e.0 (k e.0)) (same e b q)

    -- ---- runs

    abbrev RunRight : Names → Keys → List Moment → Type 0
    RunRight g k [] = Unit {0}
    RunRight g k (m ∷ ms) = ShownByKey g k m × RunRight (after g m.request m.answer) (keys_after k m) ms

    run_right : (rs : List Request) → AllTyped rs → (g : Names) (k : Keys) (v : Volume) → Sound v → Bytewise v → AllNamed g k v → RunRight g k (run_from C v rs)
    unfolding run_from moment_of
    run_right [] t g k v s w all = tt
    run_right (r ∷ rs) t g k v s w all =
        let tr = t r (Memᴰ.head refl) in (
          moment_right g k v s w all r,
          run_right rs (λ q m. t q (Memᴰ.tail m)) _ _ (step C v r).volume (sound_kept C law v s r tr) (bytewise_kept C law v w r tr) (named_kept g k v s all r tr),
        )

    right_at : (past : List Moment) (m : Moment) (next : List Moment) (g : Names) (k : Keys) → RunRight g k (past ++ (m ∷ next))
        → ShownByKey (names_from g past) (keys_from k past) m
    unfolding names_from keys_from
    right_at [] m next g k h = h.0
    right_at (p ∷ past) m next g k h = right_at past m next (after g p.request p.answer) (keys_after k p) h.1

pub every_run_keyed : (C : Cipher) → Lawful C → EveryRunKeyed C
every_run_keyed C law rs t past next m q =
    let right = run_right C law rs t (λ e. none) (λ e. []) fresh fresh_sound fresh_bytes (λ e u. absurd (fresh_unused e u)) in
    right_at C law past m next (λ e. none) (λ e. []) (subst (RunRight C law (λ e. none) (λ e. [])) q right)

-- the theorem, of the ciphers that are used
pub every_run_keyed_fscrypt : EveryRunKeyed fscrypt
every_run_keyed_fscrypt = every_run_keyed fscrypt fscrypt_lawful

-- in plain words: with the key under which the entry was named, show never says EUCLEAN
pub same_key_clean : (C : Cipher) → Lawful C → (rs : List Request) → AllTyped rs → (past next : List Moment) (m : Moment) → run C rs ≡ past ++ (m ∷ next)
    → (e : EntryNumber) (b : Bytes) → m.request ≡ show e b → HasKey m.volume e.0 (named_under past e.0) → m.answer ≢ refused 117
same_key_clean C law rs t past next m q e b r same h =
    let wrong = (every_run_keyed C law rs t past next m q).unclean e b r h in
    wrong.another (same wrong.in_encrypted)
