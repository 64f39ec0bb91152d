-- The invariant that soundness is proved by, and what it says of lookups, names, children, nonces and climbs. It is the rules of slots, that every inode is
-- held, and that every directory is rooted; the last two are apart, for they fail between the two stores of create and remove. Assumes nothing.
use Prim.Native.Nat.{ℕ, zero, suc, ◌≤◌, ◌<◌}
use native.Mathlib.Omega.{arith}
use mathlib.Core.Path.{◌≡◌, refl, sym, ◌∙◌, ap, ap₂, subst}
use mathlib.Core.Logic.{◌≢◌}
use mathlib.Core.Bool.{true, false, ◌&&◌, true≢false, false≢true}
use mathlib.Core.List.{List}
use lib.ListN.{length, get_or, set}
use lib.Seq.{get_or-set_other}
use lib.Dec.{eqb, leb}
use borrow.Author.Tests.{eqb-false, leb-true, le-leb}
use Rattle.lists.specs.Bytes.{Bytes}
use Rattle.lists.proofs.Tests.{and_left, and_right, and_known, same_of_eq}
use Rattle.lists.proofs.Slots.{by_test, by_cond, within, search_none}
use Rattle.fscrypt.specs.Cipher.{Cipher, Lawful}
use Rattle.fscrypt.specs.Names.{name_check, padded_length, padded, encrypted}
use Rattle.fscrypt.proofs.Padding.{pad_fits, length_padded, plain_name}
use Rattle.volume.specs.Volume.{inode_slots, no_inode, no_entry, name_of, entry_slot}
use Rattle.volume.specs.Lookup.{inode_at, is_directory, bears_nonce, nonce_holder, is_borne, is_vacant, is_under_itself, node_at, slot_at}
use Rattle.volume.specs.DirectoryNames.{name_key, stored}
use Rattle.volume.specs.Checks.{is_nonce_needed}
use Rattle.volume.specs.Step.{with_inode, child_of}
use Rattle.volume.specs.Sound.{MayHold}
use Rattle.ids.specs.declared.InodeNumber.{InodeNumber}
use Rattle.volume.specs.declared.Inode.{Inode}
use Rattle.volume.specs.declared.Entry.{Entry}
use Rattle.volume.specs.declared.Volume.{Volume}
use Rattle.volume.proofs.SoundCore.{Core, InodeOk, NameOk, EntryOk, SameNonce, InUse, node_in, slot_name, plain_ok}
use Rattle.volume.proofs.SoundClimb.{Any, Up, Tree, up_unique, up_short, avoid_met, avoid}
use Rattle.errno.specs.Refusals.{fine}

abbrev pub Holder : List Entry → ℕ → Type 0
Holder es i = (e : ℕ) × InUse (get_or es e no_entry) × ((get_or es e no_entry).inode.0 ≡ i)

abbrev pub Held : List Inode → List Entry → Type 0
Held is es = (i : ℕ) → i ≢ 0 → (node_in is i).kind ≢ 0 → Holder es i

pub record Inv (v : Volume) : Type 0 where
  pub core : Core v
  pub held : Held v.inodes v.entries
  pub tree : Tree v.inodes v.entries

-- ---- lookups

pub one≢zero : {n : ℕ} → n ≡ 1 → n ≢ 0
one≢zero p q = absurd (omega arith)

pub used_range : (es : List Entry) (e : ℕ) → InUse (get_or es e no_entry) → e < length es
used_range es e u = within es no_entry e (λ q. true≢false (sym (ap is_vacant q) ∙ u))

pub kind_range : (is : List Inode) (i : ℕ) → (node_in is i).kind ≢ 0 → i < length is
kind_range is i u = within is no_inode i (λ q. u (ap (λ (n : Inode). n.kind) q))

-- entries in use stay as they are where a free slot is taken
pub free_same : (es : List Entry) (e : ℕ) (x : Entry) → is_vacant (get_or es e no_entry) ≡ true → (j : ℕ) → InUse (get_or es j no_entry)
    → get_or (set es e x) j no_entry ≡ get_or es j no_entry
free_same es e x f j u = get_or-set_other es e j x no_entry (λ q. true≢false (sym f ∙ ap (λ (n : ℕ). is_vacant (get_or es n no_entry)) (sym q) ∙ u))

-- an inode is still held
pub still_held : (es es' : List Entry) (i : ℕ) → (r : Holder es i) → get_or es' r.0 no_entry ≡ get_or es r.0 no_entry → Holder es' i
still_held es es' i r q = (r.0, ap is_vacant q ∙ r.1, ap (λ (x : Entry). x.inode.0) q ∙ r.2)

-- ---- entries over other inodes

-- the directory stays as it is, and the inode may change
pub entry_again : (is is' : List Inode) (e : Entry) → EntryOk is e → node_in is' e.parent.0 ≡ node_in is e.parent.0 → (node_in is' e.inode.0).kind ≢ 0
    → MayHold (node_in is e.parent.0) (node_in is' e.inode.0) → EntryOk is' e
entry_again is is' e w q k p = record {
  directory = ap (λ (n : Inode). n.kind) q ∙ w.directory;
  holds = k;
  not_root = w.not_root;
  policy = subst (λ (n : Inode). MayHold n (node_in is' e.inode.0)) (sym q) p;
  name = subst (λ (n : Inode). NameOk n (name_of e)) (sym q) w.name;
  slot = w.slot;
}

pub entry_same : (is is' : List Inode) (e : Entry) → EntryOk is e → node_in is' e.parent.0 ≡ node_in is e.parent.0 → node_in is' e.inode.0 ≡ node_in is e.inode.0
    → EntryOk is' e
entry_same is is' e w q r =
    entry_again is is' e w q (λ z. w.holds (ap (λ (n : Inode). n.kind) (sym r) ∙ z)) (subst (MayHold (node_in is e.parent.0)) (sym r) w.policy)

-- an entry holds what another one held
pub entry_other : (is : List Inode) (x y : Entry) → EntryOk is x → EntryOk is y → MayHold (node_in is x.parent.0) (node_in is y.inode.0)
    → EntryOk is (with_inode x y.inode)
entry_other is x y wx wy p = record {
  directory = wx.directory;
  holds = wy.holds;
  not_root = wy.not_root;
  policy = p;
  name = wx.name;
  slot = ap (λ (e : Entry). with_inode e y.inode) wx.slot;
}

-- an inode without a context stands in no encrypted directory, unless it is special
pub in_plain : (dir node : Inode) → MayHold dir node → node.encrypted ≡ false → node.kind ≤ 3 → dir.encrypted ≡ false
in_plain dir node h e k = by_test dir.encrypted (λ d. absurd (false≢true (sym e ∙ (h d k).has_context))) (λ d. d)

-- ---- names

pub name_ok : (C : Cipher) → Lawful C → (v : Volume) (dir : Inode) (n : Bytes) → name_check n ≡ fine → NameOk dir (stored C v dir n)
unfolding stored encrypted
name_ok C law v dir n h =
    let flags = dir.context.policy.flags in
    let p = plain_name n h in
    let short : length n ≤ 255 = p.not_long in
    let nz : length n ≢ 0 = eqb-false _ _ p.some_bytes in
    let some : 0 < length n = omega arith in
    let f = pad_fits flags (length n) short in
    let len : length (C.encrypt_name (name_key C v dir) (padded flags n)) ≡ padded_length flags (length n) =
    law.length_encrypt_name (name_key C v dir) (padded flags n) ∙ length_padded flags n short in
    record {
      some = by_cond (λ (s : Bytes). 0 < length s) dir.encrypted _ _ (λ e. omega (arith, len, f.low)) (λ e. some);
      fits = by_cond (λ (s : Bytes). length s ≤ 255) dir.encrypted _ _ (λ e. omega (arith, len, f.high)) (λ e. short);
      plain = by_cond (λ (s : Bytes). dir.encrypted ≡ false → name_check s ≡ fine) dir.encrypted _ _ (λ e d. absurd (true≢false (sym e ∙ d))) (λ e d. h);
      sealed = by_cond (λ (s : Bytes). dir.encrypted ≡ true → (k : ℕ) × (0 < k) × (k ≤ 255) × (length s ≡ padded_length flags k)) dir.encrypted _ _
          (λ e d. (length n, some, short, len)) (λ e d. absurd (true≢false (sym d ∙ e)));
    }

pub slot_ok : (is : List Inode) (p i : InodeNumber) (s : Bytes) → (node_in is p.0).kind ≡ 1 → (node_in is i.0).kind ≢ 0 → i.0 ≢ 0
    → MayHold (node_in is p.0) (node_in is i.0) → NameOk (node_in is p.0) s → EntryOk is (entry_slot p i s)
slot_ok is p i s d k nz pol w = record {
  directory = d;
  holds = k;
  not_root = nz;
  policy = pol;
  name = subst (NameOk (node_in is p.0)) (sym (slot_name p i s)) w;
  slot = ap (entry_slot p i) (sym (slot_name p i s));
}

-- ---- nonces and children

-- a nonce that is not borne is no other inode's
pub nonce_free : (v : Volume) → Core v → (x : Bytes) → is_borne v x ≡ false → (node : Inode) → node.context.nonce ≡ x → (j : ℕ) → SameNonce (node_at v j) node → ⊥
unfolding nonce_holder bears_nonce
nonce_free v ok x h node e j r =
    let t : bears_nonce x (node_at v j) ≡ true = ap₂ ◌&&◌ r.0 (same_of_eq (r.2 ∙ e)) in
    true≢false (sym t ∙ search_none (bears_nonce x) v.inodes no_inode inode_slots ok.nodes_ok.inode_slots_lem refl h j)

module _ (dir : Inode) (kind : ℕ) (x : Bytes) where
  pub child_kind : (child_of dir kind x).kind ≡ kind
  unfolding child_of
  child_kind = by_cond (λ (n : Inode). n.kind ≡ kind) (is_nonce_needed dir kind) _ _ (λ e. refl) (λ e. refl)

  pub child_ok : InodeOk dir → kind ≢ 0 → kind ≤ 4 → length x ≡ 16 → InodeOk (child_of dir kind x)
  unfolding child_of is_nonce_needed
  child_ok w nz small lx =
      by_cond InodeOk (dir.encrypted && leb kind 3) _ _
      (λ e.
      record {
        kinds = small;
        context = λ u.
            record {
              kind = leb-true kind 3 (and_right dir.encrypted (leb kind 3) e);
              valid = (w.context (and_left dir.encrypted (leb kind 3) e)).valid;
            };
        descriptor = w.descriptor;
        nonce = lx;
        free = λ z. absurd (nz z);
        bare = λ u. absurd (true≢false u);
      })
      (λ e. plain_ok kind nz small)

  pub child_policy : MayHold dir (child_of dir kind x)
  unfolding child_of is_nonce_needed
  child_policy =
      by_cond (MayHold dir) (dir.encrypted && leb kind 3) _ _
      (λ e d k. record { has_context = refl; same = refl })
      (λ e d k. absurd (true≢false (sym (le-leb kind 3 k) ∙ and_known d e)))

  pub child_nonce : (child_of dir kind x).encrypted ≡ true → (is_nonce_needed dir kind ≡ true) × ((child_of dir kind x).context.nonce ≡ x)
  unfolding child_of
  child_nonce =
      by_cond (λ (n : Inode). n.encrypted ≡ true → (is_nonce_needed dir kind ≡ true) × (n.context.nonce ≡ x)) (is_nonce_needed dir kind) _ _
      (λ e u. (e, refl)) (λ e u. absurd (false≢true u))

-- ---- climbs that meet nothing that moves

module _ (v : Volume) (ok : Inv v) where
  abbrev Clear : (ℕ → Type 0) → ℕ → Type 0
  Clear P p = (k : ℕ) × Up v.entries P k p

  abbrev pub NotOf : ℕ → ℕ → Type 0
  NotOf m e = (slot_at v e).inode.0 ≢ m

  -- a directory that did not meet the inode m on its climb, m being one, goes by no entry of m
  pub clear_of : (m p : InodeNumber) → (inode_at v p).kind ≡ 1 → is_under_itself v m p ≡ false → Clear (NotOf m.0) p.0
  unfolding is_under_itself
  clear_of m p kd h =
      let r = ok.tree p.0 kd in
      let b = up_short v ok.core Any r.0 p.0 kd r.1 in (
        r.0,
        by_test (is_directory (inode_at v m))
            (λ d. avoid_met v ok.core Any m _ r.0 p.0 (omega arith) (and_known d h) kd r.1)
            (λ d.
            avoid v ok.core Any (NotOf m.0) r.0 p.0
            (λ e j lt u ke w q. false≢true (sym d ∙ ap (λ (n : ℕ). eqb (node_at v n).kind 1) (sym q) ∙ ap (λ (n : ℕ). eqb n 1) ke)) kd r.1),
      )

  -- nor does the climb from an entry's parent go by the entry's own inode
  pub clear_both : (a b : ℕ) → InUse (slot_at v a) → is_under_itself v (slot_at v b).inode (slot_at v a).parent ≡ false
      → Clear (λ e. NotOf (slot_at v b).inode.0 e × NotOf (slot_at v a).inode.0 e) (slot_at v a).parent.0
  clear_both a b u h =
      let kd = (ok.core.joined.entries_ok a u).directory in
      let p = (slot_at v a).parent.0 in
      let i = (slot_at v a).inode.0 in
      let Off : ℕ → Type 0 = NotOf (slot_at v b).inode.0 in
      let r = clear_of (slot_at v b).inode (slot_at v a).parent kd h in (
        r.0,
        avoid v ok.core Off (λ e. Off e × NotOf i e) r.0 p
            (λ e j lt ne ke w. (
              ne,
              λ q.
                  let up : Up v.entries Off (suc j) i = subst (Up v.entries Off (suc j)) q w in
                  let own : Up v.entries Any (suc r.0) i = record { entry = a; kept = tt; used = u; holds = refl; above = weaken r.0 p r.1 } in
                  absurd (omega (arith, up_unique v ok.core Off Any (suc j) (suc r.0) i (ap (λ (n : ℕ). (node_at v n).kind) (sym q) ∙ ke) up own)),
            ))
            kd r.1,
      )
    where
      weaken : (k i : ℕ) → Up v.entries (NotOf (slot_at v b).inode.0) k i → Up v.entries Any k i
      weaken zero i u = u
      weaken (suc k) i u = record { entry = u.entry; kept = tt; used = u.used; holds = u.holds; above = weaken k (slot_at v u.entry).parent.0 u.above }
