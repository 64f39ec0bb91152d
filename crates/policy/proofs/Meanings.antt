-- The tests of policies mean what specs/Meanings.antt says: a test made of `&&` is taken apart and put together conjunct by conjunct; a table of checks was passed
-- exactly where each line was, and its one refusal is EINVAL. Assumes nothing.
use Prim.Native.Nat.{ℕ}
use native.Mathlib.Omega.{arith}
use mathlib.Core.Path.{◌≡◌, refl, sym, ap, ◌∙◌, subst}
use mathlib.Core.Logic.{◌≢◌, ◌↔◌, ◌⊎◌, inl, ⊎_elim}
use mathlib.Core.Bool.{Bool, true, false, not, false≢true}
use Rattle.std.specs.Prelude.{Result, Ok, Err}
use lib.ListN.{length, take, drop, get_or, length-drop}
use lib.Seq.{take_all}
use Rattle.lists.specs.Bytes.{Bytes, zeros}
use Rattle.lists.proofs.ByteMeanings.{same_means}
use Rattle.lists.proofs.Searches.{equal, at_most, both}
use Rattle.errno.specs.declared.Errno.{Errno}
use Rattle.errno.specs.Refusals.{Checked, fine, refuse, ◌⇒◌, ◌>>◌, check_of}
use Rattle.errno.specs.declared.Errno.TheVariants.{EINVAL}
use Rattle.errno.proofs.Chains.{one_refusal}
use Rattle.policy.specs.Policies.{is_pair, is_valid, same_policy, is_master_key_size, name_key_size, policy_bytes, policy_at, context_at, policy_check, context_check, taken, refused, answered, policy_answer, context_answer, read_policy, read_context, policy_in, context_in, ReadsPolicy, ReadsContext}
use Rattle.policy.specs.Meanings.{ValidPolicy, MasterKeySize, PolicyIn, ContextIn, PolicyMeanings}
use Rattle.policy.specs.declared.Policy.{Policy}
use Rattle.policy.specs.declared.Context.{Context}
use Rattle.policy.proofs.Codec.{policy_eq, context_eq}

-- ---- two policies

pub same_policy_lem : (a b : Policy) → (same_policy a b ≡ true) ↔ (a ≡ b)
unfolding same_policy
same_policy_lem a b =
    let fields = both _ (equal a.version b.version) _
    (both _ (equal a.contents b.contents) _ (both _ (equal a.names b.names) _ (both _ (equal a.flags b.flags) _ (same_means a.descriptor b.descriptor)))) in (
      λ h.
          let (version, (contents, (names, (flags, descriptor)))) = fields.0 h in
          policy_eq version contents names flags descriptor,
      λ e.
          fields.1
          (ap (λ (p : Policy). p.version) e, (ap (λ (p : Policy). p.contents) e, (ap (λ (p : Policy). p.names) e, (ap (λ (p : Policy). p.flags) e, ap (λ (p : Policy). p.descriptor) e)))),
    )

-- ---- valid policies

pub valid : (p : Policy) → (is_valid p ≡ true) ↔ ValidPolicy p
unfolding is_valid is_pair
valid p =
    let fields = both _ (equal p.version 0) _ (both _ (both _ (equal p.contents 1) _ (equal p.names 4)) _ (at_most p.flags 3)) in (
      λ h.
          let (version, ((contents, names), flags)) = fields.0 h in
          record { version = version; contents = contents; names = names; flags = flags },
      λ w. fields.1 (w.version, ((w.contents, w.names), w.flags)),
    )

pub master_key_size : (p : Policy) (n : ℕ) → (is_master_key_size p n ≡ true) ↔ MasterKeySize p n
unfolding is_master_key_size
master_key_size p n = equal n 64

-- whatever the pair, a key is more than no bytes
pub master_key_some : (p : Policy) (n : ℕ) → is_master_key_size p n ≡ true → n ≢ 0
master_key_some p n h z = let size = (master_key_size p n).0 h in omega arith

name_key_size_lem : (p : Policy) → name_key_size p ≡ 32
unfolding name_key_size
name_key_size_lem p = refl

-- ---- what a read answers

-- a check that refuses with EINVAL or not at all, and passes exactly where the value is a good one, the only one
module _ {A : Type 0} (Good : A → Type 0) (value : A) (unique : (x : A) → Good x → x ≡ value) where
  taken_is : (c : Checked) → ((c ≡ fine) ↔ Good value) → (x : A) → (answered c value ≡ taken x) ↔ Good x
  taken_is (Ok _) f x = (λ h. subst Good (cc) (f.0 refl), λ g. ap taken (sym (unique x g)))
  taken_is (Err e) f x =
      (λ h. absurd (let z : ◌≡◌ {A = ℕ} 0 1 = cc in omega arith), λ g. absurd (let q = f.1 (subst Good (unique x g) g) in let z : ◌≡◌ {A = ℕ} 0 1 = cc in omega arith))

  refused_is : (c : Checked) → ((c ≡ fine) ↔ Good value) → (c ≡ fine) ⊎ (c ≡ refuse EINVAL)
      → (n : ℕ) → (answered c value ≡ refused n) ↔ ((n ≡ 22) × ((x : A) → Good x → ⊥))
  refused_is (Ok _) f o n =
      (λ h. absurd (let z : ◌≡◌ {A = ℕ} 0 1 = cc in omega arith), λ p. absurd (p.1 value (f.0 refl)))
  refused_is (Err e) f o n =
      let k : e ≡ EINVAL = ⊎_elim (λ q. absurd (let z : ◌≡◌ {A = ℕ} 0 1 = cc in omega arith)) (λ q. cc) o in
      (λ h. (cc, λ x g. let q = f.1 (subst Good (unique x g) g) in let z : ◌≡◌ {A = ℕ} 0 1 = cc in omega arith), λ p. let q : n ≡ 22 = p.0 in cc)

passes : {P : Type 0} (t : Bool) (next : Checked) → ((t ≡ true) ↔ P) → (◌>>◌ (not t ⇒ EINVAL) next ≡ fine) ↔ (P × (next ≡ fine))
unfolding ◌>>◌ ◌⇒◌
passes true next f = (λ h. (f.0 refl, h), λ p. p.1)
passes false next f = (λ h. absurd (let z : ◌≡◌ {A = ℕ} 0 1 = cc in omega arith), λ p. absurd (false≢true (f.1 p.0)))

module _ (b : Bytes) where
  abbrev GoodPolicy : Policy → Type 0
  GoodPolicy p = PolicyIn b p × ValidPolicy p

  abbrev policy : Policy
  policy = policy_at (get_or b 0 0) b

  policy_only : (p : Policy) → GoodPolicy p → p ≡ policy
  unfolding policy_at
  policy_only p g =
      let w = g.0 in
      let l : length b ≡ 12 = w.size in
      policy_eq w.version w.contents w.names w.flags (w.descriptor ∙ sym (take_all 8 (drop 4 b) (simp length-drop (omega arith))))

  policy_fine : (policy_check b ≡ fine) ↔ GoodPolicy policy
  unfolding policy_check policy_at
  policy_fine =
      let lines = passes _ _ (equal (length b) 12) in
      let last = passes (is_valid policy) fine (valid policy) in (
        λ h.
            let l : length b ≡ 12 = (lines.0 h).0 in (
              record { size = l; version = refl; contents = refl; names = refl; flags = refl; descriptor = take_all 8 (drop 4 b) (simp length-drop (omega arith)) },
              (last.0 (lines.0 h).1).0,
            ),
        λ g. lines.1 (g.0.size, last.1 (g.1, refl)),
      )

  policy_either : (policy_check b ≡ fine) ⊎ (policy_check b ≡ refuse EINVAL)
  unfolding policy_check
  policy_either = one_refusal _ _ _ (one_refusal _ _ _ (inl refl))

  pub policy_taken_lem : (p : Policy) → (policy_answer b ≡ taken p) ↔ GoodPolicy p
  unfolding policy_answer
  policy_taken_lem = taken_is GoodPolicy policy policy_only (policy_check b) policy_fine

  policy_refused : (n : ℕ) → (policy_answer b ≡ refused n) ↔ ((n ≡ 22) × ((p : Policy) → PolicyIn b p → ValidPolicy p → ⊥))
  unfolding policy_answer
  policy_refused n =
      let r = refused_is GoodPolicy policy policy_only (policy_check b) policy_fine policy_either n in
      (λ h. ((r.0 h).0, λ p i v. (r.0 h).1 p (i, v)), λ g. r.1 (g.0, λ p w. g.1 p w.0 w.1))

module _ (b : Bytes) where
  abbrev GoodContext : Context → Type 0
  GoodContext c = ContextIn b c × ValidPolicy c.policy

  context_only : (c : Context) → GoodContext c → c ≡ context_at b
  unfolding context_at policy_at
  context_only c g =
      let w = g.0 in
      let l : length b ≡ 28 = w.size in
      let p : c.policy ≡ policy_at 0 b = policy_eq w.version w.contents w.names w.flags w.descriptor in
      let x : c.nonce ≡ take 16 (drop 12 b) = w.nonce ∙ sym (take_all 16 (drop 12 b) (simp length-drop (omega arith))) in
      context_eq p x

  context_fine : (context_check b ≡ fine) ↔ GoodContext (context_at b)
  unfolding context_check context_at policy_at
  context_fine =
      let size = passes _ _ (equal (length b) 28) in
      let format = passes _ _ (equal (get_or b 0 0) 1) in
      let last = passes (is_valid (policy_at 0 b)) fine (valid (policy_at 0 b)) in (
        λ h.
            let l : length b ≡ 28 = (size.0 h).0 in
            let k = format.0 (size.0 h).1 in (
              record {
                size = l;
                format = k.0;
                version = refl;
                contents = refl;
                names = refl;
                flags = refl;
                descriptor = refl;
                nonce = take_all 16 (drop 12 b) (simp length-drop (omega arith));
              },
              (last.0 k.1).0,
            ),
        λ g. size.1 (g.0.size, format.1 (g.0.format, last.1 (g.1, refl))),
      )

  context_either : (context_check b ≡ fine) ⊎ (context_check b ≡ refuse EINVAL)
  unfolding context_check
  context_either = one_refusal _ _ _ (one_refusal _ _ _ (one_refusal _ _ _ (inl refl)))

  context_taken_lem : (c : Context) → (context_answer b ≡ taken c) ↔ GoodContext c
  unfolding context_answer
  context_taken_lem = taken_is GoodContext (context_at b) context_only (context_check b) context_fine

  context_refused : (n : ℕ) → (context_answer b ≡ refused n) ↔ ((n ≡ 22) × ((c : Context) → ContextIn b c → ValidPolicy c.policy → ⊥))
  unfolding context_answer
  context_refused n =
      let r = refused_is GoodContext (context_at b) context_only (context_check b) context_fine context_either n in
      (λ h. ((r.0 h).0, λ c i v. (r.0 h).1 c (i, v)), λ g. r.1 (g.0, λ c w. g.1 c w.0 w.1))

-- ---- what the functions give back stands for the answer

module _ (b : Bytes) where
  pub reads_policy : (r : Result Policy Errno) → r ≡ read_policy b → ReadsPolicy b r
  unfolding policy_answer read_policy
  reads_policy r e = record {
    read = e;
    answer = ap (λ (x : Result Policy Errno). answered (check_of x) (policy_in x)) e ∙ ⊎_elim (λ h. rw h) (λ h. rw h) (policy_either b);
  }

  pub reads_context : (r : Result Context Errno) → r ≡ read_context b → ReadsContext b r
  unfolding context_answer read_context
  reads_context r e = record {
    read = e;
    answer = ap (λ (x : Result Context Errno). answered (check_of x) (context_in x)) e ∙ ⊎_elim (λ h. rw h) (λ h. rw h) (context_either b);
  }

-- ---- all of them

pub policy_meanings : PolicyMeanings
unfolding policy_bytes zeros
policy_meanings = record {
  same_policy_lem = same_policy_lem;
  valid = valid;
  master_key_size = master_key_size;
  name_key_size_lem = name_key_size_lem;
  policy_taken_lem = policy_taken_lem;
  policy_refused = policy_refused;
  context_taken_lem = context_taken_lem;
  context_refused = context_refused;
  no_policy_lem = refl;
  no_context_lem = refl;
  no_nonce = refl;
}
