-- The codecs of policies and contexts: what is written is read back, and what was read is written back (document 01: "writing then reading, and reading then
-- writing, give back the same"); what a read that passed tells. Assumes nothing.
use mathlib.Core.Path.{◌≡◌, refl, sym, ap, ap₂, ◌∙◌}
use mathlib.Core.Bool.{true}
use mathlib.Core.List.{[], ◌∷◌, ◌++◌}
use Prim.Native.Nat.{ℕ, ◌≤◌}
use native.Mathlib.Omega.{arith}
use Rattle.std.specs.Prelude.{Result, Ok}
use lib.ListN.{length, take, drop, get_or, length-append, length-drop}
use lib.Seq.{take_at, drop_at, take_all, take-add, drop-drop, length-take-le}
use borrow.Author.Tests.{eqb-true, not-false}
use Rattle.lists.specs.Bytes.{Bytes}
use Rattle.lists.proofs.Tests.{and_left}
use Rattle.errno.specs.declared.Errno.{Errno}
use Rattle.errno.specs.Refusals.{fine, check_of}
use Rattle.std.proofs.lemmas.Grind.{common_steps}
use Rattle.errno.proofs.Chains.{passed_test, line_case}
use Rattle.policy.specs.Policies.{is_valid, policy_bytes, context_bytes, policy_at, context_at}
use Rattle.policy.specs.Policies.{policy_check, context_check, read_policy, read_context, policy_in, context_in}
use Rattle.policy.specs.declared.Policy.{Policy}
use Rattle.policy.specs.declared.Context.{Context}
use Rattle.policy.proofs.Reading.{policy_fine, context_fine}

-- ---- equal records

pub policy_eq : {v v' c c' n n' f f' : ℕ} {d d' : Bytes} → v ≡ v' → c ≡ c' → n ≡ n' → f ≡ f' → d ≡ d'
    → ◌≡◌ {A = Policy} (record { version = v; contents = c; names = n; flags = f; descriptor = d })
    (record { version = v'; contents = c'; names = n'; flags = f'; descriptor = d' })
policy_eq p q r s t = cc

pub context_eq : {p p' : Policy} {x x' : Bytes} → p ≡ p' → x ≡ x' → ◌≡◌ {A = Context} (record { policy = p; nonce = x }) (record { policy = p'; nonce = x' })
context_eq p x = cc

-- ---- what a read checks, and what one that passed tells

pub read_policy_checked : (b : Bytes) → check_of (read_policy b) ≡ policy_check b
unfolding read_policy policy_check
read_policy_checked b = grind (arith, common_steps, line_case)

pub read_context_checked : (b : Bytes) → check_of (read_context b) ≡ context_check b
unfolding read_context context_check
read_context_checked b = grind (arith, common_steps, line_case)

-- the tests that a policy's bytes passed
module _ (b : Bytes) (h : check_of (read_policy b) ≡ fine) where
  policy_passed : (length b ≡ 12) × (is_valid (policy_at (get_or b 0 0) b) ≡ true)
  unfolding policy_check
  policy_passed =
      let p = passed_test _ _ _ (sym (read_policy_checked b) ∙ h) in
      let q = passed_test _ _ _ p.1 in
      (eqb-true _ _ (not-false _ p.0), not-false _ q.0)

  policy_read : read_policy b ≡ Ok (policy_at (get_or b 0 0) b)
  policy_read = policy_fine b policy_passed.0 policy_passed.1

  pub read_policy_fine : is_valid (policy_in (read_policy b)) ≡ true
  read_policy_fine = ap (λ (r : Result Policy Errno). is_valid (policy_in r)) policy_read ∙ policy_passed.1

  pub read_policy_length : length (policy_in (read_policy b)).descriptor ≡ 8
  unfolding policy_at
  read_policy_length =
      let l : length b ≡ 12 = policy_passed.0 in
      ap (λ (r : Result Policy Errno). length (policy_in r).descriptor) policy_read ∙ length-take-le 8 (drop 4 b) (simp length-drop (omega arith))

-- the tests that a context's bytes passed
module _ (b : Bytes) (h : check_of (read_context b) ≡ fine) where
  context_passed : (length b ≡ 28) × (get_or b 0 0 ≡ 1) × (is_valid (policy_at 0 b) ≡ true)
  unfolding context_check
  context_passed =
      let p = passed_test _ _ _ (sym (read_context_checked b) ∙ h) in
      let q = passed_test _ _ _ p.1 in
      let s = passed_test _ _ _ q.1 in
      (eqb-true _ _ (not-false _ p.0), eqb-true _ _ (not-false _ q.0), not-false _ s.0)

  context_read : read_context b ≡ Ok (context_at b)
  context_read = context_fine b context_passed.0 context_passed.1 context_passed.2

-- ---- writing then reading

policy_at_policy_bytes : (p : Policy) → length p.descriptor ≡ 8 → policy_at p.version (policy_bytes p) ≡ p
unfolding policy_at policy_bytes
policy_at_policy_bytes p l = policy_eq refl refl refl refl (take_all 8 p.descriptor (omega arith))

pub read_policy_policy_bytes : (p : Policy) → length p.descriptor ≡ 8 → is_valid p ≡ true → read_policy (policy_bytes p) ≡ Ok p
unfolding policy_bytes
read_policy_policy_bytes p l v =
    let e = policy_at_policy_bytes p l in
    policy_fine (policy_bytes p) (omega arith) (ap is_valid e ∙ v) ∙ ap (λ (q : Policy). Ok q) e

valid_version : (p : Policy) → is_valid p ≡ true → p.version ≡ 0
unfolding is_valid
valid_version p v = eqb-true _ _ (and_left _ _ v)

module _ (c : Context) (l : length c.policy.descriptor ≡ 8) where
  policy_at_context_bytes : c.policy.version ≡ 0 → policy_at 0 (context_bytes c) ≡ c.policy
  unfolding policy_at context_bytes
  policy_at_context_bytes z = policy_eq (sym z) refl refl refl (take_at c.policy.descriptor c.nonce 8 l)

  nonce_at_context_bytes : length c.nonce ≡ 16 → take 16 (drop 12 (context_bytes c)) ≡ c.nonce
  unfolding context_bytes
  nonce_at_context_bytes n = ap (take 16) (drop_at c.policy.descriptor c.nonce 8 l) ∙ take_all 16 c.nonce (omega arith)

pub read_context_context_bytes : (c : Context) → length c.policy.descriptor ≡ 8 → length c.nonce ≡ 16 → is_valid c.policy ≡ true
    → read_context (context_bytes c) ≡ Ok c
unfolding context_bytes context_at
read_context_context_bytes c l n v =
    let e = policy_at_context_bytes c l (valid_version c.policy v) in
    context_fine (context_bytes c) (omega (arith, length-append c.policy.descriptor c.nonce)) refl (ap is_valid e ∙ v)
    ∙ ap₂ (λ (p : Policy) (x : Bytes). Ok (record { policy = p; nonce = x })) e (nonce_at_context_bytes c l n)

-- ---- reading then writing

four : (b : Bytes) → 4 ≤ length b → get_or b 0 0 ∷ get_or b 1 0 ∷ get_or b 2 0 ∷ get_or b 3 0 ∷ drop 4 b ≡ b
four [] h = absurd (omega arith)
four (x ∷ []) h = absurd (omega arith)
four (x ∷ y ∷ []) h = absurd (omega arith)
four (x ∷ y ∷ z ∷ []) h = absurd (omega arith)
four (x ∷ y ∷ z ∷ w ∷ b) h = refl

pub policy_bytes_read_policy : (b : Bytes) → check_of (read_policy b) ≡ fine → policy_bytes (policy_in (read_policy b)) ≡ b
unfolding policy_bytes policy_at
policy_bytes_read_policy b h =
    let l : length b ≡ 12 = (policy_passed b h).0 in
    ap (λ (r : Result Policy Errno). policy_bytes (policy_in r)) (policy_read b h)
    ∙ ap (λ (d : Bytes). get_or b 0 0 ∷ get_or b 1 0 ∷ get_or b 2 0 ∷ get_or b 3 0 ∷ d) (take_all 8 (drop 4 b) (simp length-drop (omega arith)))
    ∙ four b (omega arith)

-- the descriptor and the nonce fill the bytes from 4 on
rest : (b : Bytes) → length b ≡ 28 → take 8 (drop 4 b) ++ take 16 (drop 12 b) ≡ drop 4 b
rest b l =
    ap (λ (x : Bytes). take 8 (drop 4 b) ++ take 16 x) (sym (drop-drop 8 4 b))
    ∙ sym (take-add 8 16 (drop 4 b))
    ∙ take_all 24 (drop 4 b) (simp length-drop (omega arith))

pub context_bytes_read_context : (b : Bytes) → check_of (read_context b) ≡ fine → context_bytes (context_in (read_context b)) ≡ b
unfolding context_bytes context_at policy_at
context_bytes_read_context b h =
    let l : length b ≡ 28 = (context_passed b h).0 in
    ap (λ (r : Result Context Errno). context_bytes (context_in r)) (context_read b h)
    ∙ ap₂ (λ (n : ℕ) (d : Bytes). n ∷ get_or b 1 0 ∷ get_or b 2 0 ∷ get_or b 3 0 ∷ d) (sym (context_passed b h).1) (rest b l)
    ∙ four b (omega arith)
