-- What the tests of policies mean: each is equal, in both directions, to a plain predicate in which no test stands.
-- Sentences in quotation marks are document 01's, in its words. Assumes nothing.
use Rattle.std.specs.Prelude.{ℕ, ◌≤◌, ◌≡◌, ◌↔◌, true, [], ◌∷◌, length, take, drop, get_or}
use Rattle.lists.specs.Bytes.{Bytes}
use Rattle.policy.specs.Policies.{is_valid, same_policy, is_master_key_size, name_key_size, policy_bytes, no_policy, no_context, taken, refused, policy_answer, context_answer}
use Rattle.policy.specs.declared.Policy.{Policy}
use Rattle.policy.specs.declared.Context.{Context}

-- "Valid: version 0; contents 1 (AES-256-XTS) with names 4 (AES-256-CTS-CBC); flags 0 to 3"
pub record ValidPolicy (p : Policy) : Type 0 where
  pub version : p.version ≡ 0
  pub contents : p.contents ≡ 1
  pub names : p.names ≡ 4
  pub flags : p.flags ≤ 3

-- "A policy's key is present when its descriptor is on the ring with a key of 64 bytes."
abbrev pub MasterKeySize : Policy → ℕ → Type 0
MasterKeySize p n = n ≡ 64

-- "A policy is 12 bytes: version, contents mode, names mode, flags, descriptor of 8"
pub record PolicyIn (b : Bytes) (p : Policy) : Type 0 where
  pub size : length b ≡ 12
  pub version : p.version ≡ get_or b 0 0
  pub contents : p.contents ≡ get_or b 1 0
  pub names : p.names ≡ get_or b 2 0
  pub flags : p.flags ≡ get_or b 3 0
  pub descriptor : p.descriptor ≡ drop 4 b

-- "A context is 28 bytes: format 1, the two modes, flags, descriptor, nonce of 16"; the version of its policy is not among them, and is 0
pub record ContextIn (b : Bytes) (c : Context) : Type 0 where
  pub size : length b ≡ 28
  pub format : get_or b 0 0 ≡ 1
  pub version : c.policy.version ≡ 0
  pub contents : c.policy.contents ≡ get_or b 1 0
  pub names : c.policy.names ≡ get_or b 2 0
  pub flags : c.policy.flags ≡ get_or b 3 0
  pub descriptor : c.policy.descriptor ≡ take 8 (drop 4 b)
  pub nonce : c.nonce ≡ drop 12 b

pub record PolicyMeanings : Type 0 where
  -- the test by which link, rename, exchange and set policy compare two policies is equality: all 12 bytes count
  pub same_policy_lem : (a b : Policy) → (same_policy a b ≡ true) ↔ (a ≡ b)
  pub valid : (p : Policy) → (is_valid p ≡ true) ↔ ValidPolicy p
  pub master_key_size : (p : Policy) (n : ℕ) → (is_master_key_size p n ≡ true) ↔ MasterKeySize p n
  -- "it is cut to the first 32 bytes for names"
  pub name_key_size_lem : (p : Policy) → name_key_size p ≡ 32
  -- a valid policy is read from its bytes, "All else is EINVAL"
  pub policy_taken_lem : (b : Bytes) (p : Policy) → (policy_answer b ≡ taken p) ↔ (PolicyIn b p × ValidPolicy p)
  pub policy_refused : (b : Bytes) (n : ℕ) → (policy_answer b ≡ refused n) ↔ ((n ≡ 22) × ((p : Policy) → PolicyIn b p → ValidPolicy p → ⊥))
  -- "Reading one accepts exactly 28 bytes, format 1 and a valid policy, else EINVAL"
  pub context_taken_lem : (b : Bytes) (c : Context) → (context_answer b ≡ taken c) ↔ (ContextIn b c × ValidPolicy c.policy)
  pub context_refused : (b : Bytes) (n : ℕ) → (context_answer b ≡ refused n) ↔ ((n ≡ 22) × ((c : Context) → ContextIn b c → ValidPolicy c.policy → ⊥))
  -- "A freed record is all zeros"
  pub no_policy_lem : policy_bytes no_policy ≡ 0 ∷ 0 ∷ 0 ∷ 0 ∷ 0 ∷ 0 ∷ 0 ∷ 0 ∷ 0 ∷ 0 ∷ 0 ∷ 0 ∷ []
  pub no_context_lem : no_context.policy ≡ no_policy
  pub no_nonce : no_context.nonce ≡ 0 ∷ 0 ∷ 0 ∷ 0 ∷ 0 ∷ 0 ∷ 0 ∷ 0 ∷ 0 ∷ 0 ∷ 0 ∷ 0 ∷ 0 ∷ 0 ∷ 0 ∷ 0 ∷ []
