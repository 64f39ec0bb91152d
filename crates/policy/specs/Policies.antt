-- Policies and contexts, document 01, "Policy, context, derived key": their bytes, which are valid, when two are the same, and the sizes of keys.
-- Sentences in quotation marks are document 01's, in its words. Assumes nothing.
use Rattle.std.specs.Prelude.{ℕ, ◌≡◌, Bool, cond, not, ◌&&◌, ◌∷◌, ◌++◌, length, take, drop, get_or, eqb, leb, Result, Ok, Err}
use Rattle.lists.specs.Bytes.{Bytes, same, zeros}
use Rattle.errno.specs.Refusals.{Checked, fine, number, ◌⇒◌, ◌>>◌, check_of, is_fine}
use Rattle.errno.specs.declared.Errno.{Errno}
use Rattle.errno.specs.declared.Errno.TheVariants.{EINVAL}
use Rattle.policy.specs.declared.Policy.{Policy}
use Rattle.policy.specs.declared.Context.{Context}

-- ---- which policies are valid

-- "contents 1 (AES-256-XTS) with names 4 (AES-256-CTS-CBC)"
unfoldable pub is_pair : ℕ → ℕ → Bool
is_pair contents names = eqb contents 1 && eqb names 4

-- "Valid: version 0; contents 1 .. with names 4 ..; flags 0 to 3 .. All else is EINVAL."
unfoldable pub is_valid : Policy → Bool
is_valid p = eqb p.version 0 && (is_pair p.contents p.names && leb p.flags 3)

-- slip 1: "modes and flags count, nonces don't"
unfoldable pub same_policy : Policy → Policy → Bool
same_policy a b =
    eqb a.version b.version && (eqb a.contents b.contents && (eqb a.names b.names && (eqb a.flags b.flags && same a.descriptor b.descriptor)))

-- ---- the sizes of keys, by the pair of modes (one pair so far, so the policy is not looked at)

-- "A policy's key is present when its descriptor is on the ring with a key of 64 bytes."
unfoldable pub is_master_key_size : Policy → ℕ → Bool
is_master_key_size p n = eqb n 64

-- "it is cut to the first 32 bytes for names"
unfoldable pub name_key_size : Policy → ℕ
name_key_size p = 32

-- ---- their bytes

-- modes, flags and descriptor stand alike in the bytes of a policy and of a context, after a first byte
abbrev pub field_bytes : ℕ → Policy → Bytes
field_bytes first p = first ∷ p.contents ∷ p.names ∷ p.flags ∷ p.descriptor

-- "A policy is 12 bytes: version, contents mode, names mode, flags, descriptor of 8"
unfoldable pub policy_bytes : Policy → Bytes
policy_bytes p = field_bytes p.version p

-- "A context is 28 bytes: format 1, the two modes, flags, descriptor, nonce of 16"
unfoldable pub context_bytes : Context → Bytes
context_bytes c = field_bytes 1 c.policy ++ c.nonce

unfoldable pub policy_at : ℕ → Bytes → Policy
policy_at version b = record { version = version; contents = get_or b 1 0; names = get_or b 2 0; flags = get_or b 3 0; descriptor = take 8 (drop 4 b) }

unfoldable pub context_at : Bytes → Context
context_at b = record { policy = policy_at 0 b; nonce = take 16 (drop 12 b) }

-- a freed record is all zeros
abbrev pub no_policy : Policy
no_policy = record { version = 0; contents = 0; names = 0; flags = 0; descriptor = zeros 8 }

abbrev pub no_context : Context
no_context = record { policy = no_policy; nonce = zeros 16 }

-- ---- reading

unfoldable pub policy_check : Bytes → Checked
policy_check b = do
  not (eqb (length b) 12) ⇒ EINVAL
  not (is_valid (policy_at (get_or b 0 0) b)) ⇒ EINVAL
  fine

-- "Reading one accepts exactly 28 bytes, format 1 and a valid policy, else EINVAL"
unfoldable pub context_check : Bytes → Checked
context_check b = do
  not (eqb (length b) 28) ⇒ EINVAL
  not (eqb (get_or b 0 0) 1) ⇒ EINVAL
  not (is_valid (policy_at 0 b)) ⇒ EINVAL
  fine

unfoldable pub read_policy : Bytes → Result Policy Errno
read_policy b = cond (is_fine (policy_check b)) (Ok (policy_at (get_or b 0 0) b)) (Err EINVAL)

unfoldable pub read_context : Bytes → Result Context Errno
read_context b = cond (is_fine (context_check b)) (Ok (context_at b)) (Err EINVAL)

-- the policy in what was read; where it was refused, all zeros
abbrev pub policy_in : Result Policy Errno → Policy
policy_in (Ok p) = p
policy_in (Err e) = no_policy

abbrev pub context_in : Result Context Errno → Context
context_in (Ok c) = c
context_in (Err e) = no_context

-- ---- what a read answers, in document 01's terms: the value, or the refusal's number alone

pub data Answer (A : Type 0) : Type 0 where
  taken : (value : A) → Answer A
  refused : (number : ℕ) → Answer A

-- of a check, and the value where it is passed
abbrev pub answered : {A : Type 0} → Checked → A → Answer A
answered (Ok _) value = taken value
answered (Err e) value = refused (number e)

unfoldable pub policy_answer : Bytes → Answer Policy
policy_answer b = answered (policy_check b) (policy_at (get_or b 0 0) b)

unfoldable pub context_answer : Bytes → Answer Context
context_answer b = answered (context_check b) (context_at b)

-- what the functions that read give back, which stands for this answer
pub record ReadsPolicy (b : Bytes) (r : Result Policy Errno) : Type 0 where
  pub read : r ≡ read_policy b
  pub answer : answered (check_of r) (policy_in r) ≡ policy_answer b

pub record ReadsContext (b : Bytes) (r : Result Context Errno) : Type 0 where
  pub read : r ≡ read_context b
  pub answer : answered (check_of r) (context_in r) ≡ context_answer b
