-- Document 01 of contexts: "writing then reading, and reading then writing, give back the same". So too of policies. Assumes nothing.
use Rattle.std.specs.Prelude.{◌≡◌, true, length, Ok}
use Rattle.lists.specs.Bytes.{Bytes}
use Rattle.policy.specs.Policies.{is_valid, policy_bytes, read_policy, policy_in, context_bytes, read_context, context_in}
use Rattle.policy.specs.declared.Policy.{Policy}
use Rattle.policy.specs.declared.Context.{Context}
use Rattle.errno.specs.Refusals.{fine, check_of}

-- what can be written: a descriptor and a nonce have the length of their types, and the policy is valid
pub record RoundTrips : Type 0 where
  pub written_read : (c : Context) → length c.policy.descriptor ≡ 8 → length c.nonce ≡ 16 → is_valid c.policy ≡ true
      → read_context (context_bytes c) ≡ Ok c
  pub read_written : (b : Bytes) → check_of (read_context b) ≡ fine → context_bytes (context_in (read_context b)) ≡ b
  pub policy_written_read : (p : Policy) → length p.descriptor ≡ 8 → is_valid p ≡ true → read_policy (policy_bytes p) ≡ Ok p
  pub policy_read_written : (b : Bytes) → check_of (read_policy b) ≡ fine → policy_bytes (policy_in (read_policy b)) ≡ b
