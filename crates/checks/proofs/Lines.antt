-- What the search reads of the lines of tables of checks: each line by its equations, the tests of numbers, and what a check of a name or of a policy tells.
-- Assumes nothing.
use mathlib.Core.Path.{◌≡◌, refl, sym}
use mathlib.Core.Logic.{◌⊎◌, inl, inr}
use Prim.Native.Nat.{◌≤◌}
use lib.ListN.{length}
use Rattle.lists.specs.Bytes.{Bytes}
use Rattle.errno.specs.Refusals.{Checked, refuse, check_of}
use Rattle.errno.specs.declared.Errno.{Errno}
use Rattle.errno.proofs.Chains.{tables}
use Rattle.policy.specs.Policies.{policy_check, read_policy}
use Rattle.policy.proofs.Codec.{read_policy_checked}
use Rattle.fscrypt.specs.Names.{name_check}
use Rattle.fscrypt.proofs.Padding.{name_fits}
use Rattle.std.specs.Prelude.{Ok, Err}
use Rattle.std.proofs.lemmas.Bool.Decides.{nat_tests}

-- a name fits, or its check refuses
pub fits : (n : Bytes) → (length n ≤ 255) ⊎ ((e : Errno) × (name_check n ≡ refuse e))
fits n = by_check (name_check n) refl
  where
    by_check : (c : Checked) → name_check n ≡ c → (length n ≤ 255) ⊎ ((e : Errno) × (name_check n ≡ refuse e))
    by_check (Ok _) h = inl (name_fits n h)
    by_check (Err e) h = inr (e, h)

-- the check of a policy's bytes refuses where the read does
pub read : (b : Bytes) → policy_check b ≡ check_of (read_policy b)
read b = sym (read_policy_checked b)

pub ruleset lines = (tables, fits, read, nat_tests)
