-- What reading a policy and a context comes to where the checks pass. Assumes nothing.
use mathlib.Core.Path.{◌≡◌}
use mathlib.Core.Bool.{true}
use Rattle.std.specs.Prelude.{Ok}
use lib.ListN.{length, get_or}
use borrow.Author.Tests.{eq-eqb}
use Rattle.lists.specs.Bytes.{Bytes}
use Rattle.errno.specs.Refusals.{◌⇒◌, ◌>>◌}
use Rattle.policy.specs.Policies.{is_valid, policy_at, context_at, policy_check, context_check, read_policy, read_context}

-- ---- policies

module _ (b : Bytes) where
  pub policy_fine : length b ≡ 12 → is_valid (policy_at (get_or b 0 0) b) ≡ true → read_policy b ≡ Ok (policy_at (get_or b 0 0) b)
  unfolding read_policy policy_check ◌>>◌ ◌⇒◌
  policy_fine l v = simp (eq-eqb (length b) 12 l, v)

-- ---- contexts

module _ (b : Bytes) where
  pub context_fine : length b ≡ 28 → get_or b 0 0 ≡ 1 → is_valid (policy_at 0 b) ≡ true → read_context b ≡ Ok (context_at b)
  unfolding read_context context_check ◌>>◌ ◌⇒◌
  context_fine l f v = simp (eq-eqb (length b) 28 l, eq-eqb (get_or b 0 0) 1 f, v)
