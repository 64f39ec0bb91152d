-- The policy test says what it is to say: an inode that an encrypted directory does not refuse bears the directory's policy or is special, and one that it
-- refuses lacks it. The one place that opens `is_policy_refused`. Assumes nothing.
use mathlib.Core.Path.{◌≡◌, sym, ◌∙◌, ap, ap₂}
use mathlib.Core.Bool.{true, false, not, ◌&&◌, true≢false}
use native.Mathlib.Omega.{arith}
use lib.Dec.{leb}
use borrow.Author.Tests.{leb-true, le-leb}
use Rattle.lists.proofs.Tests.{not-false, and_left, and_right, and_known}
use Rattle.policy.proofs.Meanings.{same_policy_lem}
use Rattle.volume.specs.Checks.{is_policy_refused}
use Rattle.volume.specs.Sound.{MayHold}
use Rattle.volume.specs.PolicyClause.{WouldLack}
use Rattle.volume.specs.declared.Inode.{Inode}

module _ (dir node : Inode) where
  pub may_hold : is_policy_refused dir node ≡ false → MayHold dir node
  unfolding is_policy_refused
  may_hold h e k =
      let t = not-false (and_known (le-leb node.kind _ (omega arith)) (and_known e h)) in
      record { has_context = and_left node.encrypted _ t; same = (same_policy_lem _ _).0 (and_right node.encrypted _ t) }

  pub lacks_policy : is_policy_refused dir node ≡ true → WouldLack dir node
  unfolding is_policy_refused
  lacks_policy t =
      let r = and_right dir.encrypted _ t in
      let k = leb-true node.kind _ (and_left (leb node.kind _) _ r) in
      record {
        is_encrypted = and_left dir.encrypted _ t;
        not_special = omega arith;
        lacks = λ p. true≢false (sym (and_right (leb node.kind _) _ r) ∙ ap not (ap₂ ◌&&◌ p.has_context ((same_policy_lem _ _).1 p.same)));
      }

  pub not_lacking : is_policy_refused dir node ≡ false → WouldLack dir node → ⊥
  not_lacking h w = w.lacks (may_hold h w.is_encrypted w.not_special)
