-- The starred cases of document 01 hold of the definitions: one statement about the whole table, computed. Assumes nothing.
use Prim.Native.Nat.{ℕ}
use mathlib.Core.Path.{◌≡◌, refl}
use mathlib.Core.Bool.{not}
use mathlib.Core.List.{◌∷◌}
use lib.ListN.{length}
use Rattle.lists.specs.Bytes.{Bytes, zeros}
use Rattle.errno.specs.Refusals.{fine, ◌⇒◌, ◌>>◌}
use Rattle.errno.specs.declared.Errno.TheVariants.{EINVAL}
use Rattle.policy.specs.Policies.{is_pair, is_valid, policy_at, policy_check}
use Rattle.fscrypt.specs.Names.{rounded, padded_length}
use Rattle.fscrypt.specs.Encoded.{letter, letters, encoded}
use Rattle.volume.specs.Cases.{AllHold, starred_cases}

-- with a descriptor of 8 bytes the length is right, and the other checks read the start alone
started : (a b c f : ℕ) (d : Bytes) → length d ≡ 8 → policy_check (a ∷ b ∷ c ∷ f ∷ d) ≡ ◌>>◌ (not (is_valid (policy_at a (a ∷ b ∷ c ∷ f ∷ d))) ⇒ EINVAL) fine
unfolding policy_check ◌⇒◌ ◌>>◌
started a b c f d h = rw h

pub starred : AllHold starred_cases
unfolding padded_length rounded encoded letters letter zeros is_valid is_pair policy_at ◌⇒◌ ◌>>◌
starred =
    (refl, (refl, (refl, (refl, (refl, (refl, (refl, (refl, (λ entry. refl, (started 0x00 0x01 0x04 0x03, (started 0x00 0x01 0x04 0x04, (started 0x00 0x05 0x06 0x00, tt))))))))))))
