-- The starred cases of document 01, "The bench's worked cases", as one table. proofs/Starred.antt proves the single statement about it. Assumes nothing.
use Rattle.std.specs.Prelude.{ℕ, ◌≡◌, List, [], ◌∷◌, ◌++◌, length, replicate}
use Rattle.lists.specs.Bytes.{Bytes, zeros}
use Rattle.errno.specs.declared.Errno.TheVariants.{EINVAL}
use Rattle.policy.specs.Policies.{policy_check}
use Rattle.fscrypt.specs.Names.{padded_length}
use Rattle.fscrypt.specs.Encoded.{encoded}
use Rattle.errno.specs.Refusals.{Checked, fine, refuse}

pub data Case : Type 0 where
  -- a name of this length, under these flags, is padded to this length
  padding : (name flags expected : ℕ) → Case
  -- these stored bytes are shown so without the key
  keyless : (stored expected : Bytes) → Case
  -- a policy that begins with these four bytes, before a descriptor
  policy : (start : Bytes) (expected : Checked) → Case

abbrev pub Holds : Case → Type 0
Holds (padding n flags m) = padded_length flags n ≡ m
Holds (keyless s t) = (entry : ℕ) → encoded s entry ≡ t
Holds (policy start c) = (descriptor : Bytes) → length descriptor ≡ 8 → policy_check (start ++ descriptor) ≡ c

abbrev pub AllHold : List Case → Type 0
AllHold [] = Unit {0}
AllHold (c ∷ cs) = Holds c × AllHold cs

abbrev pub starred_cases : List Case
starred_cases =
    padding 1 0 16
    ∷ padding 16 0 16
    ∷ padding 17 0 20
    ∷ padding 1 3 32
    ∷ padding 33 3 64
    ∷ padding 224 3 224
    ∷ padding 225 3 225
    ∷ padding 252 0 252
    ∷ keyless (zeros 16) (replicate 22 65)
    ∷ policy (0x00 ∷ 0x01 ∷ 0x04 ∷ 0x03 ∷ []) fine
    ∷ policy (0x00 ∷ 0x01 ∷ 0x04 ∷ 0x04 ∷ []) (refuse EINVAL)
    ∷ policy (0x00 ∷ 0x05 ∷ 0x06 ∷ 0x00 ∷ []) (refuse EINVAL)
    ∷ []
