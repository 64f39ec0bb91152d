-- `policies_hold`: the theorem `policy_clause` of volume, for fscrypt's ciphers, which are lawful. Assumes nothing.
use Rattle.fscrypt.specs.Cipher.{fscrypt}
use Rattle.fscrypt.proofs.Lawfulness.{fscrypt_lawful}
use Rattle.volume.proofs.PolicyClause.{policy_clause}
use Rattle.requests.proofs.claims.policies_hold.Goals as goal

pub returns : goal.returns
returns c = policy_clause fscrypt fscrypt_lawful
