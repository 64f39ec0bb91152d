-- `names_and_blocks_are_under_their_keys`: the theorem `under_keys` of volume, for fscrypt's ciphers. Assumes nothing.
use Rattle.fscrypt.specs.Cipher.{fscrypt}
use Rattle.volume.proofs.UnderKeys.{under_keys}
use Rattle.requests.proofs.claims.names_and_blocks_are_under_their_keys.Goals as goal

pub returns : goal.returns
returns c = under_keys fscrypt
