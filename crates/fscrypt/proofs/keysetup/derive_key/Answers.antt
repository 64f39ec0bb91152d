-- `fscrypt::keysetup::derive_key` meets its contract: the buffer is as the cipher left it. Assumes nothing.
use Rattle.ciphers.proofs.Laws.{buffer_left}
use Rattle.fscrypt.specs.Cipher.{derive}
use Rattle.fscrypt.proofs.keysetup.derive_key.Goals as goal

pub returns : goal.returns
unfolding derive
returns c = search buffer_left
