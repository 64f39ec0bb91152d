-- `fscrypt::crypto::seal_block` meets its contract: the block is as the cipher left it. Assumes nothing.
use Rattle.ciphers.proofs.Laws.{buffer_left}
use Rattle.fscrypt.specs.Cipher.{seal}
use Rattle.fscrypt.proofs.crypto.seal_block.Goals as goal

pub returns : goal.returns
unfolding seal
returns c = search buffer_left
