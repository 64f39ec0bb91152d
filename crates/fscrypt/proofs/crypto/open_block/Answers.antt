-- `fscrypt::crypto::open_block` meets its contract: the block is as the cipher left it. Assumes nothing.
use Rattle.ciphers.proofs.Laws.{buffer_left}
use Rattle.fscrypt.specs.Cipher.{unseal}
use Rattle.fscrypt.proofs.crypto.open_block.Goals as goal

pub returns : goal.returns
unfolding unseal
returns c = search buffer_left
