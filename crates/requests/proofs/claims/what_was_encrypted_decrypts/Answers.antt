-- `what_was_encrypted_decrypts`: the theorem `sealed_opens` of volume, for fscrypt's ciphers, which are lawful. Assumes nothing.
use Rattle.fscrypt.specs.Cipher.{fscrypt}
use Rattle.fscrypt.proofs.Lawfulness.{fscrypt_lawful}
use Rattle.volume.proofs.SealedOpens.{sealed_opens}
use Rattle.requests.proofs.claims.what_was_encrypted_decrypts.Goals as goal

pub returns : goal.returns
returns c = sealed_opens fscrypt fscrypt_lawful
