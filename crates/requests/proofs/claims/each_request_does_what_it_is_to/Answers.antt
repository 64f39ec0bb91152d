-- `each_request_does_what_it_is_to`: the theorem `does` of volume, for fscrypt's ciphers. Assumes nothing.
use Rattle.fscrypt.specs.Cipher.{fscrypt}
use Rattle.volume.proofs.Does.{does}
use Rattle.requests.proofs.claims.each_request_does_what_it_is_to.Goals as goal

pub returns : goal.returns
returns c = does fscrypt
