-- `shown_names_keep_their_promise`: the theorem `promise_kept` of volume, for fscrypt's ciphers, which are lawful. Assumes nothing.
use Rattle.fscrypt.specs.Cipher.{fscrypt}
use Rattle.fscrypt.proofs.Lawfulness.{fscrypt_lawful}
use Rattle.volume.proofs.ShownApart.{promise_kept}
use Rattle.requests.proofs.claims.shown_names_keep_their_promise.Goals as goal

pub returns : goal.returns
returns c = promise_kept fscrypt fscrypt_lawful
