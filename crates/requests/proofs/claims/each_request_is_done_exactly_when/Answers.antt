-- `each_request_is_done_exactly_when`: the theorem `done_when` of volume, for fscrypt's ciphers. Assumes nothing.
use Rattle.fscrypt.specs.Cipher.{fscrypt}
use Rattle.volume.proofs.DoneWhen.{done_when}
use Rattle.requests.proofs.claims.each_request_is_done_exactly_when.Goals as goal

pub returns : goal.returns
returns c = done_when fscrypt
