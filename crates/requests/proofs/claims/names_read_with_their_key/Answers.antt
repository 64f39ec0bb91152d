-- `names_read_with_their_key`: the theorem `every_run_keyed_fscrypt` of volume, for fscrypt's ciphers, which are lawful. Assumes nothing.
use Rattle.volume.proofs.KeyedNames.{every_run_keyed_fscrypt}
use Rattle.requests.proofs.claims.names_read_with_their_key.Goals as goal

pub returns : goal.returns
returns c = every_run_keyed_fscrypt
