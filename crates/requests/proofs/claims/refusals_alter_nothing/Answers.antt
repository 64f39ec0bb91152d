-- `refusals_alter_nothing`: the theorem `leaves` of volume, which holds of any cipher. Assumes nothing.
use Rattle.fscrypt.specs.Cipher.{fscrypt}
use Rattle.volume.proofs.Leaves.{leaves}
use Rattle.requests.proofs.claims.refusals_alter_nothing.Goals as goal

pub returns : goal.returns
returns c = leaves fscrypt
