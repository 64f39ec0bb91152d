-- `two_runs_agree`: the theorem `two_runs_fscrypt` of volume, for fscrypt's ciphers, which are lawful. Assumes nothing.
use Rattle.volume.proofs.Corollaries.{two_runs_fscrypt}
use Rattle.requests.proofs.claims.two_runs_agree.Goals as goal

pub returns : goal.returns
returns c = two_runs_fscrypt
