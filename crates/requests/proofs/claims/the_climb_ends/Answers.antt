-- `the_climb_ends`: the theorem `budget` of volume, which every sound volume has, for fscrypt's ciphers, which are lawful. Assumes nothing.
use Rattle.fscrypt.specs.Cipher.{fscrypt}
use Rattle.fscrypt.proofs.Lawfulness.{fscrypt_lawful}
use Rattle.volume.proofs.Soundness.{sound, budget}
use Rattle.requests.proofs.claims.the_climb_ends.Goals as goal

pub returns : goal.returns
returns c = λ rs t m h. budget m.volume (sound fscrypt fscrypt_lawful rs t m h)
