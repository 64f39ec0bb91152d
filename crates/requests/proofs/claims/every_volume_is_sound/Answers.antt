-- `every_volume_is_sound`: the theorems `sound` and `bytewise` of volume, for fscrypt's ciphers, which are lawful. Assumes nothing.
use Rattle.fscrypt.specs.Cipher.{fscrypt}
use Rattle.fscrypt.proofs.Lawfulness.{fscrypt_lawful}
use Rattle.volume.proofs.Soundness.{fresh_sound, sound, fresh_bytes, bytewise}
use Rattle.requests.proofs.claims.every_volume_is_sound.Goals as goal

pub returns : goal.returns
returns c = (fresh_sound, fresh_bytes, λ rs t m h. (sound fscrypt fscrypt_lawful rs t m h, bytewise fscrypt fscrypt_lawful rs t m h))
