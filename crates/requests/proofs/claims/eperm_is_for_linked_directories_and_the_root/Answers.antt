-- `eperm_is_for_linked_directories_and_the_root`: the theorem `permission_clause` of volume, for fscrypt's ciphers. Assumes nothing.
use Rattle.fscrypt.specs.Cipher.{fscrypt}
use Rattle.volume.proofs.NotPermitted.{permission_clause}
use Rattle.requests.proofs.claims.eperm_is_for_linked_directories_and_the_root.Goals as goal

pub returns : goal.returns
returns c = permission_clause fscrypt
