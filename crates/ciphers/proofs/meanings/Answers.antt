-- `meanings`: the laws of Meant, of each entry and of tweaks, and those that modes proves of its definitions. Assumes nothing.
use Rattle.modes.proofs.Meant.{mode_meanings}
use Rattle.ciphers.proofs.Meant as meant
use Rattle.ciphers.proofs.meanings.Goals as goal

pub returns : goal.returns
returns c = record {
  cts_encrypt_lem = meant.cts_encrypt_lem;
  cts_decrypt_lem = meant.cts_decrypt_lem;
  xts_encrypt_lem = meant.xts_encrypt_lem;
  xts_decrypt_lem = meant.xts_decrypt_lem;
  ecb_encrypt_lem = meant.ecb_encrypt_lem;
  tweaks_own = meant.tweaks_own;
  modes = mode_meanings;
}
