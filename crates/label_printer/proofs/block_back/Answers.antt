-- `block_back`: by the law that `xts_decrypt` undoes `xts_encrypt`, and by what the two entries ensure. Assumes nothing.
use Rattle.std.proofs.Common.{rules}
use Rattle.ciphers.specs.Entries.{xts_encrypt, xts_decrypt}
use Rattle.ciphers.proofs.Laws.{buffer_left, xts_decrypt_xts_encrypt}
use Rattle.label_printer.proofs.Back.{back}
use Rattle.label_printer.proofs.block_back.Goals as goal

pub returns : goal.returns
returns c =
    let s = c.args in
    back (xts_encrypt s.key.now s.block_number s.block.now) (xts_decrypt s.key.now s.block_number) _ _ _ _
    (xts_decrypt_xts_encrypt s.key.now s.block_number s.block.now (search rules) (search rules))
    (buffer_left _ _ _ c.xts_encrypt.ensures) c.xts_decrypt.ensures
