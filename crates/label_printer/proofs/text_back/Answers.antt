-- `text_back`: by the law that `cts_decrypt` undoes `cts_encrypt`, and by what the two entries ensure. Assumes nothing.
use Rattle.std.proofs.Common.{rules}
use Rattle.ciphers.specs.Entries.{cts_encrypt, cts_decrypt}
use Rattle.ciphers.proofs.Laws.{buffer_left, cts_decrypt_cts_encrypt}
use Rattle.label_printer.proofs.Back.{back}
use Rattle.label_printer.proofs.text_back.Goals as goal

pub returns : goal.returns
returns c =
    let s = c.args in
    back (cts_encrypt s.key.now s.text.now) (cts_decrypt s.key.now) _ _ _ _
    (cts_decrypt_cts_encrypt s.key.now s.text.now (search rules) (search rules))
    (buffer_left _ _ _ c.cts_encrypt.ensures) c.cts_decrypt.ensures
