-- `text_again`: by the law that `cts_encrypt` undoes `cts_decrypt`, and by what the two entries ensure. Assumes nothing.
use Rattle.std.proofs.Common.{rules}
use Rattle.ciphers.specs.Entries.{cts_decrypt, cts_encrypt}
use Rattle.ciphers.proofs.Laws.{buffer_left, cts_encrypt_cts_decrypt}
use Rattle.label_printer.proofs.Back.{back}
use Rattle.label_printer.proofs.text_again.Goals as goal

pub returns : goal.returns
returns c =
    let s = c.args in
    back (cts_decrypt s.key.now s.text.now) (cts_encrypt s.key.now) _ _ _ _
    (cts_encrypt_cts_decrypt s.key.now s.text.now (search rules) (search rules))
    (buffer_left _ _ _ c.cts_decrypt.ensures) c.cts_encrypt.ensures
