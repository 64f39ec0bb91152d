-- `decrypt_name`: what is read is what was decrypted. Assumes nothing.
use Prim.Native.Nat.{ℕ}
use mathlib.Core.Path.{ap, ◌∙◌}
use lib.ListN.{take}
use Rattle.ciphers.proofs.Laws.{buffer_left}
use Rattle.fscrypt.specs.Cipher.{decrypt_name}
use Rattle.fscrypt.specs.Names.{read_padded}
use Rattle.fscrypt.proofs.fname.decrypt_name.Goals as goal

pub returns : goal.returns
unfolding decrypt_name
returns c =
    let text = buffer_left _ _ _ c.cts_decrypt.ensures ∙ ap (λ (k : ℕ). decrypt_name c.args.key.now (take k c.args.stored.bytes)) c.from.ensures in
    c.read_padded.ensures ∙ ap (read_padded c.args.flags) text
