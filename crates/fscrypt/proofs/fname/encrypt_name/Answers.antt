-- `encrypt_name`: encryption in place keeps the length, so that the name stays packed. Assumes nothing.
use Prim.Native.Nat.{ℕ}
use mathlib.Core.Path.{ap, ap₂, ◌∙◌}
use mathlib.Core.List.{◌++◌}
use lib.ListN.{take, drop}
use Rattle.lists.specs.Bytes.{Bytes}
use Rattle.ciphers.proofs.Laws.{buffer_left}
use Rattle.fscrypt.specs.Cipher.{encrypt_name}
use Rattle.fscrypt.proofs.Packing.{encrypted_packed}
use Rattle.fscrypt.proofs.fname.encrypt_name.Goals as goal

pub returns : goal.returns
unfolding encrypt_name
returns c =
    let x = c.pad-len.result in
    let text = buffer_left _ _ _ c.cts_encrypt.ensures ∙ ap (λ (k : ℕ). encrypt_name c.args.key.now (take k x.bytes)) c.from.ensures in
    encrypted_packed c.args.key.now c.args.flags c.args.name.now x _ c.pad-len.ensures (ap₂ (λ (b : Bytes) (k : ℕ). b ++ drop k x.bytes) text c.from.ensures)
