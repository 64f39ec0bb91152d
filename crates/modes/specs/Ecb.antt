-- ECB, NIST SP 800-38A section 6.1: each block is enciphered by itself. Assumes nothing.
use Rattle.std.specs.Prelude.{List, [], ◌++◌, ℕ, zero, suc, ◌*◌}
use Rattle.aes.specs.States.{state_at}
use Rattle.aes.specs.Bytes.{state_bytes}
use Rattle.aes.specs.Cipher.{cipher}

-- the first m blocks of a list, enciphered
unfoldable pub ecb_blocks : List ℕ → ℕ → List ℕ → ℕ → List ℕ
ecb_blocks w nr l zero = []
ecb_blocks w nr l (suc i) = ecb_blocks w nr l i ++ state_bytes (cipher w nr (state_at l (16 * i)))
