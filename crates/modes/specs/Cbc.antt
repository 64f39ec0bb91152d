-- CBC, NIST SP 800-38A section 6.2: a step of it each way, for a walk over blocks. C_0 is the initialization vector. Assumes nothing.
use Rattle.std.specs.Prelude.{List, ℕ}
use Rattle.aes.specs.States.{add_round_key}
use Rattle.aes.specs.Cipher.{cipher, inv_cipher}
use Rattle.aes.specs.declared.State.{State}

-- CBC encryption: C_i is P_i, with C_(i-1) added, enciphered; C_i is carried on
unfoldable pub cbc_step : List ℕ → ℕ → State → State → State
cbc_step w nr c p = cipher w nr (add_round_key p c)

abbrev pub cbc_next : State → State → State → State
cbc_next c p o = o

-- CBC decryption: C_(i-1) is added after deciphering; the block that was read is carried on
unfoldable pub cbc_inv_step : List ℕ → ℕ → State → State → State
cbc_inv_step w nr c o = add_round_key (inv_cipher w nr o) c

abbrev pub cbc_inv_next : State → State → State → State
cbc_inv_next c o p = o
