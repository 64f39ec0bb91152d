-- CBC with ciphertext stealing, CBC-CS3: the addendum to NIST SP 800-38A, over a text of 16 bytes or more, which is P_1 .. P_n of 16 bytes each,
-- but for the last, which may be shorter. CBC itself is in Cbc.antt. Assumes nothing.
use Rattle.std.specs.Prelude.{cond, List, ◌++◌, ℕ, ◌+◌, ◌-◌, ◌*◌, ◌/◌, ltb, length, take, drop, get_or}
use Rattle.aes.specs.States.{add_round_key, state_at}
use Rattle.aes.specs.Bytes.{state_bytes}
use Rattle.aes.specs.Cipher.{inv_cipher}
use Rattle.aes.specs.declared.Word.{Word}
use Rattle.aes.specs.declared.State.{State}
use Rattle.modes.specs.Walk.{carried, walked}
use Rattle.modes.specs.Cbc.{cbc_step, cbc_next, cbc_inv_step, cbc_inv_next}

-- ---- the last two blocks, a list l of P_(n-1) and P_n, which change order

-- C_n, and as many bytes of C_(n-1) as P_n has. P_n is padded with zeros, which is how a block is read past the end of a list
unfoldable pub last_two : List ℕ → ℕ → State → List ℕ → List ℕ
last_two w nr c l =
    let a : State = cbc_step w nr c (state_at l 0) in
    state_bytes (cbc_step w nr a (state_at l 16)) ++ take (length l - 16) (state_bytes a)

-- four bytes at a position of a list, with those of w where they lie past the list's end
unfoldable pub filled_word : List ℕ → ℕ → Word → Word
filled_word l i w = record { r0 = get_or l i w.r0; r1 = get_or l (i + 1) w.r1; r2 = get_or l (i + 2) w.r2; r3 = get_or l (i + 3) w.r3 }

-- the same of a block, with the bytes of s
unfoldable pub filled : List ℕ → ℕ → State → State
filled l i s =
    record { c0 = filled_word l i s.c0; c1 = filled_word l (i + 4) s.c1; c2 = filled_word l (i + 8) s.c2; c3 = filled_word l (i + 12) s.c3 }

-- C_n is deciphered to z, whose last bytes are those that C_(n-1) lacks: with them it is whole again, and P_n is z with C_(n-1) added
unfoldable pub inv_last_two : List ℕ → ℕ → State → List ℕ → List ℕ
inv_last_two w nr c l =
    let z : State = inv_cipher w nr (state_at l 0) in
    let a : State = filled l 16 z in
    state_bytes (cbc_inv_step w nr c a) ++ take (length l - 16) (state_bytes (add_round_key z a))

-- ---- either direction: a step of CBC, what it carries on, and what becomes of the last two blocks

module _ (step : State → State → State) (next : State → State → State → State) (last : State → List ℕ → List ℕ) where
  -- a text of n = m + 2 blocks: m blocks by CBC, and the last two
  unfoldable pub long : State → List ℕ → ℕ → List ℕ
  long iv l m = walked step next l iv m ++ last (carried step next l iv m) (drop (16 * m) l)

  -- of l bytes, above 16, n is l / 16 rounded up, so m is (l - 17) / 16; a text of 16 bytes is one block of CBC
  unfoldable pub cs3 : State → List ℕ → List ℕ
  cs3 iv l = cond (ltb 16 (length l)) (long iv l ((length l - 17) / 16)) (walked step next l iv 1)

-- ---- CBC-CS3-Encrypt and CBC-CS3-Decrypt

abbrev pub cbc_cs3_encrypt : List ℕ → ℕ → State → List ℕ → List ℕ
cbc_cs3_encrypt w nr = cs3 (cbc_step w nr) cbc_next (last_two w nr)

abbrev pub cbc_cs3_decrypt : List ℕ → ℕ → State → List ℕ → List ℕ
cbc_cs3_decrypt w nr = cs3 (cbc_inv_step w nr) cbc_inv_next (inv_last_two w nr)
