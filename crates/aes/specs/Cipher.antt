-- Cipher and InvCipher, FIPS 197 sections 5.1 and 5.3, over the key schedule w, as bytes, and the number of rounds nr. Assumes nothing.
use Rattle.std.specs.Prelude.{List, ℕ, zero, suc, ◌-◌, ◌*◌}
use Rattle.aes.specs.States.{sub_bytes, inv_sub_bytes, shift_rows, inv_shift_rows, mix_columns, inv_mix_columns, add_round_key, state_at}
use Rattle.aes.specs.declared.State.{State}

-- the round key of round i: w[4 i] to w[4 i + 3], 16 bytes of the key schedule
unfoldable pub round_key : List ℕ → ℕ → State
round_key w i = state_at w (16 * i)

-- ---- Cipher, algorithm 1

-- lines 5 to 8
unfoldable pub round : List ℕ → ℕ → State → State
round w i s = add_round_key (mix_columns (shift_rows (sub_bytes s))) (round_key w i)

-- lines 10 to 12: the last round does not mix
unfoldable pub last_round : List ℕ → ℕ → State → State
last_round w i s = add_round_key (shift_rows (sub_bytes s)) (round_key w i)

-- rounds 1 to i
unfoldable pub rounds : List ℕ → ℕ → State → State
rounds w zero s = s
rounds w (suc i) s = round w (suc i) (rounds w i s)

unfoldable pub cipher : List ℕ → ℕ → State → State
cipher w nr s = last_round w nr (rounds w (nr - 1) (add_round_key s (round_key w 0)))

-- ---- InvCipher, algorithm 3

-- lines 5 to 8
unfoldable pub inv_round : List ℕ → ℕ → State → State
inv_round w i s = inv_mix_columns (add_round_key (inv_sub_bytes (inv_shift_rows s)) (round_key w i))

-- lines 10 to 12
unfoldable pub inv_last_round : List ℕ → State → State
inv_last_round w s = add_round_key (inv_sub_bytes (inv_shift_rows s)) (round_key w 0)

-- rounds i down to 1
unfoldable pub inv_rounds : List ℕ → ℕ → State → State
inv_rounds w zero s = s
inv_rounds w (suc i) s = inv_rounds w i (inv_round w (suc i) s)

unfoldable pub inv_cipher : List ℕ → ℕ → State → State
inv_cipher w nr s = inv_last_round w (inv_rounds w (nr - 1) (add_round_key s (round_key w nr)))
