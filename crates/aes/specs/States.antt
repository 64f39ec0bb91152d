-- The state and its transformations, FIPS 197 sections 3.4, 5.1.1 to 5.1.4 and 5.3.1 to 5.3.4. s.c1.r2 is FIPS 197's s[2,1]. Assumes nothing.
use Rattle.std.specs.Prelude.{List, ℕ, ◌+◌}
use Rattle.aes.specs.Words.{mix_column, inv_mix_column, sub_word, inv_sub_word, add_word, word_at}
use Rattle.aes.specs.declared.Word.{Word}
use Rattle.aes.specs.declared.State.{State}

-- 3.4 the state whose 16 bytes start at a position of a list, column after column; past the list's end it has zeros
unfoldable pub state_at : List ℕ → ℕ → State
state_at l i = record { c0 = word_at l i; c1 = word_at l (i + 4); c2 = word_at l (i + 8); c3 = word_at l (i + 12) }

-- 5.1.1 SubBytes
unfoldable pub sub_bytes : State → State
sub_bytes s = record { c0 = sub_word s.c0; c1 = sub_word s.c1; c2 = sub_word s.c2; c3 = sub_word s.c3 }

-- one byte of each of four columns: row 0 of the first, row 1 of the second, row 2 of the third and row 3 of the fourth
abbrev pub diagonal : Word → Word → Word → Word → Word
diagonal p q r s = record { r0 = p.r0; r1 = q.r1; r2 = r.r2; r3 = s.r3 }

-- 5.1.2 ShiftRows: row r moves r places to the left
unfoldable pub shift_rows : State → State
shift_rows s =
    record {
      c0 = diagonal s.c0 s.c1 s.c2 s.c3;
      c1 = diagonal s.c1 s.c2 s.c3 s.c0;
      c2 = diagonal s.c2 s.c3 s.c0 s.c1;
      c3 = diagonal s.c3 s.c0 s.c1 s.c2;
    }

-- 5.1.3 MixColumns
unfoldable pub mix_columns : State → State
mix_columns s = record { c0 = mix_column s.c0; c1 = mix_column s.c1; c2 = mix_column s.c2; c3 = mix_column s.c3 }

-- 5.1.4 AddRoundKey, its own inverse (5.3.4)
unfoldable pub add_round_key : State → State → State
add_round_key s k =
    record { c0 = add_word s.c0 k.c0; c1 = add_word s.c1 k.c1; c2 = add_word s.c2 k.c2; c3 = add_word s.c3 k.c3 }

-- 5.3.1 InvShiftRows: row r moves r places to the right
unfoldable pub inv_shift_rows : State → State
inv_shift_rows s =
    record {
      c0 = diagonal s.c0 s.c3 s.c2 s.c1;
      c1 = diagonal s.c1 s.c0 s.c3 s.c2;
      c2 = diagonal s.c2 s.c1 s.c0 s.c3;
      c3 = diagonal s.c3 s.c2 s.c1 s.c0;
    }

-- 5.3.2 InvSubBytes
unfoldable pub inv_sub_bytes : State → State
inv_sub_bytes s = record { c0 = inv_sub_word s.c0; c1 = inv_sub_word s.c1; c2 = inv_sub_word s.c2; c3 = inv_sub_word s.c3 }

-- 5.3.3 InvMixColumns
unfoldable pub inv_mix_columns : State → State
inv_mix_columns s = record { c0 = inv_mix_column s.c0; c1 = inv_mix_column s.c1; c2 = inv_mix_column s.c2; c3 = inv_mix_column s.c3 }
