-- What the definitions of the modes come to, in terms of numbers and of plain CBC. Assumes nothing.
use Rattle.std.specs.Prelude.{◌≡◌, [], ◌∷◌, ◌++◌, ℕ, ◌+◌, ◌-◌, ◌*◌, ◌/◌, ◌%◌, ◌^◌, ◌<◌, length, take, drop, get_or}
use Rattle.lists.specs.Bytes.{Bytes, ByteList, zeros}
use Rattle.field.specs.Field.{◌⊕◌}
use Rattle.aes.specs.Bytes.{state_bytes}
use Rattle.aes.specs.declared.State.{State}
use Rattle.modes.specs.Walk.{walked}
use Rattle.modes.specs.Blocks.{number_block}
use Rattle.modes.specs.Xts.{times_alpha}
use Rattle.modes.specs.Cbc.{cbc_step, cbc_next}
use Rattle.modes.specs.Cts.{cbc_cs3_encrypt}

-- the number that bytes stand for, the lowest first
abbrev pub little_endian : Bytes → ℕ
little_endian [] = 0
little_endian (b ∷ bs) = b + 256 * little_endian bs

-- IEEE 1619 section 5.2: x^128 + x^7 + x^2 + x + 1, whose coefficient of x^i is binary digit i
abbrev pub alpha_modulus : ℕ
alpha_modulus = 2 ^ 128 + 2 ^ 7 + 2 ^ 2 + 2 + 1

-- n blocks, of which the last two are exchanged
abbrev pub last_two_swapped : Bytes → ℕ → Bytes
last_two_swapped c n = take (16 * (n - 2)) c ++ drop (16 * (n - 1)) c ++ take 16 (drop (16 * (n - 2)) c)

-- CBC of a text of n blocks, the last of which is filled up with zeros
abbrev pub cbc_padded : Bytes → ℕ → State → Bytes → ℕ → Bytes
cbc_padded w nr iv l n = walked (cbc_step w nr) cbc_next (l ++ zeros (16 * n - length l)) iv n

pub record ModeMeanings : Type 0 where
  -- document 01: "the tweak's start is the block number, any 64-bit value, low byte first, then eight zeros"
  pub number_byte : (n i : ℕ) → i < 8 → get_or (state_bytes (number_block n)) i 0 ≡ n / 256 ^ i % 256
  pub number_zeros : (n : ℕ) → drop 8 (state_bytes (number_block n)) ≡ zeros 8
  -- so two numbers have two blocks
  pub number_own : (m n : ℕ) → m < 2 ^ 64 → n < 2 ^ 64 → number_block m ≡ number_block n → m ≡ n
  -- multiplication by α is multiplication by x, less the modulus where x^128 comes out
  pub times_x : (t : State) → ByteList (state_bytes t)
      → little_endian (state_bytes (times_alpha t)) ≡ (2 * little_endian (state_bytes t)) ⊕ (little_endian (state_bytes t) / 2 ^ 127 * alpha_modulus)
  -- ciphertext stealing: the last two blocks of CBC are exchanged, and the text's length is kept
  pub stolen : (w : Bytes) (nr : ℕ) (iv : State) (l : Bytes) → 16 < length l
      → cbc_cs3_encrypt w nr iv l ≡ take (length l) (last_two_swapped (cbc_padded w nr iv l ((length l + 15) / 16)) ((length l + 15) / 16))
