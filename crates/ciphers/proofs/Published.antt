-- Published examples, computed from the definitions of the entries: a cipher, a number of rounds, an order of blocks or a tweak other than the standards' would show.
-- Each states that the lengths are taken, and the bytes that the buffer then holds. Assumes nothing.
use Prim.Native.Nat.{ℕ, zero, suc, ◌/◌, ◌%◌, ◌^◌}
use mathlib.Core.Path.{◌≡◌, refl}
use mathlib.Core.List.{List, [], ◌∷◌, ◌++◌}
use lib.ListN.{take}
use Rattle.lists.specs.Bytes.{Bytes, zeros}
use Rattle.field.specs.Field.{◌⊕◌, polynomial_product, reduced, ◌•◌, x_times, dot}
use Rattle.field.specs.SBox.{s_box_table, s_box}
use Rattle.aes.specs.Words.{mix_column, sub_word, add_word, rot_word, word_at}
use Rattle.aes.specs.States.{sub_bytes, shift_rows, mix_columns, add_round_key, state_at}
use Rattle.aes.specs.Bytes.{state_bytes}
use Rattle.aes.specs.Cipher.{round_key, round, rounds, last_round, cipher}
use Rattle.aes.specs.KeyExpansion.{x_power, rcon, temp, next_word, expanded, key_expansion}
use Rattle.modes.specs.Walk.{carried, walked}
use Rattle.modes.specs.Ecb.{ecb_blocks}
use Rattle.modes.specs.Blocks.{low_word, number_block}
use Rattle.modes.specs.Cbc.{cbc_step}
use Rattle.modes.specs.Cts.{last_two, long, cs3}
use Rattle.modes.specs.Xts.{shifted_word, times_alpha, tweaked, xts_aes}
use Rattle.ciphers.specs.Entries.{outcome, cts_fits, cts_encrypt, xts_fits, tweak_of, xts_encrypt, ecb_fits, ecb_encrypt}
use Rattle.ciphers.specs.declared.Status.{Status}

-- so many bytes, from the digits of a number: the last two hex digits are the last byte
unfoldable pub hex : ℕ → ℕ → Bytes
hex zero n = []
hex (suc k) n = n / 256 ^ k % 256 ∷ hex k n

-- what the computations below unfold
unfoldable definitions : Unit {0}
unfolding hex zeros ecb_encrypt ecb_fits ecb_blocks cts_encrypt cts_fits cs3 long last_two cbc_step xts_encrypt xts_fits tweak_of xts_aes tweaked times_alpha shifted_word walked carried number_block low_word state_bytes cipher rounds round last_round round_key key_expansion expanded next_word temp rcon x_power state_at word_at sub_bytes shift_rows mix_columns add_round_key sub_word mix_column add_word rot_word dot s_box s_box_table ◌•◌ polynomial_product reduced ◌⊕◌ x_times
definitions = tt

pub data Example : Type 0 where
  -- under this key, this text comes to this
  ecb : (key text expected : Bytes) → Example
  cts : (key text expected : Bytes) → Example
  -- under this key, the block of this number that starts with these 32 bytes, the others zeros, comes to one that starts so
  xts : (key : Bytes) (number : ℕ) (start expected : Bytes) → Example

abbrev pub done : Status
done = record { errno = 0 }

abbrev pub Holds : Example → Type 0
Holds (ecb key text expected) = ecb_encrypt key text ≡ outcome done expected
Holds (cts key text expected) = cts_encrypt key text ≡ outcome done expected
Holds (xts key number start expected) =
    ((xts_encrypt key number (start ++ zeros 4064)).status ≡ done) × (take 32 (xts_encrypt key number (start ++ zeros 4064)).buffer ≡ expected)

abbrev pub AllHold : List Example → Type 0
AllHold [] = Unit {0}
AllHold (e ∷ es) = Holds e × AllHold es

-- "chicken teriyaki"
abbrev pub rfc_key : Bytes
rfc_key = hex 16 0x636869636b656e207465726979616b69

abbrev pub ieee_key : Bytes
ieee_key = hex 64 0x27182818284590452353602874713526624977572470936999595749669676273141592653589793238462643383279502884197169399375105820974944592

abbrev pub ieee_start : Bytes
ieee_start = hex 32 0x000102030405060708090a0b0c0d0e0f101112131415161718191a1b1c1d1e1f

-- ---- FIPS 197, appendix C.1 (AES-128) and C.3 (AES-256): one block; NIST SP 800-38A, appendix F.1.1: ECB of four blocks
abbrev pub blocks : List Example
blocks =
    ecb (hex 16 0x000102030405060708090a0b0c0d0e0f) (hex 16 0x00112233445566778899aabbccddeeff)
    (hex 16 0x69c4e0d86a7b0430d8cdb78070b4c55a)
    ∷ cts (hex 32 0x000102030405060708090a0b0c0d0e0f101112131415161718191a1b1c1d1e1f) (hex 16 0x00112233445566778899aabbccddeeff)
    (hex 16 0x8ea2b7ca516745bfeafc49904b496089)
    ∷ ecb (hex 16 0x2b7e151628aed2a6abf7158809cf4f3c)
    (hex 64 0x6bc1bee22e409f96e93d7e117393172aae2d8a571e03ac9c9eb76fac45af8e5130c81c46a35ce411e5fbc1191a0a52eff69f2445df4f9b17ad2b417be66c3710)
    (hex 64 0x3ad77bb40d7a3660a89ecaf32466ef97f5d3d58503b9699de785895a96fdbaaf43b1cd7f598ece23881b00e3ed0306887b0c785e27e8ad3f8223207104725dd4)
    ∷ []

pub blocks_hold : AllHold blocks
unfolding definitions
blocks_hold = (refl, (refl, (refl, tt)))

-- ---- RFC 3962, appendix B: 17, 31, 32 and 64 bytes
abbrev pub texts : List Example
texts =
    cts rfc_key (hex 17 0x4920776f756c64206c696b652074686520)
    (hex 17 0xc6353568f2bf8cb4d8a580362da7ff7f97)
    ∷ cts rfc_key (hex 31 0x4920776f756c64206c696b65207468652047656e6572616c20476175277320)
    (hex 31 0xfc00783e0efdb2c1d445d4c8eff7ed2297687268d6ecccc0c07b25e25ecfe5)
    ∷ cts rfc_key (hex 32 0x4920776f756c64206c696b65207468652047656e6572616c2047617527732043)
    (hex 32 0x39312523a78662d5be7fcbcc98ebf5a897687268d6ecccc0c07b25e25ecfe584)
    ∷ cts rfc_key (hex 64 0x4920776f756c64206c696b65207468652047656e6572616c20476175277320436869636b656e2c20706c656173652c20616e6420776f6e746f6e20736f75702e)
    (hex 64 0x97687268d6ecccc0c07b25e25ecfe58439312523a78662d5be7fcbcc98ebf5a84807efe836ee89a526730dbc2f7bc8409dad8bbb96c4cdc03bc103e1a194bbd8)
    ∷ []

pub texts_hold : AllHold texts
unfolding definitions
texts_hold = (refl, (refl, (refl, (refl, tt))))

-- ---- IEEE 1619, annex B, vectors 10, 11 and 14, whose data units' numbers have one, two and five bytes: the first 32 bytes of a data unit, which a longer one has too.
-- The second 16 are under the tweak multiplied by α
abbrev pub units : List Example
units =
    xts ieee_key 0xff ieee_start
    (hex 32 0x1c3b3a102f770386e4836c99e370cf9bea00803f5e482357a4ae12d414a3e63b)
    ∷ xts ieee_key 0xffff ieee_start
    (hex 32 0x77a31251618a15e6b92d1d66dffe7b50b50bad552305ba0217a610688eff7e11)
    ∷ xts ieee_key 0xffffffffff ieee_start
    (hex 32 0x64497e5a831e4a932c09be3e5393376daa599548b816031d224bbf50a818ed23)
    ∷ []

pub units_hold : AllHold units
unfolding definitions
units_hold = ((refl, refl), ((refl, refl), ((refl, refl), tt)))
