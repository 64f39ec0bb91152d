-- The public entries of ciphers: the outcome, which is the answer and what the lent buffer holds then, for every key and every buffer. Document 01: "a key other than
-- 16 or 32 bytes (XTS: 64), a CTS text outside 16 to 4,096 bytes or an XTS block other than 4,096 is EINVAL, and the buffer stays". Assumes nothing.
use Rattle.std.specs.Prelude.{Bool, true, false, ◌&&◌, ◌||◌, List, ℕ, ◌/◌, ◌%◌, eqb, leb, length, take, drop, ⊤, Result, Ok, Err}
use Rattle.errno.specs.Refusals.{number}
use Rattle.errno.specs.declared.Errno.{Errno}
use Rattle.errno.specs.declared.Errno.TheVariants.{EINVAL}
use Rattle.aes.specs.KeyExpansion.{rounds_of, key_expansion}
use Rattle.aes.specs.Cipher.{cipher}
use Rattle.aes.specs.declared.State.{State}
use Rattle.modes.specs.Blocks.{zero_block, number_block}
use Rattle.modes.specs.Xts.{xts_aes_enc, xts_aes_dec}
use Rattle.modes.specs.Cts.{cbc_cs3_encrypt, cbc_cs3_decrypt}
use Rattle.modes.specs.Ecb.{ecb_blocks}
use Rattle.ciphers.specs.declared.Status.{Status}

-- what a call answers, and what the lent buffer holds then
pub record Outcome : Type 0 where
  pub status : Status
  pub buffer : List ℕ

abbrev pub outcome : Status → List ℕ → Outcome
outcome s b = record { status = s; buffer = b }

-- done, which is 0, or a refusal, which is Linux's number for it
abbrev pub status_of : Result ⊤ Errno → Status
status_of (Ok u) = record { errno = 0 }
status_of (Err e) = record { errno = number e }

-- where the lengths are taken: done, which is 0, and the buffer becomes new; else EINVAL, and the buffer keeps every byte
abbrev pub answer : Bool → List ℕ → List ℕ → Outcome
answer true new old = outcome (status_of (Ok tt)) new
answer false new old = outcome (status_of (Err EINVAL)) old

-- ---- CBC-CS3 under a key of 16 or 32 bytes, from an initialization vector of zeros

-- a text of 16 to 4,096 bytes, and a key of 16 or 32
unfoldable pub cts_fits : ℕ → ℕ → Bool
cts_fits key text = (leb 16 text && leb text 4096) && (eqb key 16 || eqb key 32)

unfoldable pub cts_encrypt : List ℕ → List ℕ → Outcome
cts_encrypt key text =
    answer (cts_fits (length key) (length text)) (cbc_cs3_encrypt (key_expansion key) (rounds_of (length key / 4)) zero_block text) text

unfoldable pub cts_decrypt : List ℕ → List ℕ → Outcome
cts_decrypt key text =
    answer (cts_fits (length key) (length text)) (cbc_cs3_decrypt (key_expansion key) (rounds_of (length key / 4)) zero_block text) text

-- ---- XTS-AES-256 under a key of 64 bytes: the first half for the data, the second for the tweak

-- a key of 64 bytes, and a block of 4,096
unfoldable pub xts_fits : ℕ → ℕ → Bool
xts_fits key block = eqb key 64 && eqb block 4096

-- the tweak of a block's first 16 bytes: the block's number, the lowest byte first, enciphered under the second half
unfoldable pub tweak_of : List ℕ → ℕ → State
tweak_of key n = cipher (key_expansion (drop 32 key)) (rounds_of 8) (number_block n)

unfoldable pub xts_encrypt : List ℕ → ℕ → List ℕ → Outcome
xts_encrypt key n block =
    answer (xts_fits (length key) (length block)) (xts_aes_enc (key_expansion (take 32 key)) (rounds_of 8) (tweak_of key n) 256 block) block

unfoldable pub xts_decrypt : List ℕ → ℕ → List ℕ → Outcome
xts_decrypt key n block =
    answer (xts_fits (length key) (length block)) (xts_aes_dec (key_expansion (take 32 key)) (rounds_of 8) (tweak_of key n) 256 block) block

-- ---- ECB under a key of 16 bytes, for key derivation

-- a key of 16 bytes, and 1 to 4 whole blocks
unfoldable pub ecb_fits : ℕ → ℕ → Bool
ecb_fits key text = eqb key 16 && (eqb (text % 16) 0 && (leb 16 text && leb text 64))

unfoldable pub ecb_encrypt : List ℕ → List ℕ → Outcome
ecb_encrypt key text = answer (ecb_fits (length key) (length text)) (ecb_blocks (key_expansion key) (rounds_of 4) text (length text / 16)) text
