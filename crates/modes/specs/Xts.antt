-- XTS-AES, IEEE 1619 section 5, over data units of whole blocks. Section 5.1, a data unit's number as a block, is in Blocks.antt. Assumes nothing.
use Rattle.std.specs.Prelude.{List, ℕ, ◌*◌, ◌/◌, ◌%◌}
use Rattle.field.specs.Field.{◌⊕◌}
use Rattle.aes.specs.States.{add_round_key}
use Rattle.aes.specs.Cipher.{cipher, inv_cipher}
use Rattle.aes.specs.declared.Word.{Word}
use Rattle.aes.specs.declared.State.{State}
use Rattle.modes.specs.Walk.{walked}

-- ---- 5.2 multiplication by α: the 16 bytes, the lowest first, are moved up by one binary digit, and 135 is added where the highest digit came out

-- 2 (a[k] mod 128) ⊕ what comes in from the byte below
abbrev pub shifted : ℕ → ℕ → ℕ
shifted a low = (a % 128 * 2) ⊕ low

-- four bytes of the 16: what comes in is ⌊a[k-1] / 128⌋, but at the first of the four, where it is given
unfoldable pub shifted_word : Word → ℕ → Word
shifted_word w low =
    record { r0 = shifted w.r0 low; r1 = shifted w.r1 (w.r0 / 128); r2 = shifted w.r2 (w.r1 / 128); r3 = shifted w.r3 (w.r2 / 128) }

-- at a[0] comes in 135 ⌊a[15] / 128⌋
unfoldable pub times_alpha : State → State
times_alpha t =
    record {
      c0 = shifted_word t.c0 (t.c3.r3 / 128 * 135);
      c1 = shifted_word t.c1 (t.c0.r3 / 128);
      c2 = shifted_word t.c2 (t.c1.r3 / 128);
      c3 = shifted_word t.c3 (t.c2.r3 / 128);
    }

-- the tweak of the next block, whatever the block was and became
abbrev pub next_tweak : State → State → State → State
next_tweak t p o = times_alpha t

-- ---- 5.3.1 XTS-AES-blockEnc and 5.4.1 XTS-AES-blockDec: the tweak t is added before and after the cipher, f

unfoldable pub tweaked : (State → State) → State → State → State
tweaked f t p = add_round_key (f (add_round_key p t)) t

abbrev pub block_enc : List ℕ → ℕ → State → State → State
block_enc w nr = tweaked (cipher w nr)

abbrev pub block_dec : List ℕ → ℕ → State → State → State
block_dec w nr = tweaked (inv_cipher w nr)

-- ---- 5.3.2 XTS-AES-Enc and 5.4.2 XTS-AES-Dec of m whole blocks, the first under the tweak t

unfoldable pub xts_aes : (State → State) → State → ℕ → List ℕ → List ℕ
xts_aes f t m l = walked (tweaked f) next_tweak l t m

abbrev pub xts_aes_enc : List ℕ → ℕ → State → ℕ → List ℕ → List ℕ
xts_aes_enc w nr = xts_aes (cipher w nr)

abbrev pub xts_aes_dec : List ℕ → ℕ → State → ℕ → List ℕ → List ℕ
xts_aes_dec w nr = xts_aes (inv_cipher w nr)
