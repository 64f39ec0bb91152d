-- The laws for callers of ciphers: in CBC-CS3 and in XTS, encryption and decryption undo each other, lengths are kept, and names, encrypted or decrypted, and
-- derived keys are bytes, for every key and every buffer. Each entry is `answer` of a test of lengths, so each law is one on `answer`, given what the mode does.
-- Assumes nothing.
use mathlib.Core.Path.{◌≡◌, refl, sym, ap, ◌∙◌}
use mathlib.Core.Bool.{Bool, true, false}
use mathlib.Core.List.{List}
use Prim.Native.Nat.{ℕ, ◌/◌, ◌≤◌}
use lib.ListN.{length, take, drop}
use Rattle.lists.specs.Bytes.{ByteList}
use Rattle.aes.specs.KeyExpansion.{rounds_of, key_expansion}
use Rattle.aes.proofs.ByteStates.{ByteState, cipher_bytes}
use Rattle.lists.proofs.ByteStrings.{take_bytes, drop_bytes}
use Rattle.aes.proofs.ScheduleBytes.{key_expansion_bytes}
use Rattle.modes.specs.Blocks.{zero_block, number_block}
use Rattle.modes.specs.Xts.{xts_aes_enc, xts_aes_dec}
use Rattle.modes.specs.Cts.{cbc_cs3_encrypt, cbc_cs3_decrypt}
use Rattle.modes.specs.Ecb.{ecb_blocks}
use Rattle.modes.proofs.EcbBlocks.{length_ecb_blocks, ecb_blocks_bytes}
use Rattle.modes.proofs.Numbers.{zero_block_bytes, number_block_bytes}
use Rattle.modes.proofs.XtsRoundTrip.{xts_dec_enc, xts_enc_dec, length_xts_aes_enc, length_xts_aes_dec}
use Rattle.modes.proofs.CtsRoundTrip.{cts_dec_enc, cts_enc_dec, length_cbc_cs3_encrypt, length_cbc_cs3_decrypt, cbc_cs3_encrypt_bytes, cbc_cs3_decrypt_bytes}
use Rattle.ciphers.specs.Entries.{Outcome, outcome, answer, cts_fits, cts_encrypt, cts_decrypt, xts_fits, tweak_of, xts_encrypt, xts_decrypt, ecb_fits, ecb_encrypt}
use Rattle.ciphers.specs.declared.Status.{Status}
use Rattle.ciphers.proofs.Fits.{cts_fits_lem, xts_fits_lem, ecb_fits_lem}

-- ---- laws on `answer`

-- the buffer that a call left is the outcome's
pub buffer_left : (s : Status) (b : List ℕ) (o : Outcome) → outcome s b ≡ o → b ≡ o.buffer
buffer_left s b o e = ap (λ (x : Outcome). x.buffer) e

answer_length : (b : Bool) (new old : List ℕ) → (b ≡ true → length new ≡ length old) → length (answer b new old).buffer ≡ length old
answer_length true new old h = h refl
answer_length false new old h = refl

answer_bytes : (b : Bool) (new old : List ℕ) → (b ≡ true → ByteList new) → ByteList old → ByteList (answer b new old).buffer
answer_bytes true new old h g = h refl
answer_bytes false new old h g = g

-- one entry after another that tests the same lengths and undoes it: the answer is the same, and the buffer is back
answer_back : (b : Bool) (new old : List ℕ) (fits : ℕ → Bool) (back : List ℕ → List ℕ) → fits (length old) ≡ b → (b ≡ true → length new ≡ length old) → (b ≡ true → back new ≡ old)
    → answer (fits (length (answer b new old).buffer)) (back (answer b new old).buffer) (answer b new old).buffer
    ≡ record { status = (answer b new old).status; buffer = old }
answer_back true new old fits back e h g =
    ap (λ (c : Bool). answer c (back new) new) (ap fits (h refl) ∙ e) ∙ ap (λ (l : List ℕ). answer true l new) (g refl)
answer_back false new old fits back e h g = ap (λ (c : Bool). answer c (back old) old) e

-- ---- CBC-CS3: each of the two undoes the other, and answers as the other did

module _ (key l : List ℕ) where
  long : cts_fits (length key) (length l) ≡ true → 16 ≤ length l
  long h = ((cts_fits_lem (length key) (length l)).0 h).1

  pub cts_encrypt_length : length (cts_encrypt key l).buffer ≡ length l
  unfolding cts_encrypt
  cts_encrypt_length = answer_length _ _ l (λ h. length_cbc_cs3_encrypt _ _ _ l (long h))

  pub cts_decrypt_length : length (cts_decrypt key l).buffer ≡ length l
  unfolding cts_decrypt
  cts_decrypt_length = answer_length _ _ l (λ h. length_cbc_cs3_decrypt _ _ _ l (long h))

  module _ (hk : ByteList key) (hl : ByteList l) where
    schedule_bytes : ByteList (key_expansion key)
    schedule_bytes = key_expansion_bytes key hk

    pub cts_decrypt_cts_encrypt : cts_decrypt key (cts_encrypt key l).buffer ≡ record { status = (cts_encrypt key l).status; buffer = l }
    unfolding cts_encrypt cts_decrypt
    cts_decrypt_cts_encrypt =
        answer_back _ _ l (cts_fits (length key)) (cbc_cs3_decrypt (key_expansion key) (rounds_of (length key / 4)) zero_block) refl
        (λ h. length_cbc_cs3_encrypt _ _ _ l (long h)) (λ h. cts_dec_enc _ schedule_bytes _ zero_block zero_block_bytes l hl (long h))

    pub cts_encrypt_cts_decrypt : cts_encrypt key (cts_decrypt key l).buffer ≡ record { status = (cts_decrypt key l).status; buffer = l }
    unfolding cts_encrypt cts_decrypt
    cts_encrypt_cts_decrypt =
        answer_back _ _ l (cts_fits (length key)) (cbc_cs3_encrypt (key_expansion key) (rounds_of (length key / 4)) zero_block) refl
        (λ h. length_cbc_cs3_decrypt _ _ _ l (long h)) (λ h. cts_enc_dec _ schedule_bytes _ zero_block zero_block_bytes l hl (long h))

    pub cts_encrypt_bytes : ByteList (cts_encrypt key l).buffer
    unfolding cts_encrypt
    cts_encrypt_bytes =
        answer_bytes (cts_fits (length key) (length l)) _ l
        (λ h. cbc_cs3_encrypt_bytes (key_expansion key) schedule_bytes (rounds_of (length key / 4)) zero_block zero_block_bytes l hl) hl

    pub cts_decrypt_bytes : ByteList (cts_decrypt key l).buffer
    unfolding cts_decrypt
    cts_decrypt_bytes =
        answer_bytes (cts_fits (length key) (length l)) _ l
        (λ h. cbc_cs3_decrypt_bytes (key_expansion key) schedule_bytes (rounds_of (length key / 4)) zero_block zero_block_bytes l hl) hl

-- ---- XTS-AES-256: each of the two undoes the other

tweak_of_bytes : (key : List ℕ) (n : ℕ) → ByteList key → ByteState (tweak_of key n)
unfolding tweak_of
tweak_of_bytes key n h = cipher_bytes _ (key_expansion_bytes (drop 32 key) (drop_bytes 32 key h)) 14 (number_block n) (number_block_bytes n)

module _ (key : List ℕ) (n : ℕ) (l : List ℕ) where
  whole : xts_fits (length key) (length l) ≡ true → length l ≡ 4096
  whole h = ((xts_fits_lem (length key) (length l)).0 h).1

  pub xts_encrypt_length : length (xts_encrypt key n l).buffer ≡ length l
  unfolding xts_encrypt
  xts_encrypt_length = answer_length _ _ l (λ h. length_xts_aes_enc _ _ _ 256 l ∙ sym (whole h))

  pub xts_decrypt_length : length (xts_decrypt key n l).buffer ≡ length l
  unfolding xts_decrypt
  xts_decrypt_length = answer_length _ _ l (λ h. length_xts_aes_dec _ _ _ 256 l ∙ sym (whole h))

  module _ (hk : ByteList key) (hl : ByteList l) where
    data_bytes : ByteList (key_expansion (take 32 key))
    data_bytes = key_expansion_bytes (take 32 key) (take_bytes 32 key hk)

    pub xts_decrypt_xts_encrypt : xts_decrypt key n (xts_encrypt key n l).buffer ≡ record { status = (xts_encrypt key n l).status; buffer = l }
    unfolding xts_encrypt xts_decrypt
    xts_decrypt_xts_encrypt =
        answer_back _ _ l (xts_fits (length key)) (xts_aes_dec (key_expansion (take 32 key)) 14 (tweak_of key n) 256) refl
        (λ h. length_xts_aes_enc _ _ _ 256 l ∙ sym (whole h)) (λ h. xts_dec_enc _ data_bytes 14 (tweak_of key n) (tweak_of_bytes key n hk) 256 l hl (whole h))

    pub xts_encrypt_xts_decrypt : xts_encrypt key n (xts_decrypt key n l).buffer ≡ record { status = (xts_decrypt key n l).status; buffer = l }
    unfolding xts_encrypt xts_decrypt
    xts_encrypt_xts_decrypt =
        answer_back _ _ l (xts_fits (length key)) (xts_aes_enc (key_expansion (take 32 key)) 14 (tweak_of key n) 256) refl
        (λ h. length_xts_aes_dec _ _ _ 256 l ∙ sym (whole h)) (λ h. xts_enc_dec _ data_bytes 14 (tweak_of key n) (tweak_of_bytes key n hk) 256 l hl (whole h))

-- ---- ECB

module _ (key l : List ℕ) where
  pub ecb_encrypt_length : length (ecb_encrypt key l).buffer ≡ length l
  unfolding ecb_encrypt
  ecb_encrypt_length = answer_length _ _ l (λ h. length_ecb_blocks _ _ l _ ∙ sym ((ecb_fits_lem (length key) (length l)).0 h).1)

  pub ecb_encrypt_bytes : ByteList key → ByteList l → ByteList (ecb_encrypt key l).buffer
  unfolding ecb_encrypt
  ecb_encrypt_bytes hk hl =
      answer_bytes (ecb_fits (length key) (length l)) (ecb_blocks (key_expansion key) 10 l (length l / 16)) l
      (λ h. ecb_blocks_bytes (key_expansion key) 10 l (key_expansion_bytes key hk) hl (length l / 16)) hl
