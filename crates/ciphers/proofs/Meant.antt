-- What the entries come to: each is `answer` of a test, whose meaning Fits.antt has; and a tweak, deciphered, is the block of its number again. Assumes nothing.
use mathlib.Core.Path.{◌≡◌, refl, sym, ap, ◌∙◌}
use mathlib.Core.Logic.{◌↔◌}
use mathlib.Core.Bool.{Bool, true, false, false≢true}
use Prim.Native.Nat.{ℕ, ◌^◌, ◌<◌}
use native.Mathlib.Omega.{arith}
use lib.ListN.{length, drop}
use Rattle.lists.specs.Bytes.{Bytes, ByteList}
use Rattle.lists.proofs.ByteStrings.{drop_bytes}
use Rattle.aes.specs.Cipher.{inv_cipher}
use Rattle.aes.specs.KeyExpansion.{key_expansion}
use Rattle.aes.proofs.Inverse.{inv_cipher_cipher}
use Rattle.aes.proofs.ScheduleBytes.{key_expansion_bytes}
use Rattle.modes.specs.Blocks.{number_block}
use Rattle.modes.proofs.Numbers.{number_block_bytes, number_own}
use Rattle.ciphers.specs.Entries.{answer, cts_encrypt, cts_decrypt, tweak_of, xts_encrypt, xts_decrypt, ecb_encrypt}
use Rattle.ciphers.specs.Meanings.{CtsLengths, XtsLengths, EcbLengths, Exactly}
use Rattle.ciphers.proofs.Fits.{cts_fits_lem, xts_fits_lem, ecb_fits_lem}

exactly : (b : Bool) (new lent : Bytes) {Taken : Type 0} → (b ≡ true) ↔ Taken → Exactly Taken (answer b new lent) lent
exactly true new lent h = record {
  done = (λ e. h.0 refl, λ t. refl);
  refused = (λ e. absurd (omega arith), λ n. absurd (n (h.0 refl)));
  stays = λ n. absurd (n (h.0 refl));
}
exactly false new lent h = record {
  done = (λ e. absurd (omega arith), λ t. absurd (false≢true (h.1 t)));
  refused = (λ e t. false≢true (h.1 t), λ n. refl);
  stays = λ n. refl;
}

module _ (key text : Bytes) where
  pub cts_encrypt_lem : Exactly (CtsLengths key text) (cts_encrypt key text) text
  unfolding cts_encrypt
  cts_encrypt_lem = exactly _ _ text (cts_fits_lem (length key) (length text))

  pub cts_decrypt_lem : Exactly (CtsLengths key text) (cts_decrypt key text) text
  unfolding cts_decrypt
  cts_decrypt_lem = exactly _ _ text (cts_fits_lem (length key) (length text))

  pub ecb_encrypt_lem : Exactly (EcbLengths key text) (ecb_encrypt key text) text
  unfolding ecb_encrypt
  ecb_encrypt_lem = exactly _ _ text (ecb_fits_lem (length key) (length text))

module _ (key : Bytes) (n : ℕ) (block : Bytes) where
  pub xts_encrypt_lem : Exactly (XtsLengths key block) (xts_encrypt key n block) block
  unfolding xts_encrypt
  xts_encrypt_lem = exactly _ _ block (xts_fits_lem (length key) (length block))

  pub xts_decrypt_lem : Exactly (XtsLengths key block) (xts_decrypt key n block) block
  unfolding xts_decrypt
  xts_decrypt_lem = exactly _ _ block (xts_fits_lem (length key) (length block))

-- ---- tweaks

module _ (key : Bytes) (h : ByteList key) where
  deciphered : (n : ℕ) → inv_cipher (key_expansion (drop 32 key)) 14 (tweak_of key n) ≡ number_block n
  unfolding tweak_of
  deciphered n = inv_cipher_cipher (key_expansion (drop 32 key)) (key_expansion_bytes (drop 32 key) (drop_bytes 32 key h)) 14 (number_block n) (number_block_bytes n)

  pub tweaks_own : (m n : ℕ) → m < 2 ^ 64 → n < 2 ^ 64 → tweak_of key m ≡ tweak_of key n → m ≡ n
  tweaks_own m n hm hn e = number_own m n hm hn (sym (deciphered m) ∙ ap (inv_cipher (key_expansion (drop 32 key)) 14) e ∙ deciphered n)
