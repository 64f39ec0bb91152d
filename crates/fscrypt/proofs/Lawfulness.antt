-- The ciphers of fscrypt keep lengths and bytes, and decryption undoes encryption, of names also encryption decryption: each law is one that `ciphers` proves of its
-- entries, and no cipher is looked into. Assumes nothing.
use mathlib.Core.Path.{ap}
use Rattle.ciphers.specs.Entries.{Outcome}
use Rattle.ciphers.proofs.Laws.{ecb_encrypt_length, ecb_encrypt_bytes, cts_encrypt_length, cts_encrypt_bytes, cts_decrypt_length, cts_decrypt_cts_encrypt, cts_encrypt_cts_decrypt, xts_encrypt_length, xts_decrypt_length, xts_decrypt_xts_encrypt}
use Rattle.fscrypt.specs.Cipher.{Lawful, fscrypt, derive, encrypt_name, decrypt_name, seal, unseal}

pub fscrypt_lawful : Lawful fscrypt
unfolding derive encrypt_name decrypt_name seal unseal
fscrypt_lawful = record {
  length_derive = λ k x. ecb_encrypt_length x k;
  bytes_derive = λ k x hk hx. ecb_encrypt_bytes x k hx hk;
  length_encrypt_name = cts_encrypt_length;
  bytes_encrypt_name = cts_encrypt_bytes;
  length_decrypt_name = cts_decrypt_length;
  decrypt_encrypt = λ k t hk ht. ap (λ (a : Outcome). a.buffer) (cts_decrypt_cts_encrypt k t hk ht);
  encrypt_decrypt = λ k t hk ht. ap (λ (a : Outcome). a.buffer) (cts_encrypt_cts_decrypt k t hk ht);
  length_seal = λ mode. xts_encrypt_length;
  length_unseal = λ mode. xts_decrypt_length;
  unseal_seal = λ mode k n b hk hb. ap (λ (a : Outcome). a.buffer) (xts_decrypt_xts_encrypt k n b hk hb);
}
