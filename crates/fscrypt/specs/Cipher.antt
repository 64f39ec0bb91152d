-- What the layers above use of the ciphers, as a record, and the laws of it that they may use: their definitions are over any such record, so that nothing
-- above can look into a cipher. The real one is `fscrypt`. Assumes nothing.
use Rattle.std.specs.Prelude.{ℕ, ◌≡◌, length}
use Rattle.lists.specs.Bytes.{Bytes, ByteList}
use Rattle.ciphers.specs.Entries.{ecb_encrypt, cts_encrypt, cts_decrypt, xts_encrypt, xts_decrypt}

pub record Cipher : Type 0 where
  -- the derived key of a master key and a nonce
  pub derive : Bytes → Bytes → Bytes
  -- a padded name under a key
  pub encrypt_name : Bytes → Bytes → Bytes
  pub decrypt_name : Bytes → Bytes → Bytes
  -- a block of contents by the contents mode of a policy, under a derived key and the block's number; unseal is document 01's open
  pub seal : ℕ → Bytes → ℕ → Bytes → Bytes
  pub unseal : ℕ → Bytes → ℕ → Bytes → Bytes

-- lengths are kept, bytes stay bytes, and what was encrypted decrypts; of names also the other way round
pub record Lawful (C : Cipher) : Type 0 where
  pub length_derive : (k x : Bytes) → length (C.derive k x) ≡ length k
  pub bytes_derive : (k x : Bytes) → ByteList k → ByteList x → ByteList (C.derive k x)
  pub length_encrypt_name : (k t : Bytes) → length (C.encrypt_name k t) ≡ length t
  pub bytes_encrypt_name : (k t : Bytes) → ByteList k → ByteList t → ByteList (C.encrypt_name k t)
  pub length_decrypt_name : (k t : Bytes) → length (C.decrypt_name k t) ≡ length t
  pub decrypt_encrypt : (k t : Bytes) → ByteList k → ByteList t → C.decrypt_name k (C.encrypt_name k t) ≡ t
  pub encrypt_decrypt : (k t : Bytes) → ByteList k → ByteList t → C.encrypt_name k (C.decrypt_name k t) ≡ t
  pub length_seal : (mode : ℕ) (k : Bytes) (n : ℕ) (b : Bytes) → length (C.seal mode k n b) ≡ length b
  pub length_unseal : (mode : ℕ) (k : Bytes) (n : ℕ) (b : Bytes) → length (C.unseal mode k n b) ≡ length b
  pub unseal_seal : (mode : ℕ) (k : Bytes) (n : ℕ) (b : Bytes) → ByteList k → ByteList b → C.unseal mode k n (C.seal mode k n b) ≡ b

-- At lengths that the ciphers refuse the text stays as it was; a key that is present has 64 bytes, a nonce 16, a padded name 16 to 255 and a block that passed
-- its check 4,096, so no request on a volume that requests made meets that.

-- document 01: "The derived key is the master key encrypted in blocks of 16 by AES-128 in ECB mode, the nonce being the AES key"
unfoldable pub derive : Bytes → Bytes → Bytes
derive master nonce = (ecb_encrypt nonce master).buffer

-- "Encryption is CBC with a zero IV and ciphertext stealing CS3"
unfoldable pub encrypt_name : Bytes → Bytes → Bytes
encrypt_name key text = (cts_encrypt key text).buffer

unfoldable pub decrypt_name : Bytes → Bytes → Bytes
decrypt_name key text = (cts_decrypt key text).buffer

-- "contents 1 (AES-256-XTS)"; "XTS: first 32 bytes of the derived key for data, last 32 for the tweak". No policy has another contents mode so far, so the
-- mode is not looked at: a number that is no mode, in a volume that no request made, seals as 1 does, and no block is answered in plain.
unfoldable pub seal : ℕ → Bytes → ℕ → Bytes → Bytes
seal mode key number block = (xts_encrypt key number block).buffer

unfoldable pub unseal : ℕ → Bytes → ℕ → Bytes → Bytes
unseal mode key number block = (xts_decrypt key number block).buffer

abbrev pub fscrypt : Cipher
fscrypt = record { derive = derive; encrypt_name = encrypt_name; decrypt_name = decrypt_name; seal = seal; unseal = unseal }
