-- What the entries' tests of lengths come to, for every key and every buffer, that no two blocks share a tweak, and the tweak's start, its multiplication and ciphertext stealing in plain terms. Assumes nothing.
use Rattle.std.specs.Prelude.{◌≡◌, ◌⊎◌, ◌↔◌, ℕ, ◌*◌, ◌/◌, ◌^◌, ◌≤◌, ◌<◌, length}
use Rattle.lists.specs.Bytes.{Bytes, ByteList}
use Rattle.modes.specs.Meanings.{ModeMeanings}
use Rattle.ciphers.specs.Entries.{Outcome, cts_encrypt, cts_decrypt, tweak_of, xts_encrypt, xts_decrypt, ecb_encrypt}

-- document 01: "a key other than 16 or 32 bytes (XTS: 64), a CTS text outside 16 to 4,096 bytes or an XTS block other than 4,096 is EINVAL, and the buffer stays"

abbrev pub CtsLengths : Bytes → Bytes → Type 0
CtsLengths key text = ((length key ≡ 16) ⊎ (length key ≡ 32)) × (16 ≤ length text) × (length text ≤ 4096)

abbrev pub XtsLengths : Bytes → Bytes → Type 0
XtsLengths key block = (length key ≡ 64) × (length block ≡ 4096)

-- "the master key encrypted in blocks of 16 by AES-128 in ECB mode": 1 to 4 whole blocks
abbrev pub EcbLengths : Bytes → Bytes → Type 0
EcbLengths key text = (length key ≡ 16) × (length text ≡ 16 * (length text / 16)) × (16 ≤ length text) × (length text ≤ 64)

-- done, which is 0, exactly where the lengths are taken, and EINVAL, which is 22, exactly where they are not; then the buffer stays
pub record Exactly (Taken : Type 0) (o : Outcome) (lent : Bytes) : Type 0 where
  pub done : (o.status.errno ≡ 0) ↔ Taken
  pub refused : (o.status.errno ≡ 22) ↔ (¬ Taken)
  pub stays : (¬ Taken) → o.buffer ≡ lent

pub record Meanings : Type 0 where
  pub cts_encrypt_lem : (key text : Bytes) → Exactly (CtsLengths key text) (cts_encrypt key text) text
  pub cts_decrypt_lem : (key text : Bytes) → Exactly (CtsLengths key text) (cts_decrypt key text) text
  pub xts_encrypt_lem : (key : Bytes) (n : ℕ) (block : Bytes) → Exactly (XtsLengths key block) (xts_encrypt key n block) block
  pub xts_decrypt_lem : (key : Bytes) (n : ℕ) (block : Bytes) → Exactly (XtsLengths key block) (xts_decrypt key n block) block
  pub ecb_encrypt_lem : (key text : Bytes) → Exactly (EcbLengths key text) (ecb_encrypt key text) text
  -- two block numbers, "any 64-bit value", have two tweaks under one key
  pub tweaks_own : (key : Bytes) → ByteList key → (m n : ℕ) → m < 2 ^ 64 → n < 2 ^ 64 → tweak_of key m ≡ tweak_of key n → m ≡ n
  -- the tweak's start, multiplication by α, and ciphertext stealing
  pub modes : ModeMeanings
