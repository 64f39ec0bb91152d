-- A stored name shown without its key, document 01: letters for the bytes, six binary digits to a letter. Assumes nothing.
use Rattle.std.specs.Prelude.{ℕ, ◌+◌, ◌-◌, ◌*◌, ◌/◌, ◌%◌, cond, [], ◌∷◌, ◌++◌, length, take, leb, ltb}
use Rattle.lists.specs.Bytes.{Bytes, hex_digit}

-- "letters `A-Z a-z 0-9 + ,` for 0 to 63"
unfoldable pub letter : ℕ → ℕ
letter n = cond (ltb n 26) (n + 65) (cond (ltb n 52) (n + 71) (cond (ltb n 62) (n - 4) (n - 19)))

-- "three bytes as four letters, high bits first, one or two left over as two or three letters with zero low bits"
unfoldable pub letters : Bytes → Bytes
letters [] = []
letters (a ∷ []) = letter (a / 4) ∷ letter (a % 4 * 16) ∷ []
letters (a ∷ b ∷ []) = letter (a / 4) ∷ letter (a % 4 * 16 + b / 16) ∷ letter (b % 16 * 4) ∷ []
letters (a ∷ b ∷ c ∷ rest) = letter (a / 4) ∷ letter (a % 4 * 16 + b / 16) ∷ letter (b % 16 * 4 + c / 64) ∷ letter (c % 64) ∷ letters rest

-- "ciphertext of at most 160 bytes is written in letters .. Longer: `_`, the letters of the first 160 bytes, and the place as two lower case hex digits."
unfoldable pub encoded : Bytes → ℕ → Bytes
encoded s entry = cond (leb (length s) 160) (letters s) (95 ∷ (letters (take 160 s) ++ (hex_digit (entry / 16 % 16) ∷ hex_digit (entry % 16) ∷ [])))
