-- Byte strings: "an even count of hex digits of either case; or `=` and then the bytes themselves ..; or `-`, the empty string." Assumes nothing.
use Rattle.std.specs.Prelude.{ℕ, ◌+◌, ◌-◌, ◌*◌, ◌/◌, ◌%◌, Bool, cond, not, ◌&&◌, ◌||◌, [], ◌∷◌, length, get_or, drop, eqb, leb}
use Rattle.lists.specs.Bytes.{Bytes, same, first_at, hex_digit}
use Rattle.script.specs.Text.{text, is_within}
use Rattle.script.specs.Numbers.{is_digit}

-- `a` to `f`, `A` to `F`
abbrev pub is_lower_hex : ℕ → Bool
is_lower_hex b = is_within 97 102 b

abbrev pub is_upper_hex : ℕ → Bool
is_upper_hex b = is_within 65 70 b

abbrev pub is_hex_digit : ℕ → Bool
is_hex_digit b = is_digit b || (is_lower_hex b || is_upper_hex b)

-- what a hex digit stands for
unfoldable pub hex_value : ℕ → ℕ
hex_value b = cond (is_digit b) (b - 48) (cond (is_lower_hex b) (b - 87) (cond (is_upper_hex b) (b - 55) 0))

-- every byte is a hex digit
unfoldable pub is_hex : Bytes → Bool
is_hex s = leb (length s) (first_at (λ (b : ℕ). not (is_hex_digit b)) s)

-- `=` comes first
abbrev pub is_quoted : Bytes → Bool
is_quoted s = eqb (get_or s 0 0) 61

-- a word that is a byte string
unfoldable pub is_byte_string : Bytes → Bool
is_byte_string s = is_quoted s || (same s (text "-") || (not (eqb (length s) 0) && (eqb (length s % 2) 0 && is_hex s)))

-- two digits to a byte, the high one first
unfoldable pub from_hex : Bytes → Bytes
from_hex [] = []
from_hex (a ∷ []) = []
from_hex (a ∷ b ∷ s) = (hex_value a * 16 + hex_value b) ∷ from_hex s

-- the bytes that a byte string stands for; `-` has no two digits
unfoldable pub bytes_of : Bytes → Bytes
bytes_of s = cond (is_quoted s) (drop 1 s) (from_hex s)

-- bytes in hex, in lower case
unfoldable pub to_hex : Bytes → Bytes
to_hex [] = []
to_hex (b ∷ s) = hex_digit (b / 16) ∷ hex_digit (b % 16) ∷ to_hex s

-- a byte that a name is printed with as it is: "where every byte is in 33 to 126"
abbrev pub is_graphic : ℕ → Bool
is_graphic b = is_within 33 126 b

unfoldable pub is_all_graphic : Bytes → Bool
is_all_graphic s = leb (length s) (first_at (λ (b : ℕ). not (is_graphic b)) s)

-- "A NAME is printed as `=` and its bytes where every byte is in 33 to 126, else as lower case hex."
unfoldable pub name_text : Bytes → Bytes
name_text s = cond (is_all_graphic s) (61 ∷ s) (to_hex s)
