-- Numbers: "A number is decimal digits, 0 to 18446744073709551615." Assumes nothing.
use Rattle.std.specs.Prelude.{ℕ, zero, suc, ◌+◌, ◌-◌, ◌*◌, ◌/◌, ◌%◌, Bool, cond, ◌&&◌, [], ◌∷◌, ◌++◌, leb, ltb, Option, Some, None}
use Rattle.lists.specs.Bytes.{Bytes}
use Rattle.script.specs.Text.{is_within}

abbrev pub most_number : ℕ
most_number = 18446744073709551615

-- `0` to `9`
abbrev pub is_digit : ℕ → Bool
is_digit b = is_within 48 57 b

-- the number that these digits go on to spell after those of n; a part of a number is never more than the whole
unfoldable pub digits_from : ℕ → Bytes → Option ℕ
digits_from n [] = Some n
digits_from n (d ∷ s) = cond (is_digit d && leb (n * 10 + (d - 48)) most_number) (digits_from (n * 10 + (d - 48)) s) None

-- what a word spells: a number, or none
unfoldable pub number_of : Bytes → Option ℕ
number_of [] = None
number_of (d ∷ s) = digits_from 0 (d ∷ s)

-- the decimal digits of a number, at most so many of the last
unfoldable pub last_digits : ℕ → ℕ → Bytes
last_digits zero n = []
last_digits (suc k) n = cond (ltb n 10) ((48 + n) ∷ []) (last_digits k (n / 10) ++ ((48 + n % 10) ∷ []))

-- a number of 64 bits has 20 digits at most
unfoldable pub decimal : ℕ → Bytes
decimal n = last_digits 20 n
