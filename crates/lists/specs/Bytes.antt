-- Byte strings, and the one search in a table. Assumes nothing.
use Rattle.std.specs.Prelude.{ℕ, zero, suc, ◌+◌, ◌<◌, Bool, true, false, cond, ◌&&◌, List, [], ◌∷◌, ◌++◌, get_or, replicate, length, drop, eqb, ltb}

abbrev pub Bytes : Type 0
Bytes = List ℕ

-- each number is one that a byte can hold
abbrev pub ByteList : Bytes → Type 0
ByteList x = (i : ℕ) → get_or x i 0 < 256

-- the two are equal, as a test
unfoldable pub same : Bytes → Bytes → Bool
same [] [] = true
same [] (y ∷ ys) = false
same (x ∷ xs) [] = false
same (x ∷ xs) (y ∷ ys) = eqb x y && same xs ys

abbrev pub is_empty : Bytes → Bool
is_empty b = eqb (length b) 0

-- a lower case hex digit
unfoldable pub hex_digit : ℕ → ℕ
hex_digit n = cond (ltb n 10) (n + 48) (n + 87)

unfoldable pub zeros : ℕ → Bytes
zeros n = replicate n 0

-- the bytes with others laid over their start
abbrev pub laid_over : Bytes → Bytes → Bytes
laid_over b s = s ++ drop (length s) b

module _ {A : Type 0} where
  -- the position of the first element that passes the test, or the length of the list
  unfoldable pub first_at : (A → Bool) → List A → ℕ
  first_at p [] = zero
  first_at p (x ∷ xs) = cond (p x) zero (suc (first_at p xs))
