-- What the tests and the search of Bytes.antt mean, a search for any test. Proved in proofs/ByteMeanings.antt. Assumes nothing.
use Rattle.std.specs.Prelude.{ℕ, ◌≤◌, ◌<◌, ◌≡◌, ◌↔◌, ◌⊎◌, Bool, true, false, List, [], ◌∷◌, length, get_or}
use Rattle.lists.specs.Bytes.{Bytes, same, is_empty, hex_digit, laid_over, first_at}

-- `0123456789abcdef`
abbrev pub hex_digits : Bytes
hex_digits = 48 ∷ 49 ∷ 50 ∷ 51 ∷ 52 ∷ 53 ∷ 54 ∷ 55 ∷ 56 ∷ 57 ∷ 97 ∷ 98 ∷ 99 ∷ 100 ∷ 101 ∷ 102 ∷ []

module _ {A : Type 0} where
  -- n is the least position at which p passes, or the length where it passes at none; d is whatever stands past the end
  pub record FirstPassing (p : A → Bool) (l : List A) (n : ℕ) : Type 0 where
    pub none_before : (i : ℕ) (d : A) → i < n → p (get_or l i d) ≡ false
    pub found_or_end : ((n < length l) × ((d : A) → p (get_or l n d) ≡ true)) ⊎ (n ≡ length l)

pub record ByteMeanings : Type 0 where
  pub same_bytes : (x y : Bytes) → (same x y ≡ true) ↔ (x ≡ y)
  pub empty : (b : Bytes) → (is_empty b ≡ true) ↔ (b ≡ [])
  pub hex_digit_lem : (n : ℕ) → n < 16 → hex_digit n ≡ get_or hex_digits n 0
  -- a search of bytes; proofs/ByteMeanings.antt has the law for any table
  pub first : (p : ℕ → Bool) (l : Bytes) (n : ℕ) → (first_at p l ≡ n) ↔ FirstPassing p l n
  -- what is laid over comes first, and past it nothing has changed
  pub over : (b s : Bytes) (i : ℕ) → i < length s → get_or (laid_over b s) i 0 ≡ get_or s i 0
  pub past : (b s : Bytes) (i : ℕ) → length s ≤ i → get_or (laid_over b s) i 0 ≡ get_or b i 0
