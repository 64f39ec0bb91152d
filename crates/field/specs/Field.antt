-- Arithmetic of bytes, FIPS 197 section 4: the field GF(2^8). A byte is a number below 256, whose binary digit i is the coefficient of x^i.
-- Assumes nothing.
use Rattle.std.specs.Prelude.{ℕ, zero, suc, ◌+◌, ◌*◌, ◌/◌, ◌%◌, ◌^◌}
use Rattle.std.specs.Int.Bits.{bit_xor}

infixl 65 ◌⊕◌
infixl 70 ◌•◌
-- 4.1 Addition: exclusive or
unfoldable pub ◌⊕◌ : ℕ → ℕ → ℕ
a ⊕ b = bit_xor a b

-- 4.2 Multiplication. First the product of two polynomials: each of the lowest n coefficients of a that is set adds b, moved up to it
unfoldable pub polynomial_product : ℕ → ℕ → ℕ → ℕ
polynomial_product zero a b = 0
polynomial_product (suc i) a b = polynomial_product i a b ⊕ (a / 2 ^ i % 2 * (b * 2 ^ i))

-- then its remainder modulo m(x) = x^8 + x^4 + x^3 + x + 1, which is 0x11b. The polynomial's degree is below 8 + k; its highest term goes first, by adding m(x), moved up to it
unfoldable pub reduced : ℕ → ℕ → ℕ
reduced zero p = p
reduced (suc k) p = reduced k (p ⊕ (p / 2 ^ (8 + k) % 2 * (0x11b * 2 ^ k)))

unfoldable pub ◌•◌ : ℕ → ℕ → ℕ
a • b = reduced 7 (polynomial_product 8 a b)

-- xTimes() (4.5), multiplication by {02}: the byte moved up by one place, and {1b} added where x^8 came out
unfoldable pub x_times : ℕ → ℕ
x_times b = (b % 128 * 2) ⊕ (b / 128 % 2 * 0x1b)

-- 4.3 Multiplication of words by a fixed matrix: one row of the matrix times a column
unfoldable pub dot : ℕ → ℕ → ℕ → ℕ → ℕ → ℕ → ℕ → ℕ → ℕ
dot a₀ a₁ a₂ a₃ b₀ b₁ b₂ b₃ = (a₀ • b₀) ⊕ (a₁ • b₁) ⊕ (a₂ • b₂) ⊕ (a₃ • b₃)

-- b^2 • b^4 • .. • b^(2^n)
unfoldable pub squares : ℕ → ℕ → ℕ
squares zero b = 1
squares (suc n) b = (b • b) • squares n (b • b)

-- 4.4 Multiplicative inverses: b^254, which is the inverse of a byte that is not 0, and 0 of 0
unfoldable pub inverse : ℕ → ℕ
inverse b = squares 7 b
