-- The factors of MixColumns and InvMixColumns: for every byte, what code makes of xTimes() is FIPS 197's product.
-- Each law is one computed test of the 256 bytes (the table only counts them). Assumes nothing.
use mathlib.Core.Path.{◌≡◌}
use mathlib.Core.Bool.{Bool}
use Prim.Native.Nat.{ℕ, ◌<◌}
use lib.Dec.{eqb, eqb→eq, T}
use Rattle.field.specs.SBox.{s_box_table}
use Rattle.field.specs.Field.{◌⊕◌, polynomial_product, reduced, ◌•◌, x_times, dot}
use Rattle.field.proofs.Table.{every, at}
use Rattle.field.proofs.Xor.{⊕-assoc, ⊕-comm, ⊕-left-comm}

-- the product with n is f, at k
abbrev agree : ℕ → (ℕ → ℕ) → ℕ → ℕ → Bool
agree n f k x = eqb (n • k) (f k)

-- the test of all bytes, as a law
agreed : (n : ℕ) (f : ℕ → ℕ) → T (every (agree n f) 0 s_box_table) → (b : ℕ) → b < 256 → n • b ≡ f b
unfolding s_box_table
agreed n f t b h = eqb→eq (n • b) (f b) (at (agree n f) s_box_table t b h)

pub times_01 : (b : ℕ) → b < 256 → 0x01 • b ≡ b
unfolding s_box_table ◌•◌ polynomial_product reduced ◌⊕◌
times_01 = agreed 0x01 (λ b. b) tt

pub times_02 : (b : ℕ) → b < 256 → 0x02 • b ≡ x_times b
unfolding s_box_table ◌•◌ polynomial_product reduced x_times ◌⊕◌
times_02 = agreed 0x02 x_times tt

pub times_03 : (b : ℕ) → b < 256 → 0x03 • b ≡ x_times b ⊕ b
unfolding s_box_table ◌•◌ polynomial_product reduced x_times ◌⊕◌
times_03 = agreed 0x03 (λ b. x_times b ⊕ b) tt

pub times_09 : (b : ℕ) → b < 256 → 0x09 • b ≡ x_times (x_times (x_times b)) ⊕ b
unfolding s_box_table ◌•◌ polynomial_product reduced x_times ◌⊕◌
times_09 = agreed 0x09 (λ b. x_times (x_times (x_times b)) ⊕ b) tt

pub times_0b : (b : ℕ) → b < 256 → 0x0b • b ≡ x_times (x_times (x_times b) ⊕ b) ⊕ b
unfolding s_box_table ◌•◌ polynomial_product reduced x_times ◌⊕◌
times_0b = agreed 0x0b (λ b. x_times (x_times (x_times b) ⊕ b) ⊕ b) tt

pub times_0d : (b : ℕ) → b < 256 → 0x0d • b ≡ x_times (x_times (x_times b ⊕ b)) ⊕ b
unfolding s_box_table ◌•◌ polynomial_product reduced x_times ◌⊕◌
times_0d = agreed 0x0d (λ b. x_times (x_times (x_times b ⊕ b)) ⊕ b) tt

pub times_0e : (b : ℕ) → b < 256 → 0x0e • b ≡ x_times (x_times (x_times b ⊕ b) ⊕ b)
unfolding s_box_table ◌•◌ polynomial_product reduced x_times ◌⊕◌
times_0e = agreed 0x0e (λ b. x_times (x_times (x_times b ⊕ b) ⊕ b)) tt

-- ---- a row of a matrix times a column

-- the column may start at any of its bytes, if the row starts there too
pub dot_turn : (a₀ a₁ a₂ a₃ b₀ b₁ b₂ b₃ : ℕ) → dot a₀ a₁ a₂ a₃ b₀ b₁ b₂ b₃ ≡ dot a₁ a₂ a₃ a₀ b₁ b₂ b₃ b₀
unfolding dot
dot_turn a₀ a₁ a₂ a₃ b₀ b₁ b₂ b₃ = simp (⊕-assoc, ⊕-comm, ⊕-left-comm)

pub dot_mix : (a b c d : ℕ) → a < 256 → b < 256 → c < 256 → d < 256 → dot 0x02 0x03 0x01 0x01 a b c d ≡ x_times a ⊕ (x_times b ⊕ b) ⊕ c ⊕ d
unfolding dot
dot_mix a b c d ha hb hc hd = cc (times_02 a ha, times_03 b hb, times_01 c hc, times_01 d hd)

pub dot_inv_mix : (a b c d : ℕ) → a < 256 → b < 256 → c < 256 → d < 256
    → dot 0x0e 0x0b 0x0d 0x09 a b c d
    ≡ x_times (x_times (x_times a ⊕ a) ⊕ a) ⊕ (x_times (x_times (x_times b) ⊕ b) ⊕ b) ⊕ (x_times (x_times (x_times c ⊕ c)) ⊕ c) ⊕ (x_times (x_times (x_times d)) ⊕ d)
unfolding dot
dot_inv_mix a b c d ha hb hc hd = cc (times_0e a ha, times_0b b hb, times_0d c hc, times_09 d hd)
