-- The product as code makes it. The remainder is additive, so it may be taken of each b x^i by itself; and there it is b, doubled i times, which one computed
-- test of the 256 bytes shows (the table only counts them). Assumes nothing.
use mathlib.Core.Path.{◌≡◌, refl, ap, ◌∙◌, subst}
use mathlib.Core.Bool.{Bool, true}
use Prim.Native.Nat.{ℕ, zero, suc, ◌+◌, ◌*◌, ◌/◌, ◌%◌, ◌^◌, ◌<◌}
use native.Mathlib.Nat.{zero-mul, one-mul, not-suc-le-zero}
use native.Mathlib.Decide.{dec_lt}
use native.Mathlib.Numerals.{add-one}
use native.Mathlib.Omega.{arith}
use lib.Dec.{eqb, eqb→eq, T}
use Rattle.field.specs.SBox.{s_box_table}
use Rattle.field.specs.Field.{◌⊕◌, polynomial_product, reduced, ◌•◌, x_times}
use Rattle.field.proofs.Table.{both, both_left, both_right, at}
use Rattle.field.proofs.Xor.{⊕-swap, ⊕-zero, digit_⊕}

-- ---- the remainder is additive

reduced_⊕ : (k p q : ℕ) → reduced k (p ⊕ q) ≡ reduced k p ⊕ reduced k q
unfolding reduced
reduced_⊕ zero p q = refl
reduced_⊕ (suc k) p q =
    ap (reduced k) (ap (λ (x : ℕ). (p ⊕ q) ⊕ x) (digit_⊕ (8 + k) (0x11b * 2 ^ k) p q)
    ∙ ⊕-swap p q (p / 2 ^ (8 + k) % 2 * (0x11b * 2 ^ k)) (q / 2 ^ (8 + k) % 2 * (0x11b * 2 ^ k)))
    ∙ reduced_⊕ k (p ⊕ (p / 2 ^ (8 + k) % 2 * (0x11b * 2 ^ k))) (q ⊕ (q / 2 ^ (8 + k) % 2 * (0x11b * 2 ^ k)))

-- ---- the remainder of b x^i

-- b, doubled i times
unfoldable pub doubled : ℕ → ℕ → ℕ
doubled zero b = b
doubled (suc i) b = x_times (doubled i b)

-- the remainders of b, b x, and on below b x^n
abbrev powers : ℕ → ℕ → Bool
powers zero b = true
powers (suc n) b = both (powers n b) (eqb (reduced 7 (b * 2 ^ n)) (doubled n b))

powers_at : (n i b : ℕ) → i < n → T (powers n b) → reduced 7 (b * 2 ^ i) ≡ doubled i b
powers_at zero i b h t = absurd (not-suc-le-zero h)
powers_at (suc n) i b h t =
    elim (dec_lt i n) [ yes g ↦ powers_at n i b g (both_left (powers n b) (eqb (reduced 7 (b * 2 ^ n)) (doubled n b)) t) | no g ↦ last (omega (arith, g)) ]
  where
    last : n ≡ i → reduced 7 (b * 2 ^ i) ≡ doubled i b
    last e = subst (λ (j : ℕ). reduced 7 (b * 2 ^ j) ≡ doubled j b) e (eqb→eq _ _ (both_right (powers n b) (eqb (reduced 7 (b * 2 ^ n)) (doubled n b)) t))

powers_all : (b : ℕ) → b < 256 → T (powers 8 b)
unfolding s_box_table reduced doubled x_times ◌⊕◌
powers_all b h = at (λ (k x : ℕ). powers 8 k) s_box_table tt b h

power : (i b : ℕ) → i < 8 → b < 256 → reduced 7 (b * 2 ^ i) ≡ doubled i b
power i b h g = powers_at 8 i b h (powers_all b g)

-- ---- the turns of the loop

pub doubled_next : (i b : ℕ) → doubled (i + 1) b ≡ x_times (doubled i b)
unfolding doubled
doubled_next i b = rw add-one

-- the remainder of the sum of the first i digits' terms
unfoldable pub product_to : ℕ → ℕ → ℕ → ℕ
product_to i a b = reduced 7 (polynomial_product i a b)

product_next : (i a b : ℕ) → product_to (i + 1) a b ≡ product_to i a b ⊕ reduced 7 (a / 2 ^ i % 2 * (b * 2 ^ i))
unfolding product_to polynomial_product
product_next i a b = rw add-one (reduced_⊕ 7 (polynomial_product i a b) (a / 2 ^ i % 2 * (b * 2 ^ i)))

pub turn_one : (i a b : ℕ) → i < 8 → b < 256 → a / 2 ^ i % 2 ≡ 1 → product_to (i + 1) a b ≡ product_to i a b ⊕ doubled i b
turn_one i a b h g e =
    product_next i a b ∙ ap (λ (x : ℕ). product_to i a b ⊕ x) (ap (λ (x : ℕ). reduced 7 (x * (b * 2 ^ i))) e ∙ ap (reduced 7) (one-mul (b * 2 ^ i)) ∙ power i b h g)

reduced_zero : reduced 7 0 ≡ 0
unfolding reduced ◌⊕◌
reduced_zero = refl

pub turn_zero : (i a b : ℕ) → a / 2 ^ i % 2 ≡ 0 → product_to (i + 1) a b ≡ product_to i a b
turn_zero i a b e =
    product_next i a b ∙ ap (λ (x : ℕ). product_to i a b ⊕ x) (ap (λ (x : ℕ). reduced 7 (x * (b * 2 ^ i))) e ∙ ap (reduced 7) (zero-mul (b * 2 ^ i)) ∙ reduced_zero) ∙ ⊕-zero (product_to i a b)

pub product_none : (a b : ℕ) → 0 ≡ product_to 0 a b
unfolding product_to polynomial_product reduced ◌⊕◌
product_none a b = refl

pub product_all : (a b : ℕ) → product_to 8 a b ≡ a • b
unfolding product_to ◌•◌
product_all a b = refl
