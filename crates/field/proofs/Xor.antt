-- The laws of the sum and of doubling: the sum is a commutative group in which each element is its own inverse, and doubling is additive. They hold of all
-- numbers. Assumes nothing.
use mathlib.Core.Path.{◌≡◌, refl, sym, ap, ap₂, ◌∙◌}
use Prim.Native.Nat.{ℕ, zero, suc, ◌+◌, ◌*◌, ◌/◌, ◌%◌, ◌^◌, ◌<◌}
use native.Mathlib.Nat.{mod-lt, zero-mul, add-zero, zero-lt-suc, le_refl}
use native.Mathlib.Omega.{arith}
use lib.Dec.{lit<}
use lib.Arith.{bin_ind, digits_mod}
use lib.Bits.{bit_xor, differ, xor_step, xor_comm, xor_zero_l, xor_zero_r, xor_self, xor_shr, xor_mod, xor_lt, xor_block}
use Rattle.field.specs.Field.{◌⊕◌, x_times}

two_pos : zero < 2
two_pos = zero-lt-suc 1

digit_lt : (x y : ℕ) → x < 2 → y < 2 → differ x y < 2
digit_lt zero y hx hy = hy
digit_lt (suc zero) zero hx hy = le_refl 2
digit_lt (suc zero) (suc y) hx hy = omega arith
digit_lt (suc (suc x)) y hx hy = omega arith

digit_assoc : (x y z : ℕ) → x < 2 → y < 2 → z < 2 → differ (differ x y) z ≡ differ x (differ y z)
digit_assoc zero y z hx hy hz = refl
digit_assoc (suc zero) zero z hx hy hz = refl
digit_assoc (suc zero) (suc zero) zero hx hy hz = refl
digit_assoc (suc zero) (suc zero) (suc zero) hx hy hz = refl
digit_assoc (suc zero) (suc zero) (suc (suc z)) hx hy hz = absurd (omega arith)
digit_assoc (suc zero) (suc (suc y)) z hx hy hz = absurd (omega arith)
digit_assoc (suc (suc x)) y z hx hy hz = absurd (omega arith)

half : (a b : ℕ) → bit_xor a b / 2 ≡ bit_xor (a / 2) (b / 2)
half a b = xor_shr a b 1

odd : (a b : ℕ) → bit_xor a b % 2 ≡ differ (a % 2) (b % 2)
odd a b = ap (λ (x : ℕ). x % 2) (xor_step a b) ∙ digits_mod (bit_xor (a / 2) (b / 2)) (digit_lt (a % 2) (b % 2) (mod-lt a two_pos) (mod-lt b two_pos))

xor_assoc : (a b c : ℕ) → bit_xor (bit_xor a b) c ≡ bit_xor a (bit_xor b c)
xor_assoc a =
    bin_ind (λ (n : ℕ). (b c : ℕ) → bit_xor (bit_xor n b) c ≡ bit_xor n (bit_xor b c)) (λ b c. refl)
    (λ n ih b c. xor_step (bit_xor n b) c
    ∙ ap₂ (λ (x y : ℕ). bit_xor x (c / 2) * 2 + differ y (c % 2)) (half n b) (odd n b)
    ∙ ap₂ (λ (x y : ℕ). x * 2 + y) (ih (b / 2) (c / 2)) (digit_assoc (n % 2) (b % 2) (c % 2) (mod-lt n two_pos) (mod-lt b two_pos) (mod-lt c two_pos))
    ∙ sym (ap₂ (λ (x y : ℕ). bit_xor (n / 2) x * 2 + differ (n % 2) y) (half b c) (odd b c))
    ∙ sym (xor_step n (bit_xor b c))) a

-- the program's ^
pub xor_is_sum : (a b : ℕ) → bit_xor a b ≡ a ⊕ b
unfolding ◌⊕◌
xor_is_sum a b = refl

pub ⊕-assoc : (a b c : ℕ) → (a ⊕ b) ⊕ c ≡ a ⊕ (b ⊕ c)
unfolding ◌⊕◌
⊕-assoc = xor_assoc

pub ⊕-comm : (a b : ℕ) → a ⊕ b ≡ b ⊕ a
unfolding ◌⊕◌
⊕-comm = xor_comm

pub ⊕-self : (a : ℕ) → a ⊕ a ≡ 0
unfolding ◌⊕◌
⊕-self = xor_self

pub ⊕-zero : (a : ℕ) → a ⊕ 0 ≡ a
unfolding ◌⊕◌
⊕-zero = xor_zero_r

pub zero_⊕ : (a : ℕ) → 0 ⊕ a ≡ a
unfolding ◌⊕◌
zero_⊕ = xor_zero_l

pub ⊕-lt : (a b : ℕ) → a < 256 → b < 256 → a ⊕ b < 256
unfolding ◌⊕◌
⊕-lt = xor_lt 8

pub ⊕-left-comm : (a b c : ℕ) → a ⊕ (b ⊕ c) ≡ b ⊕ (a ⊕ c)
⊕-left-comm a b c = sym (⊕-assoc a b c) ∙ ap (λ (x : ℕ). x ⊕ c) (⊕-comm a b) ∙ ⊕-assoc b a c

pub ⊕-cancel : (a b : ℕ) → a ⊕ (a ⊕ b) ≡ b
⊕-cancel a b = sym (⊕-assoc a a b) ∙ ap (λ (x : ℕ). x ⊕ b) (⊕-self a) ∙ zero_⊕ b

pub ⊕-swap : (a b c d : ℕ) → (a ⊕ b) ⊕ (c ⊕ d) ≡ (a ⊕ c) ⊕ (b ⊕ d)
⊕-swap a b c d = simp (⊕-assoc, ⊕-left-comm)

-- ---- a binary digit, times a number, is additive

digit_times : (a b m : ℕ) → a < 2 → b < 2 → bit_xor a b * m ≡ bit_xor (a * m) (b * m)
digit_times zero b m ha hb = simp (zero-mul, xor_zero_l)
digit_times (suc zero) zero m ha hb = simp (zero-mul, xor_zero_r)
digit_times (suc zero) (suc zero) m ha hb = zero-mul m ∙ sym (xor_self (1 * m))
digit_times (suc zero) (suc (suc b)) m ha hb = absurd (omega arith)
digit_times (suc (suc a)) b m ha hb = absurd (omega arith)

pub digit_⊕ : (n m p q : ℕ) → (p ⊕ q) / 2 ^ n % 2 * m ≡ (p / 2 ^ n % 2 * m) ⊕ (q / 2 ^ n % 2 * m)
unfolding ◌⊕◌
digit_⊕ n m p q =
    ap (λ (x : ℕ). x % 2 * m) (xor_shr p q n) ∙ ap (λ (x : ℕ). x * m) (xor_mod (p / 2 ^ n) (q / 2 ^ n) 1)
    ∙ digit_times (p / 2 ^ n % 2) (q / 2 ^ n % 2) m (mod-lt (p / 2 ^ n) (zero-lt-suc 1)) (mod-lt (q / 2 ^ n) (zero-lt-suc 1))

-- ---- doubling is additive

times_two : (a b : ℕ) → bit_xor a b * 2 ≡ bit_xor (a * 2) (b * 2)
times_two a b = sym (simp add-zero at (xor_block 1 a b 0 0 (lit< tt) (lit< tt)))

low : (a b : ℕ) → bit_xor a b % 128 * 2 ≡ bit_xor (a % 128 * 2) (b % 128 * 2)
low a b = ap (λ (x : ℕ). x * 2) (xor_mod a b 7) ∙ times_two (a % 128) (b % 128)

pub x_times_⊕ : (a b : ℕ) → x_times (a ⊕ b) ≡ x_times a ⊕ x_times b
unfolding x_times ◌⊕◌
x_times_⊕ a b = ap₂ bit_xor (low a b) (digit_⊕ 7 27 a b) ∙ ⊕-swap (a % 128 * 2) (b % 128 * 2) (a / 128 % 2 * 27) (b / 128 % 2 * 27)

pub x_times_lt : (b : ℕ) → b < 256 → x_times b < 256
unfolding x_times
x_times_lt b h = ⊕-lt _ _ (omega arith) (omega arith)
