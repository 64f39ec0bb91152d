-- Multiplication by α is multiplication by x modulo x^128 + x^7 + x^2 + x + 1: four words moved up by one binary digit are twice their number, less what comes out;
-- and 135 added at the lowest byte is the modulus added, without its highest term. Assumes nothing.
use mathlib.Core.Path.{◌≡◌, refl, sym, ap, ◌∙◌}
use Prim.Native.Nat.{ℕ, zero, suc, ◌+◌, ◌*◌, ◌/◌, ◌%◌, ◌^◌, ◌<◌}
use native.Mathlib.Nat.{add-zero, zero-add, div-div-eq-div-mul}
use native.Mathlib.Omega.{arith}
use lib.Dec.{lit<}
use lib.Bits.{bit_xor, xor_shifted, xor_block, xor_zero_r}
use Rattle.lists.specs.Bytes.{ByteList}
use Rattle.field.specs.Field.{◌⊕◌}
use Rattle.field.proofs.Xor.{⊕-zero}
use Rattle.aes.specs.Bytes.{state_bytes}
use Rattle.aes.specs.declared.Word.{Word}
use Rattle.aes.specs.declared.State.{State}
use Rattle.modes.specs.Xts.{shifted, shifted_word, times_alpha}
use Rattle.modes.specs.Meanings.{little_endian, alpha_modulus}
use Rattle.aes.proofs.ByteStates.{ByteWord, ByteState}
use Rattle.modes.proofs.Numbers.{word_value}
use Rattle.modes.proofs.XtsRoundTrip.{times_alpha_bytes}

-- ---- a word moved up

-- a digit comes in at an even number
digit_in : (a low : ℕ) → low < 2 → shifted a low ≡ a % 128 * 2 + low
unfolding ◌⊕◌
digit_in a low h = xor_shifted (a % 128) 1 low h

-- what stands above the lowest byte of a word that was moved up
abbrev upper : Word → ℕ
upper w = shifted w.r1 (w.r0 / 128) + 256 * (shifted w.r2 (w.r1 / 128) + 256 * shifted w.r3 (w.r2 / 128))

upper_is : (w : Word) → w.r0 < 256 → w.r1 < 256 → w.r2 < 256 → w.r0 % 128 * 2 + 256 * upper w + 4294967296 * (w.r3 / 128) ≡ 2 * word_value w
upper_is w h₀ h₁ h₂ =
    let e₁ = digit_in w.r1 (w.r0 / 128) (omega arith) in
    let e₂ = digit_in w.r2 (w.r1 / 128) (omega arith) in
    let e₃ = digit_in w.r3 (w.r2 / 128) (omega arith) in
    omega arith

word_is : (w : Word) (low : ℕ) → word_value (shifted_word w low) ≡ shifted w.r0 low + 256 * upper w
unfolding shifted_word
word_is w low = refl

-- ---- a state

-- the number of a state, by its words
abbrev value : Word → Word → Word → Word → ℕ
value a b c d = word_value a + 4294967296 * (word_value b + 4294967296 * (word_value c + 4294967296 * word_value d))

value_is : (s : State) → little_endian (state_bytes s) ≡ value s.c0 s.c1 s.c2 s.c3
unfolding state_bytes
value_is s = omega arith

word_up : (w : Word) (low : ℕ) → low < 2 → w.r0 < 256 → w.r1 < 256 → w.r2 < 256
    → word_value (shifted_word w low) + 4294967296 * (w.r3 / 128) ≡ 2 * word_value w + low
word_up w low h h₀ h₁ h₂ =
    let e = digit_in w.r0 low h in
    omega (arith, word_is w low, upper_is w h₀ h₁ h₂)

-- a word more at the low end: the digit that comes out of it comes in above
one_more : (w low out W rest Rest X : ℕ) → W + 4294967296 * out ≡ 2 * w + low → 2 * rest + out ≡ Rest + X
    → 2 * (w + 4294967296 * rest) + low ≡ W + 4294967296 * Rest + 4294967296 * X
one_more w low out W rest Rest X h g = omega arith

-- ---- the modulus

-- 2^128, where the digit H comes out
abbrev out_at : ℕ → ℕ
out_at H = 4294967296 * (4294967296 * (4294967296 * (4294967296 * H)))

parted : (e R A : ℕ) → e + 256 * R + 256 * A ≡ (1 * A + R) * 2 ^ 8 + e
parted e R A = omega arith

joined : (e R : ℕ) → R * 2 ^ 8 + e ≡ e + 256 * R
joined e R = omega arith

-- where the highest digit comes out, the modulus takes it away and adds 135 at the lowest byte
highest : (e R : ℕ) → e < 256 → R < 2 ^ 120 → (e + 256 * R + 2 ^ 128) ⊕ alpha_modulus ≡ (e ⊕ 135) + 256 * R
unfolding ◌⊕◌
highest e R he hR =
    let b : bit_xor (1 * 2 ^ 120 + R) (1 * 2 ^ 120 + 0) ≡ R = xor_block 120 1 1 R 0 hR (lit< tt) ∙ zero-add (bit_xor R 0) ∙ xor_zero_r R in
    ap (λ (x : ℕ). bit_xor x alpha_modulus) (parted e R (2 ^ 120)) ∙ xor_block 8 (1 * 2 ^ 120 + R) (2 ^ 120) e 135 he (lit< tt)
    ∙ ap (λ (x : ℕ). x * 2 ^ 8 + bit_xor e 135) b ∙ joined (bit_xor e 135) R

reduced_by : (e R H N N' : ℕ) → e < 256 → R < 2 ^ 120 → H < 2 → 2 * N ≡ e + 256 * R + out_at H → N' ≡ (e ⊕ (H * 135)) + 256 * R → N' ≡ (2 * N) ⊕ (H * alpha_modulus)
reduced_by e R zero N N' he hR hH g g' = g' ∙ ap (λ (x : ℕ). x + 256 * R) (⊕-zero e) ∙ sym (g ∙ add-zero (e + 256 * R)) ∙ sym (⊕-zero (2 * N))
reduced_by e R (suc zero) N N' he hR hH g g' = g' ∙ sym (highest e R he hR) ∙ ap (λ (x : ℕ). x ⊕ alpha_modulus) (sym g)
reduced_by e R (suc (suc H)) N N' he hR hH g g' = absurd (omega arith)

-- ---- sizes

word_lt : (w : Word) → ByteWord w → word_value w < 4294967296
word_lt w h =
    let h₀ : w.r0 < 256 = h.r0 in
    let h₁ : w.r1 < 256 = h.r1 in
    let h₂ : w.r2 < 256 = h.r2 in
    let h₃ : w.r3 < 256 = h.r3 in
    omega arith

pair_lt : (a b : ℕ) → a < 4294967296 → b < 4294967296 → a + 4294967296 * b < 2 ^ 64
pair_lt a b h g = omega arith

three_lt : (a b : ℕ) → a < 4294967296 → b < 2 ^ 64 → a + 4294967296 * b < 2 ^ 96
three_lt a b h g = omega arith

rest_lt : (a b : ℕ) → a < 2 ^ 24 → b < 2 ^ 96 → a + 16777216 * b < 2 ^ 120
rest_lt a b h g = omega arith

-- the highest digit, by words and then within the last
highest_digit : (l w : ℕ) → l < 2 ^ 96 → (l + 2 ^ 96 * w) / 2 ^ 127 ≡ w / 2147483648
highest_digit l w h =
    let e : (l + 2 ^ 96 * w) / 2 ^ 96 ≡ w = omega arith in
    sym (div-div-eq-div-mul (l + 2 ^ 96 * w) (2 ^ 96) 2147483648) ∙ ap (λ (x : ℕ). x / 2147483648) e

word_digit : (w : Word) → ByteWord w → word_value w / 2147483648 ≡ w.r3 / 128
word_digit w h =
    let h₀ : w.r0 < 256 = h.r0 in
    let h₁ : w.r1 < 256 = h.r1 in
    let h₂ : w.r2 < 256 = h.r2 in
    omega arith

-- ---- the whole

nested : (a b c d : ℕ) → a + 4294967296 * (b + 4294967296 * (c + 4294967296 * d)) ≡ a + 4294967296 * (b + 4294967296 * c) + 2 ^ 96 * d
nested a b c d = omega arith

lowest : (x u S : ℕ) → x + 256 * u + 4294967296 * S ≡ x + 256 * (u + 16777216 * S)
lowest x u S = omega arith

even_lt : (b : ℕ) → b % 128 * 2 < 256
even_lt b = omega arith

digit_lt : (b : ℕ) → b < 256 → b / 128 < 2
digit_lt b h = omega arith

three_bytes : (a b c : ℕ) → a < 256 → b < 256 → c < 256 → a + 256 * (b + 256 * c) < 2 ^ 24
three_bytes a b c ha hb hc = omega arith

state_of : (t : State) → ByteList (state_bytes t) → ByteState t
unfolding state_bytes
state_of t h =
    record {
      c0 = record { r0 = h 0; r1 = h 1; r2 = h 2; r3 = h 3 };
      c1 = record { r0 = h 4; r1 = h 5; r2 = h 6; r3 = h 7 };
      c2 = record { r0 = h 8; r1 = h 9; r2 = h 10; r3 = h 11 };
      c3 = record { r0 = h 12; r1 = h 13; r2 = h 14; r3 = h 15 };
    }

module _ (t : State) (h : ByteState t) where
  abbrev H : ℕ
  H = t.c3.r3 / 128

  -- the three upper words, moved up
  abbrev W₁ : ℕ
  W₁ = word_value (shifted_word t.c1 (t.c0.r3 / 128))

  abbrev W₂ : ℕ
  W₂ = word_value (shifted_word t.c2 (t.c1.r3 / 128))

  abbrev W₃ : ℕ
  W₃ = word_value (shifted_word t.c3 (t.c2.r3 / 128))

  abbrev S : ℕ
  S = W₁ + 4294967296 * (W₂ + 4294967296 * W₃)

  -- all above the lowest byte, moved up
  abbrev R : ℕ
  R = upper t.c0 + 16777216 * S

  up : (w : Word) (b : ℕ) → ByteWord w → b < 256 → word_value (shifted_word w (b / 128)) + 4294967296 * (w.r3 / 128) ≡ 2 * word_value w + b / 128
  up w b g k = word_up w (b / 128) (digit_lt b k) g.r0 g.r1 g.r2

  doubled : 2 * little_endian (state_bytes t) ≡ t.c0.r0 % 128 * 2 + 256 * R + out_at H
  doubled =
      let s₃ : 2 * word_value t.c3 + t.c2.r3 / 128 ≡ W₃ + 4294967296 * H = sym (up t.c3 t.c2.r3 h.c3 h.c2.r3) in
      let s₂ = one_more (word_value t.c2) (t.c1.r3 / 128) (t.c2.r3 / 128) W₂ (word_value t.c3) W₃ (4294967296 * H) (up t.c2 t.c1.r3 h.c2 h.c1.r3) s₃ in
      let s₁ =
      one_more (word_value t.c1) (t.c0.r3 / 128) (t.c1.r3 / 128) W₁ (word_value t.c2 + 4294967296 * word_value t.c3) (W₂ + 4294967296 * W₃) (4294967296 * (4294967296 * H))
      (up t.c1 t.c0.r3 h.c1 h.c0.r3) s₂ in
      let s₀ =
      one_more (word_value t.c0) 0 (t.c0.r3 / 128) (t.c0.r0 % 128 * 2 + 256 * upper t.c0)
      (word_value t.c1 + 4294967296 * (word_value t.c2 + 4294967296 * word_value t.c3)) S (4294967296 * (4294967296 * (4294967296 * H)))
      (upper_is t.c0 h.c0.r0 h.c0.r1 h.c0.r2 ∙ sym (add-zero (2 * word_value t.c0))) s₁ in
      ap (λ (x : ℕ). 2 * x) (value_is t) ∙ sym (add-zero (2 * value t.c0 t.c1 t.c2 t.c3)) ∙ s₀
      ∙ ap (λ (x : ℕ). x + out_at H) (lowest (t.c0.r0 % 128 * 2) (upper t.c0) S)

  moved : little_endian (state_bytes (times_alpha t)) ≡ ((t.c0.r0 % 128 * 2) ⊕ (H * 135)) + 256 * R
  unfolding times_alpha
  moved =
      value_is (times_alpha t) ∙ ap (λ (x : ℕ). x + 4294967296 * S) (word_is t.c0 (H * 135))
      ∙ lowest ((t.c0.r0 % 128 * 2) ⊕ (H * 135)) (upper t.c0) S

  R-lt : R < 2 ^ 120
  unfolding times_alpha shifted_word
  R-lt =
      let g : ByteState (times_alpha t) = times_alpha_bytes t h in
      rest_lt (upper t.c0) S (three_bytes _ _ _ g.c0.r1 g.c0.r2 g.c0.r3)
      (three_lt W₁ (W₂ + 4294967296 * W₃) (word_lt _ g.c1) (pair_lt W₂ W₃ (word_lt _ g.c2) (word_lt _ g.c3)))

  digit_is : little_endian (state_bytes t) / 2 ^ 127 ≡ H
  digit_is =
      let a = word_value t.c0 in
      let b = word_value t.c1 in
      let c = word_value t.c2 in
      let d = word_value t.c3 in
      ap (λ (x : ℕ). x / 2 ^ 127) (value_is t ∙ nested a b c d)
      ∙ highest_digit (a + 4294967296 * (b + 4294967296 * c)) d (three_lt a (b + 4294967296 * c) (word_lt _ h.c0) (pair_lt b c (word_lt _ h.c1) (word_lt _ h.c2)))
      ∙ word_digit t.c3 h.c3

pub times_x : (t : State) → ByteList (state_bytes t)
    → little_endian (state_bytes (times_alpha t)) ≡ (2 * little_endian (state_bytes t)) ⊕ (little_endian (state_bytes t) / 2 ^ 127 * alpha_modulus)
times_x t h =
    let g : ByteState t = state_of t h in
    reduced_by (t.c0.r0 % 128 * 2) (R t g) (H t g) (little_endian (state_bytes t)) (little_endian (state_bytes (times_alpha t))) (even_lt t.c0.r0) (R-lt t g)
    (digit_lt t.c3.r3 g.c3.r3) (doubled t g) (moved t g)
    ∙ ap (λ (x : ℕ). (2 * little_endian (state_bytes t)) ⊕ (x * alpha_modulus)) (sym (digit_is t g))
