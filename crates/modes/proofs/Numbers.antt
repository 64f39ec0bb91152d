-- The blocks that modes start from: that of zeros is bytes; a data unit's number as a block has its bytes, the lowest first, and eight zeros, and the number is found again
-- in them. Assumes nothing.
use mathlib.Core.Path.{◌≡◌, refl, sym, ap, ◌∙◌}
use Prim.Native.Nat.{ℕ, zero, suc, ◌+◌, ◌*◌, ◌/◌, ◌%◌, ◌^◌, ◌<◌}
use native.Mathlib.Nat.{div-div-eq-div-mul}
use native.Mathlib.Omega.{arith}
use lib.Dec.{lit<}
use lib.ListN.{drop, get_or}
use Rattle.lists.specs.Bytes.{zeros}
use mathlib.Core.List.{List, ◌++◌}
use Rattle.std.specs.Int.{w64, to_le_bytes}
use Rattle.aes.specs.Words.{word_at}
use Rattle.aes.specs.States.{state_at}
use Rattle.aes.specs.Bytes.{state_bytes}
use Rattle.aes.specs.declared.Word.{Word}
use Rattle.aes.specs.declared.State.{State}
use Rattle.aes.proofs.ByteStates.{ByteWord, ByteState}
use Rattle.modes.specs.Blocks.{zero_word, zero_block, low_word, number_block}

-- ---- its bytes

upper : (n k : ℕ) → n / 4294967296 / k % 256 ≡ n / (4294967296 * k) % 256
upper n k = ap (λ (x : ℕ). x % 256) (div-div-eq-div-mul n 4294967296 k)

pub number_byte : (n i : ℕ) → i < 8 → get_or (state_bytes (number_block n)) i 0 ≡ n / 256 ^ i % 256
unfolding state_bytes number_block low_word
number_byte n zero h = omega arith
number_byte n (suc zero) h = refl
number_byte n (suc (suc zero)) h = refl
number_byte n (suc (suc (suc zero))) h = refl
number_byte n (suc (suc (suc (suc zero)))) h = refl
number_byte n (suc (suc (suc (suc (suc zero))))) h = upper n 256
number_byte n (suc (suc (suc (suc (suc (suc zero)))))) h = upper n 65536
number_byte n (suc (suc (suc (suc (suc (suc (suc zero))))))) h = upper n 16777216
number_byte n (suc (suc (suc (suc (suc (suc (suc (suc i)))))))) h = absurd (omega arith)

-- read from the number's bytes and eight zeros
pub number_read : (n : ℕ) (b l : List ℕ) (r : State) → b ≡ to_le_bytes w64 n → l ≡ b → r ≡ state_at (l ++ zeros 8) 0 → r ≡ number_block n
unfolding state_at word_at number_block low_word zeros
number_read n b l r e f g = g ∙ ap (λ (x : List ℕ). state_at (x ++ zeros 8) 0) (f ∙ e) ∙ cc (upper n 256, upper n 65536, upper n 16777216)

pub number_zeros : (n : ℕ) → drop 8 (state_bytes (number_block n)) ≡ zeros 8
unfolding state_bytes number_block zeros
number_zeros n = refl

zero_word_bytes : ByteWord zero_word
zero_word_bytes = record { r0 = lit< tt; r1 = lit< tt; r2 = lit< tt; r3 = lit< tt }

pub zero_block_bytes : ByteState zero_block
zero_block_bytes = record { c0 = zero_word_bytes; c1 = zero_word_bytes; c2 = zero_word_bytes; c3 = zero_word_bytes }

low_word_bytes : (n : ℕ) → ByteWord (low_word n)
unfolding low_word
low_word_bytes n = record { r0 = omega arith; r1 = omega arith; r2 = omega arith; r3 = omega arith }

pub number_block_bytes : (n : ℕ) → ByteState (number_block n)
unfolding number_block
number_block_bytes n = record { c0 = low_word_bytes n; c1 = low_word_bytes _; c2 = zero_word_bytes; c3 = zero_word_bytes }

-- ---- the number again

-- four bytes as a number
abbrev pub word_value : Word → ℕ
word_value w = w.r0 + 256 * (w.r1 + 256 * (w.r2 + 256 * w.r3))

low_word_value : (n : ℕ) → word_value (low_word n) + 4294967296 * (n / 4294967296) ≡ n
unfolding low_word
low_word_value n =
    let a : n / 65536 ≡ n / 256 / 256 = sym (div-div-eq-div-mul n 256 256) in
    let b : n / 16777216 ≡ n / 65536 / 256 = sym (div-div-eq-div-mul n 65536 256) in
    let c : n / 4294967296 ≡ n / 16777216 / 256 = sym (div-div-eq-div-mul n 16777216 256) in
    omega arith

pub number_own : (m n : ℕ) → m < 2 ^ 64 → n < 2 ^ 64 → number_block m ≡ number_block n → m ≡ n
unfolding number_block
number_own m n hm hn e =
    let lo : low_word m ≡ low_word n = ap (λ (s : State). s.c0) e in
    let hi : low_word (m / 4294967296) ≡ low_word (n / 4294967296) = ap (λ (s : State). s.c1) e in
    let lo' : word_value (low_word m) ≡ word_value (low_word n) = ap word_value lo in
    let hi' : word_value (low_word (m / 4294967296)) ≡ word_value (low_word (n / 4294967296)) = ap word_value hi in
    let q : m / 4294967296 ≡ n / 4294967296 =
    omega (arith, low_word_value (m / 4294967296), low_word_value (n / 4294967296)) in
    omega (arith, low_word_value m, low_word_value n)
