-- How the expansion goes on, in the terms in which code counts. Assumes nothing.
use mathlib.Core.Path.{◌≡◌, refl, sym, ap, ap₂, ◌∙◌}
use mathlib.Core.List.{List, ◌++◌}
use Prim.Native.Nat.{ℕ, zero, suc, ◌+◌, ◌-◌, ◌*◌, ◌/◌, ◌≤◌}
use native.Mathlib.Numerals.{add-one}
use native.Mathlib.Nat.{mul-suc, zero-add}
use native.Mathlib.Decide.{dec_lt}
use borrow.Author.Tests.{lt-ltb, le-ltb}
use native.Mathlib.Omega.{arith}
use lib.ListN.{length, take, drop, length-append}
use Rattle.field.specs.Field.{x_times}
use Rattle.aes.specs.Bytes.{word_bytes, put_at}
use Rattle.aes.specs.KeyExpansion.{x_power, next_word, expanded, key_expansion}
use Rattle.aes.specs.declared.Word.{Word}
use Rattle.aes.proofs.Appended.{put_seam, front}
use Rattle.aes.proofs.PutAt.{take_put_at}

pub x_power_next : (i : ℕ) → x_power (i + 1) ≡ x_times (x_power i)
unfolding x_power
x_power_next i = rw add-one

-- ---- the words so far, before those that the list had

pub length_expanded : (nk : ℕ) (key : List ℕ) (i : ℕ) → length (expanded nk key i) ≡ 4 * i
unfolding expanded
length_expanded nk key zero = refl
length_expanded nk key (suc i) = simp length-append (omega (arith, length_expanded nk key i, mul-suc 4 i))

expanded_next : (nk : ℕ) (key : List ℕ) (i : ℕ) → expanded nk key (i + 1) ≡ expanded nk key i ++ word_bytes (next_word nk key (expanded nk key i) i)
unfolding expanded
expanded_next nk key i = rw add-one

-- word i does not depend on what follows the words before it
next_word_front : (nk : ℕ) (key A D : List ℕ) (i : ℕ) → 4 ≤ nk → length A ≡ 4 * i → next_word nk key (A ++ D) i ≡ next_word nk key A i
unfolding next_word
next_word_front nk key A D i g e = elim (dec_lt i nk) [ yes h ↦ simp (lt-ltb i nk h) | no h ↦ later (omega (arith, h)) ]
  where
    later : nk ≤ i → next_word nk key (A ++ D) i ≡ next_word nk key A i
    later k =
        let p : 4 * (i - nk) + 4 ≤ length A = omega arith in
        let q : 4 * i - 4 + 4 ≤ length A = omega arith in
        simp (le-ltb i nk k) (cc (front A D (4 * (i - nk)) p, front A D (4 * i - 4) q))

pub expand_turn : (nk : ℕ) (key l₀ l l' : List ℕ) (i : ℕ) (r : Word) → 4 ≤ nk → l ≡ expanded nk key i ++ drop (4 * i) l₀ → r ≡ next_word nk key l i → l' ≡ put_at l (4 * i) (word_bytes r)
    → l' ≡ expanded nk key (i + 1) ++ drop (4 * (i + 1)) l₀
expand_turn nk key l₀ l l' i r g e er el =
    let A : List ℕ = expanded nk key i in
    let f : r ≡ next_word nk key A i = er ∙ ap (λ (x : List ℕ). next_word nk key x i) e ∙ next_word_front nk key A (drop (4 * i) l₀) i g (length_expanded nk key i) in
    let m : 4 * i + 4 ≡ 4 * (i + 1) = omega arith in
    el ∙ ap₂ (λ (x : List ℕ) (s : Word). put_at x (4 * i) (word_bytes s)) e f
    ∙ put_seam A l₀ (4 * i) (length_expanded nk key i) (word_bytes (next_word nk key A i))
    ∙ ap₂ (λ (x : List ℕ) (k : ℕ). x ++ drop k l₀) (sym (expanded_next nk key i)) m

pub length_key_expansion : (key : List ℕ) → length (key_expansion key) ≡ 16 * (length key / 4 + 7)
unfolding key_expansion
length_key_expansion key = omega (arith, length_expanded (length key / 4) key (4 * (length key / 4 + 6 + 1)))

pub expanded_all : (key l₀ : List ℕ) (i : ℕ) → i ≡ 4 * (length key / 4 + 7) → expanded (length key / 4) key i ++ drop (4 * i) l₀ ≡ put_at l₀ 0 (key_expansion key)
unfolding put_at key_expansion
expanded_all key l₀ i h =
    let m : 4 * i ≡ length (key_expansion key) = omega (arith, length_key_expansion key) in
    let n : i ≡ 4 * (length key / 4 + 6 + 1) = omega arith in
    ap₂ (λ (x : List ℕ) (k : ℕ). x ++ drop k l₀) (ap (expanded (length key / 4) key) n ∙ whole) (m ∙ sym (zero-add (length (key_expansion key))))
  where
    whole : expanded (length key / 4) key (4 * (length key / 4 + 6 + 1)) ≡ key_expansion key
    whole = refl

-- the bytes up to the last round key are the expanded key
pub schedule_bytes : (key l₀ l : List ℕ) → l ≡ put_at l₀ 0 (key_expansion key) → take (16 * (length key / 4 + 6 + 1)) l ≡ key_expansion key
schedule_bytes key l₀ l e =
    let m : 16 * (length key / 4 + 6 + 1) ≡ 0 + length (key_expansion key) = omega (arith, length_key_expansion key) in
    ap (take (16 * (length key / 4 + 6 + 1))) e ∙ take_put_at l₀ 0 (key_expansion key) (16 * (length key / 4 + 6 + 1)) m (omega arith)
