-- Bytes put into a list. Assumes nothing.
use mathlib.Core.Path.{◌≡◌, refl, sym, ap, ap₂, ◌∙◌}
use mathlib.Core.List.{List, ◌++◌, append_assoc}
use Prim.Native.Nat.{ℕ, ◌+◌, ◌≤◌}
use native.Mathlib.Omega.{arith}
use lib.ListN.{length, take, drop, length-append, length-take}
use lib.Seq.{take_at, drop-drop, drop-append-add}
use Rattle.aes.specs.Bytes.{put_at, word_bytes, state_bytes}
use Rattle.aes.specs.declared.State.{State}

-- bytes put after bytes that were put
put_at_put_at : (l : List ℕ) (i : ℕ) (xs ys : List ℕ) (j : ℕ) → j ≡ i + length xs → j + length ys ≤ length l
    → put_at (put_at l i xs) j ys ≡ put_at l i (xs ++ ys)
unfolding put_at
put_at_put_at l i xs ys j e h =
    let P : List ℕ = take i l ++ xs in
    let D : List ℕ = drop (i + length xs) l in
    let p : length P ≡ j = simp (length-append, length-take) (omega arith) in
    let m : i + length xs + length ys ≡ i + length (xs ++ ys) = omega (arith, length-append xs ys) in
    ap₂ (λ (u v : List ℕ). (u ++ ys) ++ v) (take_at P D j p)
    (ap (λ (n : ℕ). drop (n + length ys) (P ++ D)) (sym p) ∙ drop-append-add P D (length ys) ∙ drop-drop (length ys) (i + length xs) l
    ∙ ap (λ (n : ℕ). drop n l) m)
    ∙ ap (λ (u : List ℕ). u ++ drop (i + length (xs ++ ys)) l) (append_assoc (take i l) xs ys)

-- four words put in a row are a state
pub put_four : (l : List ℕ) (i : ℕ) (s : State) (l₁ l₂ l₃ l₄ : List ℕ) → i + 16 ≤ length l → l₁ ≡ put_at l i (word_bytes s.c0) → l₂ ≡ put_at l₁ (i + 4) (word_bytes s.c1)
    → l₃ ≡ put_at l₂ (i + 8) (word_bytes s.c2) → l₄ ≡ put_at l₃ (i + 12) (word_bytes s.c3) → l₄ ≡ put_at l i (state_bytes s)
unfolding state_bytes
put_four l i s l₁ l₂ l₃ l₄ h e₁ e₂ e₃ e₄ =
    let w₀ : List ℕ = word_bytes s.c0 in
    let w₁ : List ℕ = word_bytes s.c1 in
    let w₂ : List ℕ = word_bytes s.c2 in
    let w₃ : List ℕ = word_bytes s.c3 in
    let f₂ : l₂ ≡ put_at l i (w₀ ++ w₁) = e₂ ∙ ap (λ (x : List ℕ). put_at x (i + 4) w₁) e₁ ∙ put_at_put_at l i w₀ w₁ (i + 4) refl (omega arith) in
    let f₃ : l₃ ≡ put_at l i (w₀ ++ w₁ ++ w₂) = e₃ ∙ ap (λ (x : List ℕ). put_at x (i + 8) w₂) f₂ ∙ put_at_put_at l i (w₀ ++ w₁) w₂ (i + 8) refl (omega arith) in
    e₄ ∙ ap (λ (x : List ℕ). put_at x (i + 12) w₃) f₃ ∙ put_at_put_at l i (w₀ ++ w₁ ++ w₂) w₃ (i + 12) refl (omega arith)

pub take_put_at : (l : List ℕ) (i : ℕ) (xs : List ℕ) (n : ℕ) → n ≡ i + length xs → i ≤ length l → take n (put_at l i xs) ≡ take i l ++ xs
unfolding put_at
take_put_at l i xs n e h =
    let p : length (take i l ++ xs) ≡ n = simp (length-append, length-take) (omega arith) in
    take_at (take i l ++ xs) (drop (i + length xs) l) n p
