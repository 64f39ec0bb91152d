-- Text after text in a buffer: what was stored at a position, and then at the position after it, was stored as one.
-- Assumes nothing.
use Prim.Native.Nat.{ℕ, ◌+◌}
use native.Mathlib.Omega.{arith}
use mathlib.Core.Path.{◌≡◌, ◌∙◌, ap}
use mathlib.Core.List.{[], ◌∷◌, ◌++◌}
use native.Mathlib.Numerals.{add-one}
use lib.ListN.{length, set, length-append}
use lib.Seq.{sets}
use Rattle.lists.specs.Bytes.{Bytes}
use Rattle.lists.proofs.Copies.{sets_more}

-- two stores side by side, after a text
pub sets_two : (b : Bytes) (at : ℕ) (s : Bytes) (k x y : ℕ) → k ≡ length s → set (set (sets b at s) (at + k) x) (at + k + 1) y ≡ sets b at (s ++ (x ∷ y ∷ []))
sets_two b at s k x y e =
    ap (λ (n : ℕ). set (set (sets b at s) (at + k) x) n y) (add-one (at + k))
    ∙ ap (λ (n : ℕ). sets (sets b at s) (at + n) (x ∷ y ∷ [])) e
    ∙ sets_more b at s (x ∷ y ∷ [])

-- a text, and a text after it
pub then_sets : {c d : Bytes} {m n : ℕ} (b : Bytes) (at : ℕ) (s t : Bytes) → (m ≡ at + length s) × (c ≡ sets b at s) → (n ≡ m + length t) × (d ≡ sets c m t) → (n ≡ at + length (s ++ t)) × (d ≡ sets b at (s ++ t))
then_sets {m = m} b at s t h k = (
  omega (arith, length-append s t),
  k.1 ∙ ap (λ (x : Bytes). sets x m t) h.1 ∙ ap (λ (i : ℕ). sets (sets b at s) i t) h.0 ∙ sets_more b at s t,
)
