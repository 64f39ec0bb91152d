-- A column mixed: the matrices of MixColumns and InvMixColumns have one row, turned, so each byte of the new column is made by one function of the
-- bytes from its own row on; and each of the two undoes the other, since the products cancel as sums of xTimes(). Assumes nothing.
use mathlib.Core.Path.{◌≡◌, refl, sym, ◌∙◌}
use Prim.Native.Nat.{ℕ, ◌<◌}
use Rattle.field.specs.Field.{◌⊕◌, x_times, dot}
use Rattle.aes.specs.Words.{mix_column, inv_mix_column}
use Rattle.aes.specs.declared.Word.{Word}
use Rattle.field.proofs.Xor.{⊕-assoc, ⊕-comm, ⊕-left-comm, ⊕-self, ⊕-cancel, zero_⊕, x_times_⊕}
use Rattle.field.proofs.Factors.{dot_turn, dot_mix, dot_inv_mix}

-- a word by its bytes
pub word_eq : {a a' b b' c c' d d' : ℕ} → a ≡ a' → b ≡ b' → c ≡ c' → d ≡ d'
    → ◌≡◌ {A = Word} (record { r0 = a; r1 = b; r2 = c; r3 = d }) (record { r0 = a'; r1 = b'; r2 = c'; r3 = d' })
word_eq p q r s = cc

-- a column whose bytes are made by f, each from its own row on
unfoldable pub mixed : (ℕ → ℕ → ℕ → ℕ → ℕ) → Word → Word
mixed f w =
    record {
      r0 = f w.r0 w.r1 w.r2 w.r3;
      r1 = f w.r1 w.r2 w.r3 w.r0;
      r2 = f w.r2 w.r3 w.r0 w.r1;
      r3 = f w.r3 w.r0 w.r1 w.r2;
    }

-- the matrix whose first row is p q r s, and each next row the one before, turned: the same row serves every byte
rows : (p q r s : ℕ) (w : Word)
    → ◌≡◌ {A = Word}
    (record {
      r0 = dot p q r s w.r0 w.r1 w.r2 w.r3;
      r1 = dot s p q r w.r0 w.r1 w.r2 w.r3;
      r2 = dot r s p q w.r0 w.r1 w.r2 w.r3;
      r3 = dot q r s p w.r0 w.r1 w.r2 w.r3;
    })
    (mixed (dot p q r s) w)
unfolding mixed
rows p q r s w =
    word_eq refl (dot_turn s p q r w.r0 w.r1 w.r2 w.r3)
    (dot_turn r s p q w.r0 w.r1 w.r2 w.r3 ∙ dot_turn s p q r w.r1 w.r2 w.r3 w.r0)
    (sym (dot_turn p q r s w.r3 w.r0 w.r1 w.r2))

pub mix_column_rows : (w : Word) → mix_column w ≡ mixed (dot 0x02 0x03 0x01 0x01) w
unfolding mix_column
mix_column_rows w = rows 0x02 0x03 0x01 0x01 w

pub inv_mix_column_rows : (w : Word) → inv_mix_column w ≡ mixed (dot 0x0e 0x0b 0x0d 0x09) w
unfolding inv_mix_column
inv_mix_column_rows w = rows 0x0e 0x0b 0x0d 0x09 w

-- ---- the rows, of bytes, by xTimes()

unfoldable pub mix : ℕ → ℕ → ℕ → ℕ → ℕ
mix a b c d = x_times a ⊕ (x_times b ⊕ b) ⊕ c ⊕ d

unfoldable pub inv_mix : ℕ → ℕ → ℕ → ℕ → ℕ
inv_mix a b c d =
    x_times (x_times (x_times a ⊕ a) ⊕ a) ⊕ (x_times (x_times (x_times b) ⊕ b) ⊕ b) ⊕ (x_times (x_times (x_times c ⊕ c)) ⊕ c) ⊕ (x_times (x_times (x_times d)) ⊕ d)

-- two functions that agree on bytes mix a column of bytes alike
mixed_agree : (f g : ℕ → ℕ → ℕ → ℕ → ℕ) → ((a b c d : ℕ) → a < 256 → b < 256 → c < 256 → d < 256 → f a b c d ≡ g a b c d)
    → (w : Word) → w.r0 < 256 → w.r1 < 256 → w.r2 < 256 → w.r3 < 256 → mixed f w ≡ mixed g w
unfolding mixed
mixed_agree f g e w h₀ h₁ h₂ h₃ = word_eq (e _ _ _ _ h₀ h₁ h₂ h₃) (e _ _ _ _ h₁ h₂ h₃ h₀) (e _ _ _ _ h₂ h₃ h₀ h₁) (e _ _ _ _ h₃ h₀ h₁ h₂)

pub mix_column_mixed : (w : Word) → w.r0 < 256 → w.r1 < 256 → w.r2 < 256 → w.r3 < 256 → mix_column w ≡ mixed mix w
unfolding mix
mix_column_mixed w h₀ h₁ h₂ h₃ = mix_column_rows w ∙ mixed_agree (dot 0x02 0x03 0x01 0x01) mix dot_mix w h₀ h₁ h₂ h₃

pub inv_mix_column_mixed : (w : Word) → w.r0 < 256 → w.r1 < 256 → w.r2 < 256 → w.r3 < 256 → inv_mix_column w ≡ mixed inv_mix w
unfolding inv_mix
inv_mix_column_mixed w h₀ h₁ h₂ h₃ = inv_mix_column_rows w ∙ mixed_agree (dot 0x0e 0x0b 0x0d 0x09) inv_mix dot_inv_mix w h₀ h₁ h₂ h₃

-- ---- the rows cancel

inv_mix_mix : (a b c d : ℕ) → inv_mix (mix a b c d) (mix b c d a) (mix c d a b) (mix d a b c) ≡ a
unfolding mix inv_mix
inv_mix_mix a b c d = simp (x_times_⊕, ⊕-assoc, ⊕-comm, ⊕-left-comm, ⊕-self, ⊕-cancel, zero_⊕)

mix_inv_mix : (a b c d : ℕ) → mix (inv_mix a b c d) (inv_mix b c d a) (inv_mix c d a b) (inv_mix d a b c) ≡ a
unfolding mix inv_mix
mix_inv_mix a b c d = simp (x_times_⊕, ⊕-assoc, ⊕-comm, ⊕-left-comm, ⊕-self, ⊕-cancel, zero_⊕)

pub unmixed : (w : Word) → mixed inv_mix (mixed mix w) ≡ w
unfolding mixed
unmixed w = word_eq (inv_mix_mix _ _ _ _) (inv_mix_mix _ _ _ _) (inv_mix_mix _ _ _ _) (inv_mix_mix _ _ _ _)

pub remixed : (w : Word) → mixed mix (mixed inv_mix w) ≡ w
unfolding mixed
remixed w = word_eq (mix_inv_mix _ _ _ _) (mix_inv_mix _ _ _ _) (mix_inv_mix _ _ _ _) (mix_inv_mix _ _ _ _)
