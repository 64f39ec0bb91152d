-- Words and states of a list that is made of two. Assumes nothing.
use mathlib.Core.Path.{◌≡◌, refl, sym, ap, ap₂, ◌∙◌}
use mathlib.Core.List.{List, ◌++◌}
use Prim.Native.Nat.{ℕ, ◌+◌, ◌-◌, ◌≤◌, ◌<◌}
use native.Mathlib.Omega.{arith}
use lib.ListN.{length, drop, get_or, get_or-append}
use lib.Seq.{take_at, drop-drop, drop-append-add, get_or-append-add, get_or-drop}
use Rattle.aes.specs.Bytes.{put_at, state_bytes}
use Rattle.aes.specs.Words.{word_at}
use Rattle.aes.specs.States.{state_at}
use Rattle.aes.specs.declared.State.{State}

-- ---- a list whose first bytes have been replaced by as many others, seam after seam

module _ (A l : List ℕ) (n : ℕ) (e : length A ≡ n) where
  get_d_seam : (j d : ℕ) → n ≤ j → get_or (A ++ drop n l) j d ≡ get_or l j d
  get_d_seam j d h =
      let m : length A + (j - n) ≡ j = omega arith in
      let m' : n + (j - n) ≡ j = omega arith in
      ap (λ (k : ℕ). get_or (A ++ drop n l) k d) (sym m) ∙ get_or-append-add A (drop n l) (j - n) d ∙ get_or-drop n l (j - n) d ∙ ap (λ (k : ℕ). get_or l k d) m'

  word_seam : (j : ℕ) → n ≤ j → word_at (A ++ drop n l) j ≡ word_at l j
  unfolding word_at
  word_seam j h = cc (get_d_seam j 0 h, get_d_seam (j + 1) 0 (omega arith), get_d_seam (j + 2) 0 (omega arith), get_d_seam (j + 3) 0 (omega arith))

  pub seam_at : (j : ℕ) → n ≤ j → state_at (A ++ drop n l) j ≡ state_at l j
  unfolding state_at
  seam_at j h = cc (word_seam j h, word_seam (j + 4) (omega arith), word_seam (j + 8) (omega arith), word_seam (j + 12) (omega arith))

  pub put_seam : (xs : List ℕ) → put_at (A ++ drop n l) n xs ≡ (A ++ xs) ++ drop (n + length xs) l
  unfolding put_at
  put_seam xs =
      ap₂ (λ (u v : List ℕ). (u ++ xs) ++ v) (take_at A (drop n l) n e)
      (ap (λ (k : ℕ). drop (k + length xs) (A ++ drop n l)) (sym e) ∙ drop-append-add A (drop n l) (length xs) ∙ drop-drop (length xs) n l)

-- a word that lies in the first of two lists
pub front : (A D : List ℕ) (j : ℕ) → j + 4 ≤ length A → word_at (A ++ D) j ≡ word_at A j
unfolding word_at
front A D j h =
    let h₀ : j < length A = omega arith in
    let h₁ : j + 1 < length A = omega arith in
    let h₂ : j + 2 < length A = omega arith in
    let h₃ : j + 3 < length A = omega arith in
    cc (get_or-append A D 0 j h₀, get_or-append A D 0 (j + 1) h₁, get_or-append A D 0 (j + 2) h₂, get_or-append A D 0 (j + 3) h₃)

pub length_state : (s : State) → length (state_bytes s) ≡ 16
unfolding state_bytes
length_state s = refl
