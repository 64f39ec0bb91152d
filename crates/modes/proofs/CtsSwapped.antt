-- Ciphertext stealing is CBC of the text filled up with zeros, whose last two blocks are exchanged, cut to the text's length: a block is read past the end of the text
-- as zeros, so CBC reads the same blocks. Assumes nothing.
use mathlib.Core.Path.{◌≡◌, sym, ap, ap₂, ◌∙◌}
use mathlib.Core.List.{List, ◌++◌, append_assoc}
use Prim.Native.Nat.{ℕ, suc, ◌+◌, ◌-◌, ◌*◌, ◌/◌, ◌<◌}
use native.Mathlib.Nat.{mul-suc, add-zero}
use native.Mathlib.Omega.{arith}
use lib.ListN.{length, take, drop, length-append, length-drop}
use lib.Seq.{take_at, drop_at, take-append-add}
use Rattle.lists.specs.Bytes.{zeros}
use Rattle.aes.specs.States.{state_at}
use Rattle.aes.specs.Bytes.{state_bytes}
use Rattle.aes.specs.declared.State.{State}
use Rattle.aes.proofs.Appended.{length_state}
use Rattle.modes.specs.Walk.{carried, walked}
use Rattle.modes.specs.Cbc.{cbc_step, cbc_next}
use Rattle.modes.specs.Cts.{last_two, long, cs3, cbc_cs3_encrypt}
use Rattle.modes.specs.Meanings.{last_two_swapped, cbc_padded}
use Rattle.modes.proofs.BlockLoop.{length_walked}
use Rattle.modes.proofs.ListBlocks.{padded_at, state_rest}
use Rattle.modes.proofs.RoundTrip.{walked_same}
use Rattle.modes.proofs.CtsSteal.{cs3_long}

-- ---- the last two parts of a list are exchanged

module _ (A B D : List ℕ) (k : ℕ) (ea : length A ≡ k) (eb : length B ≡ 16) where
  swapped : take k ((A ++ B) ++ D) ++ drop (k + 16) ((A ++ B) ++ D) ++ take 16 (drop k ((A ++ B) ++ D)) ≡ (A ++ D) ++ B
  swapped =
      let e : length (A ++ B) ≡ k + 16 = length-append A B ∙ ap₂ (λ (x y : ℕ). x + y) ea eb in
      let a : take k ((A ++ B) ++ D) ≡ A = ap (take k) (append_assoc A B D) ∙ take_at A (B ++ D) k ea in
      let b : drop k ((A ++ B) ++ D) ≡ B ++ D = ap (drop k) (append_assoc A B D) ∙ drop_at A (B ++ D) k ea in
      ap₂ (λ (x y : List ℕ). x ++ y) (ap₂ (λ (x y : List ℕ). x ++ y) a (drop_at (A ++ B) D (k + 16) e)) (ap (take 16) b ∙ take_at B D 16 eb)

  -- and the list is cut in the part that is last then
  cut : (n d : ℕ) → length D ≡ 16 → n ≡ k + 16 + d → take n ((A ++ D) ++ B) ≡ A ++ (D ++ take d B)
  cut n d ed h =
      let e : n ≡ length (A ++ D) + d = h ∙ ap (λ (x : ℕ). x + d) (sym (length-append A D ∙ ap₂ (λ (x y : ℕ). x + y) ea ed)) in
      ap (λ (x : ℕ). take x ((A ++ D) ++ B)) e ∙ take-append-add (A ++ D) B d ∙ append_assoc A D (take d B)

-- ---- the two, as lists

module _ (w : List ℕ) (nr : ℕ) (iv : State) (l : List ℕ) (m : ℕ) where
  -- CBC of the first m blocks, block m and block m + 1
  abbrev A : List ℕ
  A = walked (cbc_step w nr) cbc_next l iv m

  abbrev a : State
  a = cbc_step w nr (carried (cbc_step w nr) cbc_next l iv m) (state_at l (16 * m))

  abbrev b : State
  b = cbc_step w nr a (state_at l (16 * m + 16))

  stolen_is : long (cbc_step w nr) cbc_next (last_two w nr) iv l m ≡ A ++ (state_bytes b ++ take (length l - (16 * m + 16)) (state_bytes a))
  unfolding long last_two
  stolen_is =
      let p : state_at (drop (16 * m) l) 0 ≡ state_at l (16 * m) = state_rest l (16 * m) 0 ∙ ap (state_at l) (add-zero (16 * m)) in
      let q : state_at (drop (16 * m) l) 16 ≡ state_at l (16 * m + 16) = state_rest l (16 * m) 16 in
      let d : length (drop (16 * m) l) - 16 ≡ length l - (16 * m + 16) = simp length-drop (omega arith) in
      cc

  cbc_is : walked (cbc_step w nr) cbc_next l iv (suc (suc m)) ≡ (A ++ state_bytes a) ++ state_bytes b
  unfolding walked carried
  cbc_is =
      let k : 16 * suc m ≡ 16 * m + 16 = omega (arith, mul-suc 16 m) in
      ap (λ (x : ℕ). (A ++ state_bytes a) ++ state_bytes (cbc_step w nr a (state_at l x))) k

  padded_is : (n : ℕ) → n ≡ suc (suc m) → cbc_padded w nr iv l n ≡ (A ++ state_bytes a) ++ state_bytes b
  unfolding zeros
  padded_is n h =
      walked_same (cbc_step w nr) cbc_next l (l ++ zeros (16 * n - length l)) iv n (λ i k. padded_at l (16 * n - length l) (16 * i)) n (omega arith) ∙ ap (walked (cbc_step w nr) cbc_next l iv) h ∙ cbc_is

  stolen_swapped : (n : ℕ) → n ≡ suc (suc m) → 16 * m + 16 < length l → long (cbc_step w nr) cbc_next (last_two w nr) iv l m ≡ take (length l) (last_two_swapped (cbc_padded w nr iv l n) n)
  stolen_swapped n h lo =
      let i : 16 * (n - 2) ≡ 16 * m = omega arith in
      let j : 16 * (n - 1) ≡ 16 * m + 16 = omega arith in
      let C : List ℕ = (A ++ state_bytes a) ++ state_bytes b in
      let e : last_two_swapped (cbc_padded w nr iv l n) n ≡ (A ++ state_bytes b) ++ state_bytes a =
      ap (λ (x : List ℕ). last_two_swapped x n) (padded_is n h)
      ∙ ap₂ (λ (x y : ℕ). take x C ++ drop y C ++ take 16 (drop x C)) i j
      ∙ swapped A (state_bytes a) (state_bytes b) (16 * m) (length_walked (cbc_step w nr) cbc_next l iv m) (length_state a) in
      let d : length l ≡ 16 * m + 16 + (length l - (16 * m + 16)) = omega arith in
      stolen_is ∙ sym (ap (take (length l)) e ∙ cut A (state_bytes a) (state_bytes b) (16 * m) (length_walked (cbc_step w nr) cbc_next l iv m) (length_state a) (length l) (length l - (16 * m + 16)) (length_state b) d)

pub stolen : (w : List ℕ) (nr : ℕ) (iv : State) (l : List ℕ) → 16 < length l
    → cbc_cs3_encrypt w nr iv l ≡ take (length l) (last_two_swapped (cbc_padded w nr iv l ((length l + 15) / 16)) ((length l + 15) / 16))
unfolding cs3 long
stolen w nr iv l h =
    cs3_long (cbc_step w nr) cbc_next (last_two w nr) iv l h ∙ stolen_swapped w nr iv l ((length l - 17) / 16) ((length l + 15) / 16) (omega arith) (omega arith)
