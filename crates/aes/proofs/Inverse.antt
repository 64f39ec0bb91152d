-- Each transformation of FIPS 197 is undone by its inverse, and InvCipher and Cipher undo each other, for any number of rounds and any key schedule of bytes.
-- Assumes nothing.
use mathlib.Core.Path.{◌≡◌, refl, ap, ◌∙◌}
use mathlib.Core.List.{List}
use Prim.Native.Nat.{ℕ, zero, suc, ◌-◌}
use Rattle.field.specs.Field.{◌⊕◌}
use Rattle.lists.specs.Bytes.{ByteList}
use Rattle.aes.specs.Words.{mix_column, inv_mix_column, sub_word, inv_sub_word, add_word}
use Rattle.aes.specs.States.{sub_bytes, inv_sub_bytes, shift_rows, inv_shift_rows, mix_columns, inv_mix_columns, add_round_key}
use Rattle.aes.specs.Cipher.{round_key, round, rounds, last_round, cipher, inv_round, inv_rounds, inv_last_round, inv_cipher}
use Rattle.aes.specs.declared.Word.{Word}
use Rattle.aes.specs.declared.State.{State}
use Rattle.field.proofs.Xor.{⊕-assoc, ⊕-self, ⊕-zero}
use Rattle.field.proofs.Boxes.{inv_s_box_s_box, s_box_inv_s_box}
use Rattle.aes.proofs.MixColumns.{mix, inv_mix, mixed, mix_column_mixed, inv_mix_column_mixed, unmixed, remixed}
use Rattle.aes.proofs.ByteStates.{ByteWord, ByteState, mix_column_bytes, inv_mix_column_bytes, sub_bytes_bytes, shift_rows_bytes, mix_columns_bytes, add_round_key_bytes, inv_shift_rows_bytes, inv_sub_bytes_bytes, round_key_bytes, rounds_bytes, inv_round_bytes}

-- ---- words

⊕-undone : (a k : ℕ) → (a ⊕ k) ⊕ k ≡ a
⊕-undone a k = ⊕-assoc a k k ∙ ap (λ (x : ℕ). a ⊕ x) (⊕-self k) ∙ ⊕-zero a

add_word_undone : (w k : Word) → add_word (add_word w k) k ≡ w
unfolding add_word
add_word_undone w k = simp ⊕-undone

inv_sub_word_sub_word : (w : Word) → ByteWord w → inv_sub_word (sub_word w) ≡ w
unfolding inv_sub_word sub_word
inv_sub_word_sub_word w h = simp (inv_s_box_s_box w.r0 h.r0, inv_s_box_s_box w.r1 h.r1, inv_s_box_s_box w.r2 h.r2, inv_s_box_s_box w.r3 h.r3)

sub_word_inv_sub_word : (w : Word) → ByteWord w → sub_word (inv_sub_word w) ≡ w
unfolding inv_sub_word sub_word
sub_word_inv_sub_word w h = simp (s_box_inv_s_box w.r0 h.r0, s_box_inv_s_box w.r1 h.r1, s_box_inv_s_box w.r2 h.r2, s_box_inv_s_box w.r3 h.r3)

inv_mix_column_mix_column : (w : Word) → ByteWord w → inv_mix_column (mix_column w) ≡ w
inv_mix_column_mix_column w h =
    let m : ByteWord (mix_column w) = mix_column_bytes w h in
    inv_mix_column_mixed (mix_column w) m.r0 m.r1 m.r2 m.r3 ∙ ap (mixed inv_mix) (mix_column_mixed w h.r0 h.r1 h.r2 h.r3) ∙ unmixed w

mix_column_inv_mix_column : (w : Word) → ByteWord w → mix_column (inv_mix_column w) ≡ w
mix_column_inv_mix_column w h =
    let m : ByteWord (inv_mix_column w) = inv_mix_column_bytes w h in
    mix_column_mixed (inv_mix_column w) m.r0 m.r1 m.r2 m.r3 ∙ ap (mixed mix) (inv_mix_column_mixed w h.r0 h.r1 h.r2 h.r3) ∙ remixed w

-- ---- states

pub added_twice : (s k : State) → add_round_key (add_round_key s k) k ≡ s
unfolding add_round_key
added_twice s k = simp add_word_undone

inv_shift_rows_shift_rows : (s : State) → inv_shift_rows (shift_rows s) ≡ s
unfolding inv_shift_rows shift_rows
inv_shift_rows_shift_rows s = refl

shift_rows_inv_shift_rows : (s : State) → shift_rows (inv_shift_rows s) ≡ s
unfolding inv_shift_rows shift_rows
shift_rows_inv_shift_rows s = refl

inv_sub_bytes_sub_bytes : (s : State) → ByteState s → inv_sub_bytes (sub_bytes s) ≡ s
unfolding inv_sub_bytes sub_bytes
inv_sub_bytes_sub_bytes s h =
    simp (inv_sub_word_sub_word s.c0 h.c0, inv_sub_word_sub_word s.c1 h.c1, inv_sub_word_sub_word s.c2 h.c2, inv_sub_word_sub_word s.c3 h.c3)

sub_bytes_inv_sub_bytes : (s : State) → ByteState s → sub_bytes (inv_sub_bytes s) ≡ s
unfolding inv_sub_bytes sub_bytes
sub_bytes_inv_sub_bytes s h =
    simp (sub_word_inv_sub_word s.c0 h.c0, sub_word_inv_sub_word s.c1 h.c1, sub_word_inv_sub_word s.c2 h.c2, sub_word_inv_sub_word s.c3 h.c3)

inv_mix_columns_mix_columns : (s : State) → ByteState s → inv_mix_columns (mix_columns s) ≡ s
unfolding inv_mix_columns mix_columns
inv_mix_columns_mix_columns s h =
    simp (inv_mix_column_mix_column s.c0 h.c0, inv_mix_column_mix_column s.c1 h.c1, inv_mix_column_mix_column s.c2 h.c2, inv_mix_column_mix_column s.c3 h.c3)

mix_columns_inv_mix_columns : (s : State) → ByteState s → mix_columns (inv_mix_columns s) ≡ s
unfolding inv_mix_columns mix_columns
mix_columns_inv_mix_columns s h =
    simp (mix_column_inv_mix_column s.c0 h.c0, mix_column_inv_mix_column s.c1 h.c1, mix_column_inv_mix_column s.c2 h.c2, mix_column_inv_mix_column s.c3 h.c3)

-- ---- rounds. InvCipher's rounds lie half a round off Cipher's: between them stands the state after SubBytes and ShiftRows

middle : State → State
middle s = shift_rows (sub_bytes s)

inv_middle : State → State
inv_middle s = inv_sub_bytes (inv_shift_rows s)

middle_bytes : (s : State) → ByteState s → ByteState (middle s)
unfolding middle
middle_bytes s h = shift_rows_bytes _ (sub_bytes_bytes _ h)

inv_middle_bytes : (s : State) → ByteState s → ByteState (inv_middle s)
unfolding inv_middle
inv_middle_bytes s h = inv_sub_bytes_bytes _ (inv_shift_rows_bytes _ h)

inv_middle_middle : (s : State) → ByteState s → inv_middle (middle s) ≡ s
unfolding middle inv_middle
inv_middle_middle s h = ap inv_sub_bytes (inv_shift_rows_shift_rows (sub_bytes s)) ∙ inv_sub_bytes_sub_bytes s h

middle_inv_middle : (s : State) → ByteState s → middle (inv_middle s) ≡ s
unfolding middle inv_middle
middle_inv_middle s h = ap shift_rows (sub_bytes_inv_sub_bytes (inv_shift_rows s) (inv_shift_rows_bytes s h)) ∙ shift_rows_inv_shift_rows s

module _ (w : List ℕ) (bytes : ByteList w) where
  inv_round_middle : (i : ℕ) (s : State) → ByteState s → inv_round w i (middle (round w i s)) ≡ middle s
  unfolding round inv_round middle inv_middle
  inv_round_middle i s h =
      let k : State = round_key w i in
      let m : State = mix_columns (middle s) in
      let b : ByteState (mix_columns (middle s)) = mix_columns_bytes _ (middle_bytes s h) in
      ap (λ (u : State). inv_mix_columns (add_round_key u k)) (inv_middle_middle (add_round_key m k) (add_round_key_bytes _ _ b (round_key_bytes w bytes i)))
      ∙ ap inv_mix_columns (added_twice m k) ∙ inv_mix_columns_mix_columns (middle s) (middle_bytes s h)

  inv_rounds_rounds : (i : ℕ) (s : State) → ByteState s → inv_rounds w i (middle (rounds w i s)) ≡ middle s
  unfolding rounds inv_rounds
  inv_rounds_rounds zero s h = refl
  inv_rounds_rounds (suc i) s h = ap (inv_rounds w i) (inv_round_middle (suc i) (rounds w i s) (rounds_bytes w bytes i s h)) ∙ inv_rounds_rounds i s h

  pub inv_cipher_cipher : (nr : ℕ) (s : State) → ByteState s → inv_cipher w nr (cipher w nr s) ≡ s
  unfolding cipher inv_cipher last_round inv_last_round middle inv_middle
  inv_cipher_cipher nr s h =
      let k : State = round_key w 0 in
      let t : State = add_round_key s k in
      let b : ByteState (add_round_key s (round_key w 0)) = add_round_key_bytes s (round_key w 0) h (round_key_bytes w bytes 0) in
      ap (λ (u : State). add_round_key (inv_middle (inv_rounds w (nr - 1) u)) k) (added_twice (middle (rounds w (nr - 1) t)) (round_key w nr))
      ∙ ap (λ (u : State). add_round_key (inv_middle u) k) (inv_rounds_rounds (nr - 1) t b)
      ∙ ap (λ (u : State). add_round_key u k) (inv_middle_middle t b) ∙ added_twice s k

  round_inv_round : (i : ℕ) (s : State) → ByteState s → add_round_key (mix_columns (inv_round w i s)) (round_key w i) ≡ inv_middle s
  unfolding inv_round inv_middle
  round_inv_round i s h =
      let k : State = round_key w i in
      ap (λ (u : State). add_round_key u k) (mix_columns_inv_mix_columns (add_round_key (inv_middle s) k) (add_round_key_bytes _ _ (inv_middle_bytes s h) (round_key_bytes w bytes i)))
      ∙ added_twice (inv_middle s) k

  rounds_inv_rounds : (i : ℕ) (s : State) → ByteState s → middle (rounds w i (inv_middle (inv_rounds w i s))) ≡ s
  unfolding rounds inv_rounds round middle
  rounds_inv_rounds zero s h = middle_inv_middle s h
  rounds_inv_rounds (suc i) s h =
      ap (λ (u : State). middle (add_round_key (mix_columns u) (round_key w (suc i)))) (rounds_inv_rounds i (inv_round w (suc i) s) (inv_round_bytes w bytes (suc i) s h))
      ∙ ap middle (round_inv_round (suc i) s h) ∙ middle_inv_middle s h

  pub cipher_inv_cipher : (nr : ℕ) (s : State) → ByteState s → cipher w nr (inv_cipher w nr s) ≡ s
  unfolding cipher inv_cipher last_round inv_last_round middle inv_middle
  cipher_inv_cipher nr s h =
      let k : State = round_key w nr in
      let t : State = add_round_key s k in
      let b : ByteState (add_round_key s (round_key w nr)) = add_round_key_bytes s (round_key w nr) h (round_key_bytes w bytes nr) in
      ap (λ (u : State). add_round_key (middle (rounds w (nr - 1) u)) k) (added_twice (inv_middle (inv_rounds w (nr - 1) t)) (round_key w 0))
      ∙ ap (λ (u : State). add_round_key u k) (rounds_inv_rounds (nr - 1) t b) ∙ added_twice s k
