-- Words and states of bytes: each transformation of FIPS 197 makes bytes of bytes, and so do Cipher and InvCipher under a key schedule of bytes.
-- Assumes nothing.
use mathlib.Core.Path.{sym, subst}
use mathlib.Core.List.{List}
use Prim.Native.Nat.{ℕ, zero, suc, ◌-◌, ◌<◌}
use Rattle.lists.specs.Bytes.{ByteList}
use Rattle.aes.specs.Words.{mix_column, inv_mix_column, sub_word, inv_sub_word, add_word, word_at}
use Rattle.aes.specs.States.{sub_bytes, inv_sub_bytes, shift_rows, inv_shift_rows, mix_columns, inv_mix_columns, add_round_key, state_at}
use Rattle.aes.specs.Cipher.{round_key, round, rounds, last_round, cipher, inv_round, inv_rounds, inv_last_round, inv_cipher}
use Rattle.aes.specs.declared.Word.{Word}
use Rattle.aes.specs.declared.State.{State}
use Rattle.field.proofs.Xor.{⊕-lt, x_times_lt}
use Rattle.field.proofs.Boxes.{s_box_lt, inv_s_box_lt}
use Rattle.aes.proofs.MixColumns.{mix, inv_mix, mixed, mix_column_mixed, inv_mix_column_mixed}

pub record ByteWord (w : Word) : Type 0 where
  pub r0 : w.r0 < 256
  pub r1 : w.r1 < 256
  pub r2 : w.r2 < 256
  pub r3 : w.r3 < 256

pub record ByteState (s : State) : Type 0 where
  pub c0 : ByteWord s.c0
  pub c1 : ByteWord s.c1
  pub c2 : ByteWord s.c2
  pub c3 : ByteWord s.c3

-- ---- words

pub sub_word_bytes : (w : Word) → ByteWord w → ByteWord (sub_word w)
unfolding sub_word
sub_word_bytes w h = record { r0 = s_box_lt _ h.r0; r1 = s_box_lt _ h.r1; r2 = s_box_lt _ h.r2; r3 = s_box_lt _ h.r3 }

pub inv_sub_word_bytes : (w : Word) → ByteWord w → ByteWord (inv_sub_word w)
unfolding inv_sub_word
inv_sub_word_bytes w h = record { r0 = inv_s_box_lt _ h.r0; r1 = inv_s_box_lt _ h.r1; r2 = inv_s_box_lt _ h.r2; r3 = inv_s_box_lt _ h.r3 }

pub add_word_bytes : (w k : Word) → ByteWord w → ByteWord k → ByteWord (add_word w k)
unfolding add_word
add_word_bytes w k h g = record { r0 = ⊕-lt _ _ h.r0 g.r0; r1 = ⊕-lt _ _ h.r1 g.r1; r2 = ⊕-lt _ _ h.r2 g.r2; r3 = ⊕-lt _ _ h.r3 g.r3 }

mix_lt : (a b c d : ℕ) → a < 256 → b < 256 → c < 256 → d < 256 → mix a b c d < 256
unfolding mix
mix_lt a b c d ha hb hc hd = ⊕-lt _ _ (⊕-lt _ _ (⊕-lt _ _ (x_times_lt a ha) (⊕-lt _ _ (x_times_lt b hb) hb)) hc) hd

inv_mix_lt : (a b c d : ℕ) → a < 256 → b < 256 → c < 256 → d < 256 → inv_mix a b c d < 256
unfolding inv_mix
inv_mix_lt a b c d ha hb hc hd =
    ⊕-lt _ _
    (⊕-lt _ _
    (⊕-lt _ _ (x_times_lt _ (⊕-lt _ _ (x_times_lt _ (⊕-lt _ _ (x_times_lt a ha) ha)) ha))
    (⊕-lt _ _ (x_times_lt _ (⊕-lt _ _ (x_times_lt _ (x_times_lt b hb)) hb)) hb))
    (⊕-lt _ _ (x_times_lt _ (x_times_lt _ (⊕-lt _ _ (x_times_lt c hc) hc))) hc))
    (⊕-lt _ _ (x_times_lt _ (x_times_lt _ (x_times_lt d hd))) hd)

-- a column whose bytes are made by f, each from its own row on
mixed_bytes : (f : ℕ → ℕ → ℕ → ℕ → ℕ) → ((a b c d : ℕ) → a < 256 → b < 256 → c < 256 → d < 256 → f a b c d < 256) → (w : Word) → ByteWord w → ByteWord (mixed f w)
unfolding mixed
mixed_bytes f g w h =
    record {
      r0 = g _ _ _ _ h.r0 h.r1 h.r2 h.r3;
      r1 = g _ _ _ _ h.r1 h.r2 h.r3 h.r0;
      r2 = g _ _ _ _ h.r2 h.r3 h.r0 h.r1;
      r3 = g _ _ _ _ h.r3 h.r0 h.r1 h.r2;
    }

pub mix_column_bytes : (w : Word) → ByteWord w → ByteWord (mix_column w)
mix_column_bytes w h = subst (λ (v : Word). ByteWord v) (sym (mix_column_mixed w h.r0 h.r1 h.r2 h.r3)) (mixed_bytes mix mix_lt w h)

pub inv_mix_column_bytes : (w : Word) → ByteWord w → ByteWord (inv_mix_column w)
inv_mix_column_bytes w h = subst (λ (v : Word). ByteWord v) (sym (inv_mix_column_mixed w h.r0 h.r1 h.r2 h.r3)) (mixed_bytes inv_mix inv_mix_lt w h)

-- ---- states

pub sub_bytes_bytes : (s : State) → ByteState s → ByteState (sub_bytes s)
unfolding sub_bytes
sub_bytes_bytes s h = record { c0 = sub_word_bytes _ h.c0; c1 = sub_word_bytes _ h.c1; c2 = sub_word_bytes _ h.c2; c3 = sub_word_bytes _ h.c3 }

pub shift_rows_bytes : (s : State) → ByteState s → ByteState (shift_rows s)
unfolding shift_rows
shift_rows_bytes s h =
    record {
      c0 = record { r0 = h.c0.r0; r1 = h.c1.r1; r2 = h.c2.r2; r3 = h.c3.r3 };
      c1 = record { r0 = h.c1.r0; r1 = h.c2.r1; r2 = h.c3.r2; r3 = h.c0.r3 };
      c2 = record { r0 = h.c2.r0; r1 = h.c3.r1; r2 = h.c0.r2; r3 = h.c1.r3 };
      c3 = record { r0 = h.c3.r0; r1 = h.c0.r1; r2 = h.c1.r2; r3 = h.c2.r3 };
    }

pub mix_columns_bytes : (s : State) → ByteState s → ByteState (mix_columns s)
unfolding mix_columns
mix_columns_bytes s h = record { c0 = mix_column_bytes _ h.c0; c1 = mix_column_bytes _ h.c1; c2 = mix_column_bytes _ h.c2; c3 = mix_column_bytes _ h.c3 }

pub add_round_key_bytes : (s k : State) → ByteState s → ByteState k → ByteState (add_round_key s k)
unfolding add_round_key
add_round_key_bytes s k h g =
    record { c0 = add_word_bytes _ _ h.c0 g.c0; c1 = add_word_bytes _ _ h.c1 g.c1; c2 = add_word_bytes _ _ h.c2 g.c2; c3 = add_word_bytes _ _ h.c3 g.c3 }

pub inv_shift_rows_bytes : (s : State) → ByteState s → ByteState (inv_shift_rows s)
unfolding inv_shift_rows
inv_shift_rows_bytes s h =
    record {
      c0 = record { r0 = h.c0.r0; r1 = h.c3.r1; r2 = h.c2.r2; r3 = h.c1.r3 };
      c1 = record { r0 = h.c1.r0; r1 = h.c0.r1; r2 = h.c3.r2; r3 = h.c2.r3 };
      c2 = record { r0 = h.c2.r0; r1 = h.c1.r1; r2 = h.c0.r2; r3 = h.c3.r3 };
      c3 = record { r0 = h.c3.r0; r1 = h.c2.r1; r2 = h.c1.r2; r3 = h.c0.r3 };
    }

pub inv_sub_bytes_bytes : (s : State) → ByteState s → ByteState (inv_sub_bytes s)
unfolding inv_sub_bytes
inv_sub_bytes_bytes s h = record { c0 = inv_sub_word_bytes _ h.c0; c1 = inv_sub_word_bytes _ h.c1; c2 = inv_sub_word_bytes _ h.c2; c3 = inv_sub_word_bytes _ h.c3 }

pub inv_mix_columns_bytes : (s : State) → ByteState s → ByteState (inv_mix_columns s)
unfolding inv_mix_columns
inv_mix_columns_bytes s h =
    record { c0 = inv_mix_column_bytes _ h.c0; c1 = inv_mix_column_bytes _ h.c1; c2 = inv_mix_column_bytes _ h.c2; c3 = inv_mix_column_bytes _ h.c3 }

-- ---- rounds, under a key schedule of bytes

module _ (w : List ℕ) (bytes : ByteList w) where
  pub round_key_bytes : (i : ℕ) → ByteState (round_key w i)
  unfolding round_key state_at word_at
  round_key_bytes i =
      record {
        c0 = record { r0 = bytes _; r1 = bytes _; r2 = bytes _; r3 = bytes _ };
        c1 = record { r0 = bytes _; r1 = bytes _; r2 = bytes _; r3 = bytes _ };
        c2 = record { r0 = bytes _; r1 = bytes _; r2 = bytes _; r3 = bytes _ };
        c3 = record { r0 = bytes _; r1 = bytes _; r2 = bytes _; r3 = bytes _ };
      }

  round_bytes : (i : ℕ) (s : State) → ByteState s → ByteState (round w i s)
  unfolding round
  round_bytes i s h = add_round_key_bytes _ _ (mix_columns_bytes _ (shift_rows_bytes _ (sub_bytes_bytes _ h))) (round_key_bytes i)

  pub rounds_bytes : (i : ℕ) (s : State) → ByteState s → ByteState (rounds w i s)
  unfolding rounds
  rounds_bytes zero s h = h
  rounds_bytes (suc i) s h = round_bytes (suc i) _ (rounds_bytes i s h)

  pub cipher_bytes : (nr : ℕ) (s : State) → ByteState s → ByteState (cipher w nr s)
  unfolding cipher last_round
  cipher_bytes nr s h =
      add_round_key_bytes _ _ (shift_rows_bytes _ (sub_bytes_bytes _ (rounds_bytes (nr - 1) _ (add_round_key_bytes _ _ h (round_key_bytes 0))))) (round_key_bytes nr)

  pub inv_round_bytes : (i : ℕ) (s : State) → ByteState s → ByteState (inv_round w i s)
  unfolding inv_round
  inv_round_bytes i s h = inv_mix_columns_bytes _ (add_round_key_bytes _ _ (inv_sub_bytes_bytes _ (inv_shift_rows_bytes _ h)) (round_key_bytes i))

  inv_rounds_bytes : (i : ℕ) (s : State) → ByteState s → ByteState (inv_rounds w i s)
  unfolding inv_rounds
  inv_rounds_bytes zero s h = h
  inv_rounds_bytes (suc i) s h = inv_rounds_bytes i _ (inv_round_bytes (suc i) s h)

  pub inv_cipher_bytes : (nr : ℕ) (s : State) → ByteState s → ByteState (inv_cipher w nr s)
  unfolding inv_cipher inv_last_round
  inv_cipher_bytes nr s h =
      add_round_key_bytes _ _ (inv_sub_bytes_bytes _ (inv_shift_rows_bytes _ (inv_rounds_bytes (nr - 1) _ (add_round_key_bytes _ _ h (round_key_bytes nr))))) (round_key_bytes 0)
