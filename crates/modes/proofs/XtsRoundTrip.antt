-- XTS: decryption and encryption undo each other, for any number of rounds and of blocks; lengths are kept. Assumes nothing.
use mathlib.Core.Path.{◌≡◌, refl, ap, ◌∙◌}
use mathlib.Core.List.{List}
use Prim.Native.Nat.{ℕ, zero, suc, ◌*◌, ◌/◌, ◌<◌}
use native.Mathlib.Omega.{arith}
use lib.ListN.{length}
use Rattle.aes.specs.States.{add_round_key, state_at}
use Rattle.lists.specs.Bytes.{ByteList}
use Rattle.aes.specs.Cipher.{cipher, inv_cipher}
use Rattle.aes.specs.declared.Word.{Word}
use Rattle.aes.specs.declared.State.{State}
use Rattle.field.proofs.Xor.{⊕-lt}
use Rattle.aes.proofs.ByteStates.{ByteWord, ByteState, add_round_key_bytes}
use Rattle.aes.proofs.Inverse.{added_twice, inv_cipher_cipher, cipher_inv_cipher}
use Rattle.aes.proofs.ScheduleBytes.{state_at_bytes}
use Rattle.modes.specs.Walk.{carried, walked}
use Rattle.modes.specs.Xts.{tweaked, xts_aes, block_enc, block_dec, next_tweak, times_alpha, shifted_word, xts_aes_enc, xts_aes_dec}
use Rattle.modes.proofs.BlockLoop.{length_walked}
use Rattle.modes.proofs.RoundTrip.{unwalked}

shifted_word_bytes : (w : Word) (x : ℕ) → ByteWord w → x < 256 → ByteWord (shifted_word w x)
unfolding shifted_word
shifted_word_bytes w x h g =
    let h₀ : w.r0 < 256 = h.r0 in
    let h₁ : w.r1 < 256 = h.r1 in
    let h₂ : w.r2 < 256 = h.r2 in
    record {
      r0 = ⊕-lt _ _ (omega arith) g;
      r1 = ⊕-lt _ _ (omega arith) (omega arith);
      r2 = ⊕-lt _ _ (omega arith) (omega arith);
      r3 = ⊕-lt _ _ (omega arith) (omega arith);
    }

-- the digit that a byte hands on
over_lt : (b : ℕ) → b < 256 → b / 128 < 256
over_lt b h = omega arith

fold_lt : (b : ℕ) → b < 256 → b / 128 * 135 < 256
fold_lt b h = omega arith

pub times_alpha_bytes : (t : State) → ByteState t → ByteState (times_alpha t)
unfolding times_alpha
times_alpha_bytes t h =
    record {
      c0 = shifted_word_bytes _ _ h.c0 (fold_lt _ h.c3.r3);
      c1 = shifted_word_bytes _ _ h.c1 (over_lt _ h.c0.r3);
      c2 = shifted_word_bytes _ _ h.c2 (over_lt _ h.c1.r3);
      c3 = shifted_word_bytes _ _ h.c3 (over_lt _ h.c2.r3);
    }

-- ---- a function of states between two additions of the tweak: both directions are of this kind

tweak_bytes : (step : State → State → State) (l : List ℕ) (t : State) → ByteState t → (i : ℕ) → ByteState (carried step next_tweak l t i)
unfolding carried
tweak_bytes step l t h zero = h
tweak_bytes step l t h (suc i) = times_alpha_bytes _ (tweak_bytes step l t h i)

module _ (f g : State → State) (undo : (s : State) → ByteState s → g (f s) ≡ s) where
  tweaked_undo : (t p : State) → ByteState t → ByteState p → tweaked g t (tweaked f t p) ≡ p
  unfolding tweaked
  tweaked_undo t p ht hp =
      ap (λ (u : State). add_round_key (g u) t) (added_twice (f (add_round_key p t)) t)
      ∙ ap (λ (u : State). add_round_key u t) (undo (add_round_key p t) (add_round_key_bytes p t hp ht)) ∙ added_twice p t

  tweaked_back : (t : State) → ByteState t → (m : ℕ) (l : List ℕ) → ByteList l → length l ≡ 16 * m → walked (tweaked g) next_tweak (walked (tweaked f) next_tweak l t m) t m ≡ l
  tweaked_back t ht m l bytes e =
      unwalked (tweaked f) next_tweak l t (tweaked g) next_tweak m
      (λ i h. tweaked_undo (carried (tweaked f) next_tweak l t i) (state_at l (16 * i)) (tweak_bytes (tweaked f) l t ht i) (state_at_bytes l bytes (16 * i)))
      (λ u p. refl) e

-- ---- the two directions

module _ (w : List ℕ) (key_bytes_lem : ByteList w) (nr : ℕ) (t : State) (ht : ByteState t) (m : ℕ) (l : List ℕ) (bytes : ByteList l) where
  pub xts_dec_enc : length l ≡ 16 * m → xts_aes_dec w nr t m (xts_aes_enc w nr t m l) ≡ l
  unfolding xts_aes
  xts_dec_enc = tweaked_back (cipher w nr) (inv_cipher w nr) (inv_cipher_cipher w key_bytes_lem nr) t ht m l bytes

  pub xts_enc_dec : length l ≡ 16 * m → xts_aes_enc w nr t m (xts_aes_dec w nr t m l) ≡ l
  unfolding xts_aes
  xts_enc_dec = tweaked_back (inv_cipher w nr) (cipher w nr) (cipher_inv_cipher w key_bytes_lem nr) t ht m l bytes

pub length_xts_aes_enc : (w : List ℕ) (n : ℕ) (t : State) (m : ℕ) (l : List ℕ) → length (xts_aes_enc w n t m l) ≡ 16 * m
unfolding xts_aes
length_xts_aes_enc w n t m l = length_walked (block_enc w n) next_tweak l t m

pub length_xts_aes_dec : (w : List ℕ) (n : ℕ) (t : State) (m : ℕ) (l : List ℕ) → length (xts_aes_dec w n t m l) ≡ 16 * m
unfolding xts_aes
length_xts_aes_dec w n t m l = length_walked (block_dec w n) next_tweak l t m
